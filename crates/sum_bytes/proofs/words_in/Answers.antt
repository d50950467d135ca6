-- `sum_bytes::words_in` meets its contract: the full words, and one more with the closing byte.
use mathlib.Core.Path.{sym, ap, ◌∙◌}
use Prim.Native.Nat.{ℕ, ◌+◌, ◌/◌}
use native.Mathlib.Omega.{arith}
use lib.ListN.{length}
use Rattle.sum_bytes.proofs.FromBytes.{words_elsewhere, words_in_lem, words_count}
use Rattle.sum_bytes.proofs.words_in.Goals as goal

pub returns-in-Some : goal.returns-in-Some
returns-in-Some c =
    let a = c.args in
    let xs = a.message.now in
    let good = c.in-Some.ensures.0 in
    let full = c.full_words.ensures ∙ ap (λ (k : ℕ). length xs / k) (omega (arith, c.in-Some.ensures.1)) in
    sym (words_in_lem a.w xs good ∙ words_count a.w xs good ∙ ap (λ (q : ℕ). q + 1) (sym full))

pub returns-in-None : goal.returns-in-None
returns-in-None c = sym (words_elsewhere c.args.w c.in-None.ensures c.args.message.now)
