-- `sum_words::total` meets its contract: what wraps at 2^64 is a multiple of 2^w.
use Rattle.std.proofs.Common.{ℕ, ◌+◌, ◌/◌, ◌%◌, ◌^◌, sym, ap, ◌∙◌, arith}
use native.Mathlib.Nat.{add-mod-mod}
use Rattle.theory_digest.specs.Digest.{kept}
use Rattle.sum_walk.proofs.Apart.{reduced}
use Rattle.sum_words.proofs.total.Goals as goal

pub returns : goal.returns
unfolding kept
returns c =
    let a = c.args in
    let walked = a.low + a.high / 2 ^ a.w in
    c.keep.ensures
    ∙ reduced a.w 32 _ (omega arith)
    ∙ reduced a.w 64 _ (omega arith)
    ∙ ap (λ (n : ℕ). (n + walked % 2 ^ 64) % 2 ^ a.w) c.from.ensures
    ∙ sym (add-mod-mod a.sum (walked % 2 ^ 64) (2 ^ a.w))
    ∙ ap (λ (n : ℕ). (a.sum + n) % 2 ^ a.w) (reduced a.w 64 walked (omega arith))
    ∙ add-mod-mod a.sum walked (2 ^ a.w)
