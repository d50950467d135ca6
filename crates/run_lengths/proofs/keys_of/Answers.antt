use mathlib.Core.Path.{◌≡◌, refl, sym, ◌∙◌}
use Prim.Native.Nat.{◌+◌}
use native.Mathlib.Nat.{add-zero}
use native.Mathlib.Omega.{arith}
use borrow.Author.Rules.{rules}
use Rattle.theory_counts.specs.Count.{sum_to}
use Rattle.theory_counts.proofs.Sums.{sum_next}
use Rattle.run_lengths.proofs.Laws.{keys_after, first_word_done, in_order, one_turn}
use Rattle.run_lengths.proofs.keys_of.Goals as goal

pub loop-first-init : goal.loop-first-init
unfolding sum_to
loop-first-init c = (refl, omega arith)

pub loop-second-init : goal.loop-second-init
unfolding sum_to
loop-second-init c = (c.loop-first.invariant.0 ∙ sym (add-zero _), search rules)

pub loop-second-preserved : goal.loop-second-preserved
loop-second-preserved c =
    let turn = one_turn _ _ _ _ _ _ _ c.requires c.digest_of_none-wanted.ensures c.digest_of_one-start.ensures c.agreeing-count.ensures.0 in
    let l = c.loop-second in
    let first = c.loop-first.first in
    let byte = c.args.byte in
    let next : sum_to l.second (keys_after byte first) + c.agreeing-count.result ≡ sum_to (l.second + 1) (keys_after byte first) = sum_next _ _ _ _ refl turn in
    (omega (arith, l.invariant.0, next), omega (arith, c.agreeing-count.ensures.1))

pub loop-first-preserved : goal.loop-first-preserved
loop-first-preserved c =
    let l = c.loop-second in
    let all : l.second ≡ 256 = omega arith in
    ((rw all at l.invariant.0) ∙ sum_next _ _ _ _ refl (first_word_done _ _), omega arith)

pub returns : goal.returns
returns c =
    let all : c.loop-first.first ≡ 256 = omega arith in
    (rw all at c.loop-first.invariant.0) ∙ sym (in_order _)
