-- `sum_walk::walk_pairs` meets its contract: where it can sum, there are n sums and key words for them.
use Rattle.std.proofs.Common.{sym, ◌∙◌}
use Rattle.sum_terms.proofs.Summable.{sums_are}
use Rattle.sum_walk.specs.Walk.{Ready}
use Rattle.sum_walk.proofs.walk_pairs.Goals as goal
use Rattle.sum_walk.proofs.walk_pairs.Goals.{Else-not-can_sum}

ready : (c : Else-not-can_sum) → Ready c.args.w c.args.n c.args.message.now c.args.key.now
ready c =
    let s = sums_are _ _ _ _ (sym c.can_sum.ensures ∙ c.if-not-can_sum.false) in
    (s.width, s.some_words, s.words, s.keys)

pub walk_for-requires : goal.walk_for-requires
walk_for-requires c = ready (goal.at.walk_for-requires c).Else-not-can_sum

pub walk_for-requires-else-tested : goal.walk_for-requires-else-tested
walk_for-requires-else-tested c = ready (goal.at.walk_for-requires-else-tested c).Else-not-can_sum
