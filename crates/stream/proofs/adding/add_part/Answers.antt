-- `stream::adding::add_part` meets its contract: the sums over the joint row, and then those over the pushed key.
use mathlib.Core.Path.{◌≡◌}
use native.Mathlib.Omega.{arith}
use lib.ListN.{length, take, length-take}
use Rattle.range.proofs.States.{held_length}
use Rattle.stream.proofs.Joined.{held_sums_lem, joint_begun, joint_sums, short_fit, both_fit}
use borrow.Author.Rules.{rules}
use Rattle.stream.proofs.adding.add_part.Goals as goal
use Rattle.stream.proofs.adding.add_part.Goals.{Start}

whole : (c : Start) → length (take c.args.n c.args.held.now) ≡ c.args.n
whole c = held_length 8 c.args.n c.args.held.now (omega arith) (search rules)

pub slice_bounds-join-end : goal.slice_bounds-join-end
slice_bounds-join-end c = simp length-take (omega arith)

pub join-joint-requires : goal.join-joint-requires
join-joint-requires c = (search rules, simp length-take (omega arith))

pub slice_bounds-add_sums-end : goal.slice_bounds-add_sums-end
slice_bounds-add_sums-end c = simp length-take (omega arith)

pub returns-then-key-words : goal.returns-then-key-words
returns-then-key-words c =
    let a = c.args in
    let held = take a.n a.held.now in
    let s = held_sums_lem a.w a.n held a.message.now a.key.now (omega arith) (omega arith) (omega arith) (omega arith) (whole (goal.at.returns-then-key-words c).Start) (omega arith) in
    let rest = joint_begun a.w a.n c.min-first.result held a.message.now a.key.now (whole (goal.at.returns-then-key-words c).Start) (omega arith) c.min-first.ensures s a.sums.now in (
      short_fit a.w a.n c.min-first.result held a.message.now a.key.now (whole (goal.at.returns-then-key-words c).Start) (omega arith) c.min-first.ensures s a.sums.now
          c.requires.5 _ _ c.join-joint.ensures c.add_sums-begun.ensures.0 (omega arith),
      rest _ _ _ c.join-joint.ensures c.add_sums-begun.ensures.1 (omega arith),
    )

pub returns : goal.returns
returns c =
    let a = c.args in
    let held = take a.n a.held.now in
    let s = held_sums_lem a.w a.n held a.message.now a.key.now (omega arith) (omega arith) (omega arith) (omega arith) (whole (goal.at.returns c).Start) (omega arith) in (
      both_fit a.w a.n c.min-first.result held a.message.now a.key.now (whole (goal.at.returns c).Start) (omega arith) c.min-first.ensures s a.sums.now
          c.requires.5 _ _ c.join-joint.ensures c.add_sums-begun.ensures.0 (omega arith) c.add_sums-ended.ensures.0,
      joint_sums a.w a.n c.min-first.result held a.message.now a.key.now (whole (goal.at.returns c).Start) (omega arith) c.min-first.ensures s a.sums.now
          _ _ _ _ c.join-joint.ensures c.add_sums-begun.ensures.1 c.add_sums-ended.ensures.1 (omega arith),
    )
