-- `stream::adding::pushed` meets its contract: an accepted push has passed all that the count and the key words ask.
use mathlib.Core.Path.{◌≡◌}
use native.Mathlib.Omega.{arith}
use lib.ListN.{length}
use Rattle.stream.proofs.Valid.{Takes, takes}
use Rattle.stream.proofs.Made.{pushed_from}
use borrow.Author.Rules.{rules}
use Rattle.stream.proofs.adding.pushed.Goals as goal
use Rattle.stream.proofs.adding.pushed.Goals.{Start}

eights : (c : Start) → (length c.args.s.keys ≡ 8) × (length c.args.s.held.sums ≡ 8)
eights c = (search rules, search rules)

accepted : (c : Start) → Takes c.args.s c.args.message.now c.args.key.now
accepted c = takes _ _ _ c.requires.0

pub overflow_cast-count : goal.overflow_cast-count
overflow_cast-count c = omega (arith, (accepted (goal.at.overflow_cast-count c).Start).ready.room)

pub overflow_add-count : goal.overflow_add-count
overflow_add-count c = omega (arith, (accepted (goal.at.overflow_add-count c).Start).ready.room)

pub last-requires : goal.last-requires
last-requires c = (accepted (goal.at.last-requires c).Start).ready.state.held.settings.words

pub returns : goal.returns
returns c =
    let a = c.args in
    let long = eights (goal.at.returns c).Start in
    pushed_from a.s a.message.now a.key.now _ _ (accepted (goal.at.returns c).Start) long.0 long.1 c.last.ensures c.requires.1
