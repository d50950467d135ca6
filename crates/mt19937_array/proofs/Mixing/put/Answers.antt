-- `Mixing::put` meets its contract, by whether the index wraps.
use Rattle.std.proofs.Common.{◌+◌, le-leb, arith}
use borrow.Author.Tests.{lt-leb}
use Rattle.mt19937_array.specs.SeedArray.{put}
use Rattle.mt19937_array.proofs.SeedArray.{onward_within}
use Rattle.mt19937_array.proofs.Mixing.put.Goals as goal

pub invariant_of-self : goal.invariant_of-self
invariant_of-self c =
    let i = onward_within 1 624 _ (omega arith) (omega arith) c.step_on-self.ensures in
    record { low = i.0; high = i.1 }

pub invariant_of-self-else-i-eq-LAST : goal.invariant_of-self-else-i-eq-LAST
invariant_of-self-else-i-eq-LAST c =
    let i = onward_within 1 624 _ (omega arith) (omega arith) c.step_on-self.ensures in
    record { low = i.0; high = i.1 }

pub returns-then-i-eq-LAST-clause-words : goal.returns-then-i-eq-LAST-clause-words
unfolding put
returns-then-i-eq-LAST-clause-words c = rw (le-leb 624 (c.args.self.now.i + 1) (omega arith))

pub returns-else-i-eq-LAST-clause-words : goal.returns-else-i-eq-LAST-clause-words
unfolding put
returns-else-i-eq-LAST-clause-words c = rw (lt-leb 624 (c.args.self.now.i + 1) (omega arith))
