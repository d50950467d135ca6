-- `mt19937_array::step_on` meets its contract, by whether the end is reached.
use Rattle.std.proofs.Common.{le-leb}
use borrow.Author.Tests.{lt-leb}
use Rattle.mt19937_array.specs.SeedArray.{onward}
use Rattle.mt19937_array.proofs.step_on.Goals as goal

pub returns-then-i-end : goal.returns-then-i-end
unfolding onward
returns-then-i-end c = rw (lt-leb _ _ c.if-i-end.true)

pub returns-else-i-end : goal.returns-else-i-end
unfolding onward
returns-else-i-end c = rw (le-leb _ _ c.if-i-end.false)
