-- `mt19937::follow` meets its contract: the product may be reduced before the sum.
use Rattle.std.proofs.Common.{◌^◌}
use native.Mathlib.Nat.{mod-add-mod}
use Rattle.mt19937.specs.Published.{following}
use Rattle.mt19937.proofs.follow.Goals as goal

pub returns : goal.returns
unfolding following
returns c = rw c.wrapping_mul.ensures (mod-add-mod _ (2 ^ 32) _)
