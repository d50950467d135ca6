-- `mt19937::join` meets its contract, by its definition.
use Rattle.std.proofs.Common.{refl}
use Rattle.mt19937.specs.Published.{concatenated}
use Rattle.mt19937.proofs.join.Goals as goal

pub returns : goal.returns
unfolding concatenated
returns c = refl
