-- `run_lengths::most` meets its contract.
use mathlib.Core.Path.{refl}
use Rattle.run_lengths.proofs.most.Goals as goal

pub returns : goal.returns
returns c = refl
