-- `mt19937_array::no_generator` meets its contract, by its definition.
use Rattle.std.proofs.Common.{refl}
use Rattle.mt19937_array.specs.SeedArray.{no_generator}
use Rattle.mt19937_array.proofs.no_generator.Goals as goal

pub returns : goal.returns
unfolding no_generator
returns c = refl
