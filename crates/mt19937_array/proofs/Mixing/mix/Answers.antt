-- `Mixing::mix` meets its contract, by its definition.
use Rattle.mt19937_array.specs.SeedArray.{mixed}
use Rattle.mt19937_array.proofs.Mixing.mix.Goals as goal

pub returns : goal.returns
unfolding mixed
returns c = rw c.wrapping_mul.ensures
