-- A plain seed makes its generator.
use Rattle.stretch.proofs.Loads.{seeded_fit}
use Rattle.stretch.proofs.U32Seed.generator.Goals as goal

pub returns : goal.returns
returns c = (c.new.ensures, seeded_fit _ c.new.ensures)
