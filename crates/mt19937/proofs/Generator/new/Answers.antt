-- `Generator::new` meets its contract: the filled words, at position 624.
use Rattle.mt19937.specs.Published.{seeded}
use Rattle.mt19937.proofs.Generator.new.Goals as goal

pub returns : goal.returns
unfolding seeded
returns c = rw c.fill.ensures
