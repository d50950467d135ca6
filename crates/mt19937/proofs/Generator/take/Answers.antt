-- `Generator::take` meets its contract, by its definition.
use Rattle.std.proofs.Common.{refl}
use Rattle.mt19937.specs.Published.{taken}
use Rattle.mt19937.proofs.Generator.take.Goals as goal

pub returns-clause-word : goal.returns-clause-word
unfolding taken
returns-clause-word c = c.temper_word-word.ensures

pub returns-clause-state : goal.returns-clause-state
unfolding taken
returns-clause-state c = refl
