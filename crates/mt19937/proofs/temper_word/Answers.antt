-- `mt19937::temper_word` meets its contract, by its definition.
use Rattle.std.proofs.Common.{refl}
use Rattle.mt19937.specs.Published.{temper}
use Rattle.mt19937.proofs.temper_word.Goals as goal

pub returns : goal.returns
unfolding temper
returns c = refl
