-- `stretch::keys::key_word` meets its contract: the upper w bits of the output.
use mathlib.Core.Path.{ap}
use Rattle.stretch.specs.Stretch.{key_word}
use Rattle.stretch.proofs.keys.key_word.Goals as goal

pub returns : goal.returns
unfolding key_word
returns c = ap (key_word _) c.temper_word.ensures
