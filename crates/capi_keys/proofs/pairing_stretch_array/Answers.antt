-- `pairing_stretch_array` meets its contract, by its definition.
use mathlib.Core.Path.{◌∙◌}
use Rattle.stretch.specs.Stretch.{stretched_array}
use Rattle.stretch.specs.Load.{key_after}
use Rattle.capi_keys.proofs.pairing_stretch_array.Goals as goal

pub returns : goal.returns
unfolding stretched_array key_after
returns c = (c.answer.ensures ∙ c.stretch.ensures.0, c.stretch.ensures.1)
