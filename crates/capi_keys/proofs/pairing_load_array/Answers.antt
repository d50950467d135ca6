-- `pairing_load_array` meets its contract, by its definition.
use mathlib.Core.Path.{◌∙◌}
use Rattle.stretch.specs.Load.{load_array_key, load_array_message}
use Rattle.capi_keys.proofs.pairing_load_array.Goals as goal

pub returns : goal.returns
unfolding load_array_key load_array_message
returns c = (c.answer.ensures ∙ c.load.ensures.0, c.load.ensures.1, c.load.ensures.2)
