-- `pairing_load` meets its contract: a plain seed is tested as one word.
use mathlib.Core.Path.{◌∙◌}
use lib.ListN.{length}
use Rattle.stretch.specs.Load.{load_key, load_message}
use Rattle.stretch.proofs.Loads.{of_a_seed}
use Rattle.capi_keys.proofs.pairing_load.Goals as goal

pub returns : goal.returns
unfolding load_key load_message
returns c =
    let e = of_a_seed c.args.w (length c.args.key.now) (length c.args.message.now) in
    (c.answer.ensures ∙ c.load.ensures.0 ∙ e, rw e at c.load.ensures.1, rw e at c.load.ensures.2)
