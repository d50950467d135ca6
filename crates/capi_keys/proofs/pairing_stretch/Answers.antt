-- `pairing_stretch` meets its contract: a plain seed is tested as one word.
use mathlib.Core.Path.{◌∙◌}
use lib.ListN.{length}
use Rattle.stretch.specs.Stretch.{stretched}
use Rattle.stretch.specs.Load.{key_after}
use Rattle.stretch.proofs.Loads.{of_one_word}
use Rattle.capi_keys.proofs.pairing_stretch.Goals as goal

pub returns : goal.returns
unfolding stretched key_after
returns c =
    let e = of_one_word c.args.w (length c.args.out.now) in
    (c.answer.ensures ∙ c.stretch.ensures.0 ∙ e, rw e at c.stretch.ensures.1)
