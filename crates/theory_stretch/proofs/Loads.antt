-- Rows of outputs go on, and a load is one of them, cut in two.
use mathlib.Core.Path.{sym, ◌∙◌}
use lib.ListN.{length}
use Rattle.answers.proofs.Rows.{accepted_row}
use Rattle.mt19937.specs.Published.{seeded}
use Rattle.mt19937_array.specs.SeedArray.{arrayed}
use Rattle.stretch.specs.Stretch.{stretched, stretched_array}
use Rattle.stretch.specs.Load.{load_key, load_message, load_array_key, load_array_message}
use Rattle.theory_stretch.specs.Claims.{OutputsGoOn, LoadGoesOn, LoadArrayGoesOn}
use Rattle.stretch.proofs.Rows.{outputs_append, row_whole}
use Rattle.stretch.proofs.Loads.{key_after_lem, load_stretches, of_a_seed, of_a_stretch, of_both, rows_after}

pub outputs_go_on : OutputsGoOn
unfolding OutputsGoOn
outputs_go_on k m g = outputs_append k m g

pub load_goes_on : LoadGoesOn
unfolding LoadGoesOn load_key load_message stretched
load_goes_on w seed key message e =
    let stretches = sym (of_both w (length key)) ∙ of_a_stretch w (length key) 1 ∙ load_stretches w 1 (length key) (length message) (of_a_seed w (length key) (length message) ∙ e) in
    let g = seeded seed in (
      key_after_lem w g key message _ e ∙ sym (accepted_row _ _ key stretches ∙ sym (row_whole w g key)),
      rows_after w g key message _ e,
    )

pub load_array_goes_on : LoadArrayGoesOn
unfolding LoadArrayGoesOn load_array_key load_array_message stretched_array
load_array_goes_on w seed key message e =
    let g = arrayed seed in (
      key_after_lem w g key message _ e ∙ sym (accepted_row _ _ key (load_stretches w (length seed) (length key) (length message) e) ∙ sym (row_whole w g key)),
      rows_after w g key message _ e,
    )
