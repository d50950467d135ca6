-- `stretch::load` meets its contract: a refusal writes nothing, and an accepted call writes the two rows of the generator that the seed makes.
use mathlib.Core.Path.{sym, refl, ◌∙◌}
use Rattle.answers.proofs.Refused.{some_number, same_refusal}
use Rattle.stretch.proofs.Loads.{load_refused, load_accepted, load_width}
use Rattle.stretch.proofs.load.Goals as goal

pub returns-in_err-validate : goal.returns-in_err-validate
returns-in_err-validate g c =
    let e = same_refusal _ _ c.from_residual.ensures.1 in
    load_refused _ _ _ _ (e ∙ (rw c.words.ensures at c.in_err-validate.ensures)) (λ z. some_number _ (sym e ∙ z))

pub write_rows-requires : goal.write_rows-requires
write_rows-requires g c = load_width _ _ _ _ (sym c.in_ok-validate.ensures)

pub returns : goal.returns
returns g c = load_accepted _ _ _ _ (rw c.words.ensures at c.in_ok-validate.ensures) (refl {a = 0}) c.write_rows.ensures
