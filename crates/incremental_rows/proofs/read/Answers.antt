-- `incremental_rows::read` meets its contract: State, or what a reading by value does.
use mathlib.Core.Path.{◌∙◌}
use Rattle.answers.proofs.Refused.{same_refusal}
use Rattle.state_rows.proofs.Calls.{no_state, not_left, is_one, answer_by_value, left_by_value}
use Rattle.incremental_rows.specs.Calls.{read_row_answer, read_row_out}
use Rattle.incremental_rows.proofs.read.Goals as goal

pub returns-in_err-from_row : goal.returns-in_err-from_row
unfolding read_row_answer read_row_out
returns-in_err-from_row c =
    let none = c.in_err-from_row.ensures.0 in
    (same_refusal _ _ c.from_residual.ensures.1 ∙ no_state _ _ none _, not_left _ _ none _ _)

pub returns : goal.returns
unfolding read_row_answer read_row_out
returns c =
    let one = is_one _ c.in_ok-from_row.ensures.0 in
    let held = c.in_ok-from_row.ensures.1 in
    ((rw held at c.read.ensures.0) ∙ answer_by_value one _, (rw held at c.read.ensures.1) ∙ left_by_value one _ _)
