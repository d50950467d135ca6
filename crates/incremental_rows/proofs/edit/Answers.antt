-- `incremental_rows::edit` meets its contract: State, or what an edit by value does; only an accepted one writes the state's row.
use mathlib.Core.Path.{refl, sym, ap, ◌∙◌}
use Rattle.answers.proofs.Refused.{state_stays}
use Rattle.answers.proofs.States.{state_accepted}
use Rattle.state_rows.proofs.Calls.{no_state, not_left, is_one, answer_by_value, left_by_value}
use Rattle.state_rows.proofs.Pieces.{last_piece}
use Rattle.incremental_rows.specs.Rows.{row_of}
use Rattle.incremental_rows.specs.Calls.{edit_row_answer, edit_row, edit_row_message}
use Rattle.incremental_rows.proofs.Rows.{incremental_length}
use Rattle.incremental_rows.proofs.edit.Goals as goal

pub returns-in_err-digest : goal.returns-in_err-digest
unfolding edit_row_answer edit_row edit_row_message
returns-in_err-digest c =
    let none = c.in_err-digest.ensures.0 in
    let left = state_stays _ _ c.from_residual.ensures.1 (no_state _ _ none _) _ _ in
    (left.0, left.1, not_left _ _ none _ _)

pub returns-in_err-edit : goal.returns-in_err-edit
unfolding edit_row_answer edit_row edit_row_message
returns-in_err-edit c =
    let one = is_one _ c.in_ok-digest.ensures.0 in
    let held = c.in_ok-digest.ensures.1 in
    let left = state_stays _ _ c.from_residual-in_err-edit.ensures.1 ((rw held at c.in_err-edit.ensures.0) ∙ answer_by_value one _) _ _ in
    (left.0, left.1, (rw held at c.in_err-edit.ensures.2) ∙ left_by_value one _ _)

pub returns : goal.returns
unfolding edit_row_answer edit_row edit_row_message
returns c =
    let one = is_one _ c.in_ok-digest.ensures.0 in
    let held = c.in_ok-digest.ensures.1 in
    let s = c.edit.new.self in
    let all = c.write.ensures.1 ∙ sym (incremental_length _ one) in
    let taken =
    state_accepted _ _ ((rw held at c.in_ok-edit.ensures.0) ∙ answer_by_value one _) _ refl
    (last_piece (row_of s) _ _ all c.write.ensures.0 ∙ ap row_of (rw held at c.in_ok-edit.ensures.1)) in
    (taken.0, taken.1, (rw held at c.in_ok-edit.ensures.2) ∙ left_by_value one _ _)
