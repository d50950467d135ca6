-- `stream_rows::push` meets its contract: State, or what a push by value does; only an accepted one writes.
use mathlib.Core.Path.{refl, sym, ap, ◌∙◌}
use Rattle.answers.proofs.Refused.{state_stays}
use Rattle.answers.proofs.States.{state_accepted}
use Rattle.state_rows.proofs.Calls.{no_state, is_one, answer_by_value}
use Rattle.state_rows.proofs.Pieces.{last_piece}
use Rattle.stream_rows.specs.Rows.{row_of}
use Rattle.stream_rows.proofs.Rows.{stream_length}
use Rattle.stream_rows.specs.Calls.{push_row_answer, push_row}
use Rattle.stream_rows.proofs.push.Goals as goal

pub returns-in_err-stream : goal.returns-in_err-stream
unfolding push_row_answer push_row
returns-in_err-stream c = state_stays _ _ c.from_residual.ensures.1 (no_state _ _ c.in_err-stream.ensures.0 _) _ _

pub returns-in_err-push : goal.returns-in_err-push
unfolding push_row_answer push_row
returns-in_err-push c =
    let one = is_one _ c.in_ok-stream.ensures.0 in
    state_stays _ _ c.from_residual-in_err-push.ensures.1 ((rw c.in_ok-stream.ensures.1 at c.in_err-push.ensures.0) ∙ answer_by_value one _) _ _

pub returns : goal.returns
unfolding push_row_answer push_row
returns c =
    let one = is_one _ c.in_ok-stream.ensures.0 in
    let held = c.in_ok-stream.ensures.1 in
    let s = c.push.new.self in
    let all = c.write.ensures.1 ∙ sym (stream_length _ one) in
    state_accepted _ _ ((rw held at c.in_ok-push.ensures.0) ∙ answer_by_value one _) _ refl
    (last_piece (row_of s) _ _ all c.write.ensures.0 ∙ ap row_of (rw held at c.in_ok-push.ensures.1))
