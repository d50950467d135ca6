-- `stream_rows::open` meets its contract: Tray in its place, or what an opening by value does; only an accepted one writes.
use mathlib.Core.Path.{refl, ap, ◌∙◌}
use mathlib.Core.List.{List, [], ◌++◌}
use Prim.Native.Nat.{ℕ}
use lib.ListN.{length, drop}
use Rattle.answers.specs.Table.{word_test}
use Rattle.answers.proofs.Refused.{some_number, first_stops, slice_stays, states_all}
use Rattle.answers.proofs.Rows.{accepted}
use Rattle.answers.proofs.Validation.{refusal_stands, later_stands}
use Rattle.state_rows.proofs.Calls.{has_room, with_room, opened_row}
use Rattle.stream.specs.Calls.{open_tests, open_answer}
use Rattle.stream_rows.specs.Rows.{row_of}
use Rattle.stream_rows.specs.Calls.{open_row_answer, open_row}
use Rattle.stream_rows.proofs.open.Goals as goal

pub returns-in_err-opening : goal.returns-in_err-opening
unfolding open_row_answer open_row
returns-in_err-opening c = slice_stays _ _ c.from_residual.ensures.1 (refusal_stands _ c.in_err-opening.ensures _ (some_number _)) _ _

pub returns-in_err-tray : goal.returns-in_err-tray
unfolding open_row_answer open_row
returns-in_err-tray c =
    slice_stays _ _ c.from_residual-in_err-tray.ensures.1
    (states_all _ _ (first_stops _ _ _ c.in_err-tray.ensures) ∙ later_stands _ c.in_ok-opening.ensures _ refl) _ _

pub returns-in_err-opened : goal.returns-in_err-opened
unfolding open_row_answer open_row open_answer
returns-in_err-opened c =
    let a = c.args in
    let room = has_room _ _ c.in_ok-tray.ensures in
    slice_stays _ _ c.from_residual-in_err-opened.ensures.1
    (c.in_err-opened.ensures.0 ∙ with_room 21 a.state.now room (open_tests a.w a.b a.n a.key.now) (word_test a.w [] a.key.now)) _ _

pub returns : goal.returns
unfolding open_row_answer open_row open_answer
returns c =
    let room = has_room _ _ c.in_ok-tray.ensures in
    let a = c.args in
    let old = a.state.now in
    accepted _ _ (c.in_ok-opened.ensures.0 ∙ with_room 21 old room (open_tests a.w a.b a.n a.key.now) (word_test a.w [] a.key.now)) _ refl
    (opened_row 21 old room _ _ c.write.ensures.1 c.write.ensures.0 ∙ ap (λ (l : List ℕ). l ++ drop (length l) old) (ap row_of c.in_ok-opened.ensures.1))
