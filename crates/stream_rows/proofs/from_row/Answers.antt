-- `stream_rows::from_row` meets its contract: the length, then the last word, and the pieces.
use Rattle.answers.specs.Refusals.{number}
use Rattle.answers.proofs.Refused.{handed_on, still_vacuous, first_fails, second_decides}
use Rattle.stream_rows.specs.Rows.{state_of, is_stream}
use Rattle.stream_rows.proofs.from_row.Goals as goal

pub returns-in_err-check : goal.returns-in_err-check
unfolding is_stream
returns-in_err-check c =
    let is = c.from_residual.ensures.1 in
    (handed_on _ _ _ is (first_fails _ _ _ _ c.in_err-check.ensures), still_vacuous _ _ _ is)

pub returns-in_err-check-2 : goal.returns-in_err-check-2
unfolding is_stream
returns-in_err-check-2 c =
    let is = c.from_residual-in_err-check-2.ensures.1 in
    (handed_on _ _ _ is (second_decides _ _ _ (number c.in_err-check-2.field-0.0) c.in_ok-check.ensures (rw c.word.ensures at c.in_err-check-2.ensures)), still_vacuous _ _ _ is)

pub returns : goal.returns
unfolding is_stream state_of
returns c =
    (second_decides _ _ _ 0 c.in_ok-check.ensures (rw c.word.ensures at c.in_ok-check-2.ensures), rw (c.from_row.ensures, c.read.ensures))
