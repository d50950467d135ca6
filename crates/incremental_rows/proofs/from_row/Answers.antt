-- `incremental_rows::from_row` meets its contract: the length, and the shared words.
use Rattle.answers.proofs.Refused.{handed_on, still_vacuous}
use Rattle.incremental.proofs.Made.{same_state}
use Rattle.incremental_rows.specs.Rows.{state_of, is_incremental}
use Rattle.incremental_rows.proofs.from_row.Goals as goal

pub returns-in_err-check : goal.returns-in_err-check
unfolding is_incremental
returns-in_err-check c =
    let is = c.from_residual.ensures.1 in
    (handed_on _ _ _ is c.in_err-check.ensures, still_vacuous _ _ _ is)

pub returns : goal.returns
unfolding is_incremental state_of
returns c = (c.in_ok-check.ensures, same_state c.from_row.ensures)
