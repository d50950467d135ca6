-- `answers::table::match_tray` meets its contract: what refuses first, the first row's length.
use Rattle.answers.specs.Table.{bad_rows}
use Rattle.answers.proofs.Refused.{handed_on, first_fails}
use Rattle.answers.proofs.table.match_tray.Goals as goal

pub returns-in_err-check : goal.returns-in_err-check
unfolding bad_rows
returns-in_err-check c = handed_on _ _ _ c.from_residual.ensures.1 (first_fails _ _ _ _ c.in_err-check.ensures)
