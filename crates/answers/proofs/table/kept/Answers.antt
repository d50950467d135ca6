-- `answers::table::kept` meets its contract: what refuses first, none kept.
use Rattle.answers.specs.Table.{bad_kept}
use Rattle.answers.proofs.Refused.{handed_on, either_stops}
use Rattle.answers.proofs.table.kept.Goals as goal

pub returns-in_err-check : goal.returns-in_err-check
unfolding bad_kept
returns-in_err-check c = handed_on _ _ _ c.from_residual.ensures.1 (either_stops _ _ _ _ c.in_err-check.ensures)
