-- `state_sums::settings` meets its contract: the first check that refuses, else the last.
use Rattle.answers.proofs.Refused.{handed_on, first_stops, later_stops, last_decides}
use Rattle.state_sums.specs.State.{settings_tests}
use Rattle.state_sums.proofs.settings.Goals as goal

pub returns-in_err-width : goal.returns-in_err-width
unfolding settings_tests
returns-in_err-width c = handed_on _ _ _ c.from_residual.ensures.1 (first_stops _ _ _ c.in_err-width.ensures)

pub returns-in_err-kept : goal.returns-in_err-kept
unfolding settings_tests
returns-in_err-kept c = handed_on _ _ _ c.from_residual-in_err-kept.ensures.1 (later_stops _ _ _ c.in_ok-width.ensures (first_stops _ _ _ c.in_err-kept.ensures))

pub returns : goal.returns
unfolding settings_tests
returns c = last_decides _ _ _ c.in_ok-width.ensures (last_decides _ _ _ c.in_ok-kept.ensures c.count.ensures)
