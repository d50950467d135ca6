-- `stream::validation::pushing` meets its contract: the first check that refuses, else the last.
use Rattle.answers.proofs.Refused.{handed_on, first_stops, later_stops, last_decides}
use Rattle.stream.specs.Calls.{push_tests}
use Rattle.stream.proofs.validation.pushing.Goals as goal

pub returns-in_err-check : goal.returns-in_err-check
unfolding push_tests
returns-in_err-check c = handed_on _ _ _ c.from_residual.ensures.1 (first_stops _ _ _ (rw c.fit.ensures at c.in_err-check.ensures))

pub returns-in_err-long : goal.returns-in_err-long
unfolding push_tests
returns-in_err-long c = handed_on _ _ _ c.from_residual-in_err-long.ensures.1 (later_stops _ _ _ (rw c.fit.ensures at c.in_ok-check.ensures) (first_stops _ _ _ c.in_err-long.ensures))

pub returns : goal.returns
unfolding push_tests
returns c = last_decides _ _ _ (rw c.fit.ensures at c.in_ok-check.ensures) (last_decides _ _ _ c.in_ok-long.ensures c.key.ensures)
