-- `incremental::validation::opening` meets its contract: the settings, then Long and Key.
use Rattle.answers.proofs.Refused.{some_number, handed_on, first_stops, last_decides, states_later}
use Rattle.answers.proofs.Validation.{first_refuses}
use Rattle.incremental.specs.Calls.{open_tests}
use Rattle.incremental.proofs.validation.opening.Goals as goal

pub returns-in_err-settings : goal.returns-in_err-settings
unfolding open_tests
returns-in_err-settings c = handed_on _ _ _ c.from_residual.ensures.1 (first_refuses _ _ c.in_err-settings.ensures (some_number _))

pub returns-in_err-long : goal.returns-in_err-long
unfolding open_tests
returns-in_err-long c =
    let is = c.from_residual-in_err-long.ensures.1 in
    states_later _ _ c.from_residual-in_err-long.result c.in_ok-settings.ensures (handed_on _ _ _ is (first_stops _ _ _ c.in_err-long.ensures))

pub returns : goal.returns
unfolding open_tests
returns c = states_later _ _ c.key.result c.in_ok-settings.ensures (last_decides _ _ c.key.result c.in_ok-long.ensures c.key.ensures)
