-- `stream::validation::opening` meets its contract: the settings, then Key.
use Rattle.answers.proofs.Refused.{some_number, handed_on, states_later}
use Rattle.answers.proofs.Validation.{first_refuses}
use Rattle.stream.specs.Calls.{open_tests}
use Rattle.stream.proofs.validation.opening.Goals as goal

pub returns-in_err-settings : goal.returns-in_err-settings
unfolding open_tests
returns-in_err-settings c = handed_on _ _ _ c.from_residual.ensures.1 (first_refuses _ _ c.in_err-settings.ensures (some_number _))

pub returns : goal.returns
unfolding open_tests
returns c = states_later _ _ c.key.result c.in_ok-settings.ensures c.key.ensures
