-- `digest_words::validate` meets its contract: the first check that refuses, else the last.
use Rattle.answers.proofs.Refused.{handed_on, first_stops, later_stops, last_decides}
use Rattle.digest_words.specs.Call.{digest_tests}
use Rattle.digest_words.proofs.validate.Goals as goal

pub returns-in_err-width : goal.returns-in_err-width
unfolding digest_tests
returns-in_err-width c = handed_on _ _ _ c.from_residual.ensures.1 (first_stops _ _ _ c.in_err-width.ensures)

pub returns : goal.returns
unfolding digest_tests
returns c = last_decides _ _ _ c.in_ok-width.ensures c.validate_after_width.ensures
