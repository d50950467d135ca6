-- `stream::validation::opening_with_words` meets its contract: Word after the tests before it.
use mathlib.Core.Path.{refl, ◌∙◌}
use Rattle.answers.proofs.Refused.{some_number, same_refusal, states_all}
use Rattle.answers.proofs.Validation.{refusal_stands, later_stands}
use Rattle.stream.specs.Calls.{open_answer}
use Rattle.stream.proofs.validation.opening_with_words.Goals as goal

pub returns-in_err-opening : goal.returns-in_err-opening
unfolding open_answer
returns-in_err-opening c = same_refusal _ _ c.from_residual.ensures.1 ∙ refusal_stands _ c.in_err-opening.ensures _ (some_number _)

pub returns : goal.returns
unfolding open_answer
returns c = states_all _ _ c.words.ensures ∙ later_stands _ c.in_ok-opening.ensures _ refl
