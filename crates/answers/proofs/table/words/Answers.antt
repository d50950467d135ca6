-- `answers::table::words` meets its contract: what refuses first, the message's words.
use mathlib.Core.Path.{subst}
use mathlib.Core.Bool.{Bool, not}
use mathlib.Core.List.{[], ◌∷◌}
use Rattle.theory_counts.specs.Words.{fits}
use Rattle.answers.specs.Answers.{test, Validates}
use Rattle.answers.specs.Refusals.{number}
use Rattle.answers.specs.Table.{bad_words}
use Rattle.answers.proofs.Refused.{handed_on, first_fails}
use Rattle.answers.proofs.table.words.Goals as goal

pub returns-in_err-check : goal.returns-in_err-check
unfolding bad_words
returns-in_err-check c = handed_on _ _ _ c.from_residual.ensures.1 (first_fails _ (fits c.args.w c.args.message.now) (fits c.args.w c.args.key.now) _ (subst (λ (fit : Bool). Validates (test 7 (not fit) ∷ []) (number c.in_err-check.field-0.0)) c.row_fits.ensures c.in_err-check.ensures))
