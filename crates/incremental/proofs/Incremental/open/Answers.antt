-- `incremental::Incremental::open` meets its contract: a refusal leaves the all-zero state, an accepted call gives the opened one.
use mathlib.Core.Path.{◌≡◌, refl, ◌∙◌}
use mathlib.Core.Bool.{Bool, true, ◌&&◌}
use native.Mathlib.Nat.{suc-ne-zero}
use native.Mathlib.Omega.{arith}
use Rattle.answers.proofs.Refused.{some_number, state_stays, still_none}
use Rattle.answers.proofs.Validation.{refusal_stands}
use Rattle.answers.proofs.States.{state_refused, state_accepted}
use Rattle.theory_counts.specs.Words.{fits}
use Rattle.sum_terms.specs.Sums.{tests, checked_fit}
use Rattle.sum_terms.proofs.Summable.{checked_fit_all}
use Rattle.incremental.specs.State.{opened, no_incremental}
use Rattle.incremental.specs.Calls.{open_answer, open_state}
use Rattle.incremental.proofs.Valid.{ready, word_tested}
use Rattle.incremental.proofs.Made.{opening_sums, opened_over}
use Rattle.incremental.proofs.Incremental.open.Goals as goal
use Rattle.incremental.proofs.Incremental.open.Goals.{In_ok-opening}

pub returns-in_err-opening : goal.returns-in_err-opening
unfolding open_state open_answer
returns-in_err-opening c =
    let a = c.args in
    let is = c.from_residual.ensures.1 in
    let refused = state_stays _ _ is (refusal_stands _ c.in_err-opening.ensures _ (some_number _)) (opened a.w a.b a.n a.message.now a.key.now) no_incremental in
    (refused.0, still_none _ _ is no_incremental ∙ refused.1)

-- whether the words fit is the walk's answer
fit_words : (c : In_ok-opening) {t : Bool}
    → t ≡ checked_fit true c.args.w c.args.n c.args.message.now c.args.key.now
    → t ≡ (fits c.args.w c.args.message.now && fits c.args.w c.args.key.now)
unfolding tests
fit_words c e =
    let a = c.args in
    let p = ready a.w a.b a.n a.message.now a.key.now c.in_ok-opening.ensures refl in
    e ∙ checked_fit_all true a.w a.n a.message.now a.key.now (opening_sums a.w a.b a.n a.message.now a.key.now p) p.words

pub overflow_cast-message : goal.overflow_cast-message
overflow_cast-message c =
    let p = ready _ _ _ _ _ c.in_ok-opening.ensures refl in
    omega (arith, p.room)

pub returns-then-not-add_sums : goal.returns-then-not-add_sums
unfolding open_state
returns-then-not-add_sums c =
    state_refused _ _ (word_tested _ _ _ _ _ c.in_ok-opening.ensures refl (fit_words (goal.at.returns-then-not-add_sums c).In_ok-opening c.add_sums.ensures.0) c.if-not-add_sums.true) (suc-ne-zero 6)

pub returns : goal.returns
unfolding open_state
returns c =
    let p = ready _ _ _ _ _ c.in_ok-opening.ensures refl in
    let answered = word_tested _ _ _ _ _ c.in_ok-opening.ensures refl (fit_words (goal.at.returns c).In_ok-opening c.add_sums.ensures.0) c.if-not-add_sums.false in
    state_accepted _ _ answered _ refl (opened_over _ _ _ _ _ _ _ p c.new-held.ensures c.add_sums.ensures.1)
