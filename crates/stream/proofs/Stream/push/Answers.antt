-- `stream::Stream::push` meets its contract: a refusal leaves the state, an accepted call makes the pushed one.
use mathlib.Core.Path.{refl, sym}
use native.Mathlib.Nat.{suc-ne-zero}
use Rattle.range.proofs.States.{row_parts}
use Rattle.answers.proofs.Refused.{some_number, state_stays}
use Rattle.answers.proofs.Validation.{refusal_stands}
use Rattle.answers.proofs.States.{state_refused, state_accepted}
use Rattle.stream.specs.Calls.{push_answer, push_state}
use Rattle.stream.proofs.Valid.{ready, word_tested}
use Rattle.stream.proofs.Stream.push.Goals as goal

pub returns-in_err-pushing : goal.returns-in_err-pushing
unfolding push_state push_answer
returns-in_err-pushing c = state_stays _ _ c.from_residual.ensures.1 (refusal_stands _ c.in_err-pushing.ensures _ (some_number _)) _ _

pub add_part-requires : goal.add_part-requires
add_part-requires c =
    let p = ready _ _ _ c.in_ok-pushing.ensures refl in
    let r = p.state.held.settings in
    (r.some_width, r.width, r.some_words, r.words, sym p.words, (row_parts _ _ _ p.state.keys).0)

pub returns-then-not-add_part : goal.returns-then-not-add_part
unfolding push_state
returns-then-not-add_part c = state_refused _ _ (word_tested _ _ _ c.in_ok-pushing.ensures refl c.add_part.ensures.0 c.if-not-add_part.true) (suc-ne-zero 6)

pub pushed-requires : goal.pushed-requires
pushed-requires c = (sym (word_tested _ _ _ c.in_ok-pushing.ensures refl c.add_part.ensures.0 c.if-not-add_part.false), c.add_part.ensures.1)

pub returns : goal.returns
unfolding push_state
returns c =
    state_accepted _ _ (word_tested _ _ _ c.in_ok-pushing.ensures refl c.add_part.ensures.0 c.if-not-add_part.false) _ refl c.pushed.ensures
