-- `incremental::Incremental::edit` meets its contract: a refusal gives state and message back, an accepted call writes the one word and corrects the sums.
use mathlib.Core.Path.{refl, sym}
use native.Mathlib.Omega.{arith}
use Rattle.answers.proofs.Refused.{state_stays}
use Rattle.answers.proofs.States.{state_accepted, new_state}
use Rattle.incremental.specs.State.{edited}
use Rattle.incremental.specs.Calls.{edit_state, edit_message}
use Rattle.incremental.proofs.Valid.{Edits, edits}
use Rattle.incremental.proofs.Made.{edited_from}
use Rattle.incremental.proofs.Incremental.edit.Goals as goal
use Rattle.incremental.proofs.Incremental.edit.Goals.{In_ok-editing}

pub returns-in_err-editing : goal.returns-in_err-editing
unfolding edit_state edit_message
returns-in_err-editing c =
    let is = c.from_residual.ensures.1 in
    let state = state_stays _ _ is c.in_err-editing.ensures (edited c.args.self.now c.args.message.now c.args.key.now c.args.place c.args.word) c.args.self.now in
    (state.0, state.1, (state_stays _ _ is c.in_err-editing.ensures _ _).1)

passed : (c : In_ok-editing) → Edits c.args.self.now c.args.message.now c.args.key.now c.args.place c.args.word
passed c = edits _ _ _ _ _ (sym c.in_ok-editing.ensures)

pub offset_bounds-message-place : goal.offset_bounds-message-place
offset_bounds-message-place c = let p = passed (goal.at.offset_bounds-message-place c).In_ok-editing in omega (arith, p.inside, p.words)

pub bounds-message-place : goal.bounds-message-place
bounds-message-place c = let p = passed (goal.at.bounds-message-place c).In_ok-editing in omega (arith, p.inside, p.words)

pub offset_bounds-key-place : goal.offset_bounds-key-place
offset_bounds-key-place c = let p = passed (goal.at.offset_bounds-key-place c).In_ok-editing in omega (arith, p.inside, p.words)

pub slice_bounds-corrected-count : goal.slice_bounds-corrected-count
slice_bounds-corrected-count c = let p = passed (goal.at.slice_bounds-corrected-count c).In_ok-editing in omega (arith, p.inside, p.keys)

pub slice_bounds-corrected-start : goal.slice_bounds-corrected-start
slice_bounds-corrected-start c = let p = passed (goal.at.slice_bounds-corrected-start c).In_ok-editing in omega (arith, p.inside, p.keys)

pub offset_bounds-message-place-2 : goal.offset_bounds-message-place-2
offset_bounds-message-place-2 c = let p = passed (goal.at.offset_bounds-message-place-2 c).In_ok-editing in omega (arith, p.inside, p.words)

pub bounds-message-place-2 : goal.bounds-message-place-2
bounds-message-place-2 c = let p = passed (goal.at.bounds-message-place-2 c).In_ok-editing in omega (arith, p.inside, p.words)

pub returns : goal.returns
unfolding edit_state edit_message
returns c =
    let accepted = state_accepted _ _ c.in_ok-editing.ensures _ refl (edited_from _ _ _ _ _ (passed (goal.at.returns c).In_ok-editing) _ c.corrected-self.ensures.1 c.corrected-self.ensures.0) in
    (accepted.0, accepted.1, sym (new_state _ _ _ (sym c.in_ok-editing.ensures)))
