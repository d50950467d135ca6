-- `incremental::validation::editing` meets its contract: the first check that refuses, else Word; where the words are tested, the place is inside.
use mathlib.Core.Path.{◌∙◌}
use Prim.Native.Nat.{◌+◌, ◌<◌}
use native.Mathlib.Omega.{arith}
use lib.ListN.{length, get_or}
use Rattle.answers.proofs.Refused.{first_stops, later_stops, last_decides, same_refusal, states_all}
use Rattle.answers.proofs.Validation.{passed, length_passed, key_passed, place_passed}
use Rattle.incremental.specs.Calls.{edit_answer, edit_tests}
use Rattle.incremental.proofs.Made.{key_words}
use Rattle.incremental.proofs.validation.editing.Goals as goal
use Rattle.incremental.proofs.validation.editing.Goals.{In_ok-place}

pub returns-in_err-check : goal.returns-in_err-check
unfolding edit_answer edit_tests
returns-in_err-check c = same_refusal _ _ c.from_residual.ensures.1 ∙ states_all _ _ (first_stops _ _ _ (rw c.fit.ensures at c.in_err-check.ensures))

pub returns-in_err-length : goal.returns-in_err-length
unfolding edit_answer edit_tests
returns-in_err-length c = same_refusal _ _ c.from_residual-in_err-length.ensures.1 ∙ states_all _ _ (later_stops _ _ _ (rw c.fit.ensures at c.in_ok-check.ensures) (first_stops _ _ _ c.in_err-length.ensures))

pub returns-in_err-key : goal.returns-in_err-key
unfolding edit_answer edit_tests
returns-in_err-key c = same_refusal _ _ c.from_residual-in_err-key.ensures.1 ∙ states_all _ _ (later_stops _ _ _ (rw c.fit.ensures at c.in_ok-check.ensures) (later_stops _ _ _ c.in_ok-length.ensures (first_stops _ _ _ c.in_err-key.ensures)))

pub returns-in_err-place : goal.returns-in_err-place
unfolding edit_answer edit_tests
returns-in_err-place c = same_refusal _ _ c.from_residual-in_err-place.ensures.1 ∙ states_all _ _ (later_stops _ _ _ (rw c.fit.ensures at c.in_ok-check.ensures) (later_stops _ _ _ c.in_ok-length.ensures (later_stops _ _ _ c.in_ok-key.ensures (first_stops _ _ _ c.in_err-place.ensures))))

inside : (c : In_ok-place) → (c.args.place < length c.args.message.now) × (c.args.place + c.args.s.now.held.n < length c.args.key.now)
inside c =
    let a = c.args in
    let t = a.s.now.held.count in
    let place = place_passed t a.place (passed 11 _ _ _ (c.in_ok-place.ensures 0)).0 in
    let words = length_passed t (length a.message.now) (passed 3 _ _ _ (c.in_ok-length.ensures 0)).0 in
    let keys = key_passed (t + a.s.now.held.n) (length a.key.now) (passed 4 _ _ _ (c.in_ok-key.ensures 0)).0 in
    (omega (arith, place, words), omega (arith, place, keys))

pub offset_bounds-message-place : goal.offset_bounds-message-place
offset_bounds-message-place c = let i = inside (goal.at.offset_bounds-message-place c).In_ok-place in omega (arith, i.0)

pub bounds-message-place : goal.bounds-message-place
bounds-message-place c = (inside (goal.at.bounds-message-place c).In_ok-place).0

pub overflow_add-place : goal.overflow_add-place
overflow_add-place c = let i = inside (goal.at.overflow_add-place c).In_ok-place in omega (arith, i.1)

pub overflow_add-place-2 : goal.overflow_add-place-2
overflow_add-place-2 c = let i = inside (goal.at.overflow_add-place-2 c).In_ok-place in omega (arith, i.1)

pub offset_bounds-key-place : goal.offset_bounds-key-place
offset_bounds-key-place c = let i = inside (goal.at.offset_bounds-key-place c).In_ok-place in omega (arith, i.1)

pub slice_bounds-words-end-2 : goal.slice_bounds-words-end-2
slice_bounds-words-end-2 c = let i = inside (goal.at.slice_bounds-words-end-2 c).In_ok-place in omega (arith, i.1)

pub returns : goal.returns
unfolding edit_answer edit_tests
returns c =
    let a = c.args in
    states_all _ _ (last_decides _ _ _ (rw c.fit.ensures at c.in_ok-check.ensures) (last_decides _ _ _ c.in_ok-length.ensures (last_decides _ _ _ c.in_ok-key.ensures (last_decides _ _ _ c.in_ok-place.ensures (key_words a.s.now.held.width a.s.now.held.n a.place (get_or a.message.now a.place 0) a.word a.key.now c.words.result c.words.ensures)))))
