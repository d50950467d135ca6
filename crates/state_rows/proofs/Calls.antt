-- A call whose state is lent as a row: what it answers and leaves, by what the call that has the state by value does.
use mathlib.Core.Path.{◌≡◌, refl, sym, ap, ◌∙◌}
use mathlib.Core.Bool.{Bool, true, false, not, true≢false}
use mathlib.Core.List.{List, [], ◌∷◌, ◌++◌}
use Prim.Native.Nat.{ℕ}
use native.Mathlib.Nat.{suc-ne-zero}
use native.Mathlib.Omega.{arith}
use lib.ListN.{length, drop}
use borrow.Author.Tests.{not-false}
use Rattle.std.specs.Prelude.{Err}
use Rattle.rows.specs.Written.{over}
use Rattle.rows.proofs.Written.{over_fits}
use Rattle.answers.specs.declared.Refusal.{Refusal}
use Rattle.answers.specs.Answers.{Test, first_of, Validates, state_after}
use Rattle.answers.specs.Refusals.{number}
use Rattle.answers.specs.Table.{small_tray, state_test, tray_test}
use Rattle.answers.proofs.Refused.{some_number, refuses_where}
use Rattle.answers.proofs.States.{state_refused, state_accepted}
use Rattle.answers.proofs.Validation.{passes, passed, tray_passed, refusal_stands}
use Rattle.state_rows.specs.Calls.{row_answer, row_left}

-- what the test made of a row says of its kind
module _ (ofKind : Bool) where
  pub is_one : Validates (state_test ofKind ∷ []) 0 → ofKind ≡ true
  is_one j = not-false ofKind (passed 7 _ _ _ (j 0)).0

  module _ (refusal : Refusal) (j : Validates (state_test ofKind ∷ []) (number refusal)) where
    pub no_state : (answer : ℕ) → number refusal ≡ row_answer ofKind answer
    unfolding row_answer
    no_state answer = refusal_stands _ j answer (some_number refusal)

    none : ofKind ≡ false
    none = go ofKind (sym (refuses_where 8 (not ofKind) (Err refusal) j))
      where
        go : (b : Bool) → not b ≡ true → b ≡ false
        go true e = absurd (true≢false (sym e))
        go false e = refl

    pub not_left : (left old : List ℕ) → old ≡ row_left ofKind left old
    unfolding row_left
    not_left left old = rw none

-- a call that changes the row, by what it found: r is whether the row is one of its kind's
module _ {ofKind r : Bool} (e : r ≡ ofKind) where
  module _ (unlike : r ≡ false) where
    answers_eight : (answer : ℕ) → 8 ≡ row_answer ofKind answer
    unfolding row_answer first_of
    answers_eight answer = rw (sym e ∙ unlike)

    pub not_taken : (answer : ℕ) (new row : List ℕ) → (8 ≡ row_answer ofKind answer) × (row ≡ state_after (row_answer ofKind answer) new row)
    not_taken answer new row = state_refused new row (answers_eight answer) (suc-ne-zero 7)

  module _ (one : r ≡ true) where
    answers_so : {x answer : ℕ} → x ≡ answer → x ≡ row_answer ofKind answer
    unfolding row_answer first_of
    answers_so p = rw (sym e ∙ one) p

    -- the state's row after a refusal by value, and after an accepted call
    pub row_refused : {x answer : ℕ} (new row : List ℕ) → x ≡ answer → (x ≡ 0 → ⊥) → (x ≡ row_answer ofKind answer) × (row ≡ state_after (row_answer ofKind answer) new row)
    row_refused new row p ne = state_refused new row (answers_so p) ne

    pub row_taken : {x answer : ℕ} (new row after : List ℕ) → x ≡ answer → x ≡ 0 → after ≡ new → (x ≡ row_answer ofKind answer) × (after ≡ state_after (row_answer ofKind answer) new row)
    row_taken new row after p z wrote = state_accepted new row (answers_so p) after z wrote

-- what the call by value answers, or leaves in a lent row
module _ {ofKind : Bool} (one : ofKind ≡ true) where
  pub answer_by_value : (answer : ℕ) → answer ≡ row_answer ofKind answer
  unfolding row_answer first_of
  answer_by_value answer = rw one

  pub left_by_value : (left old : List ℕ) → left ≡ row_left ofKind left old
  unfolding row_left
  left_by_value left old = rw one

pub has_room : (size places : ℕ) → Validates (tray_test size places ∷ []) 0 → small_tray size places ≡ false
has_room size places j = (passed 5 _ _ _ (j 0)).0

-- an opening over a row of size places: its tests with Tray among them, by its tests without; and the words that it writes
module _ (size : ℕ) (old : List ℕ) (room : small_tray size (length old) ≡ false) where
  pub with_room : (before : List Test) (word : Test) → first_of before (first_of (word ∷ []) 0) ≡ first_of before (first_of (tray_test size (length old) ∷ word ∷ []) 0)
  with_room before word = ap (first_of before) (sym (passes 6 (word ∷ []) 0 refl room refl))

  pub opened_row : (words row : List ℕ) → length words ≡ size → row ≡ over words old → row ≡ words ++ drop (length words) old
  opened_row words row all wrote = wrote ∙ over_fits words old (omega (arith, tray_passed size (length old) room))
