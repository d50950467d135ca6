-- The state and the message after a call, accepted or refused, and the state that an accepted edit leaves.
-- Assumes nothing.
use mathlib.Core.Path.{◌≡◌, refl, ap, ◌∙◌}
use mathlib.Core.Bool.{true, ◌&&◌}
use mathlib.Core.Logic.{◌≢◌}
use mathlib.Core.List.{List, [], ◌∷◌}
use Prim.Native.Nat.{ℕ, zero, suc, ◌^◌, ◌<◌}
use native.Mathlib.Decide.{ℕ_discrete}
use native.Mathlib.Omega.{arith}
use borrow.Author.Tests.{eq-eqb, ne_eqb}
use lib.Dec.{ltb}
use lib.ListN.{length, get_or, set, drop}
use Rattle.theory_counts.specs.Words.{fits}
use Rattle.theory_counts.proofs.Fits.{both}
use Rattle.answers.specs.Answers.{state_after}
use Rattle.answers.proofs.States.{new_state}
use Rattle.range.proofs.States.{row_parts}
use Rattle.state_sums.specs.State.{held_sums, updated}
use Rattle.state_sums.proofs.Shared as shared
use Rattle.incremental.specs.declared.Incremental.{Incremental}
use Rattle.incremental.specs.State.{edited, edit_sums}
use Rattle.incremental.specs.Calls.{edit_answer, edit_state, edit_message}
use Rattle.incremental.proofs.Valid.{Edits}
use Rattle.incremental.proofs.Made.{same_state, length_edit}
use Rattle.theory_incremental.proofs.Change.{edit_fits, edit_same}

-- what holds of the new where the call is accepted, and of the old where it is refused, holds of what the call leaves
module _ {S R : Type 0} (P : S → R → Type 0) (answer : ℕ) (new old : S) (new_row old_row : R) where
  pub either_way : (answer ≡ 0 → P new new_row) → (answer ≢ 0 → P old old_row) → P (state_after answer new old) (state_after answer new_row old_row)
  either_way f g = go (ℕ_discrete answer 0)
    where
      go : Dec (answer ≡ 0) → P (state_after answer new old) (state_after answer new_row old_row)
      go (yes e) = rw (eq-eqb answer 0 e) (f e)
      go (no ne) = rw (ne_eqb answer 0 ne) (g ne)

-- a fit state with its eight places
abbrev pub Good : Incremental → Type 0
Good s = shared.Good 65536 s.held

module _ (s : Incremental) (good : Good s) (ms ks : List ℕ) (place word : ℕ) where
  edited_length : length (edit_sums s.held.width (get_or ms place 0) word (drop place ks) (held_sums s.held)) ≡ s.held.n
  edited_length = length_edit s.held.width (get_or ms place 0) word (drop place ks) (held_sums s.held) ∙ shared.held_sums_lem 65536 s.held good

  pub edited_sums : held_sums (edited s ms ks place word).held ≡ edit_sums s.held.width (get_or ms place 0) word (drop place ks) (held_sums s.held)
  unfolding edited
  edited_sums = shared.updated_held 65536 s.held good s.held.count _ edited_length

  pub edited_good : Good (edited s ms ks place word)
  unfolding edited
  edited_good =
      shared.updated_good 65536 s.held good s.held.count _ edited_length good.fit.count
      (edit_fits s.held.width (get_or ms place 0) word (drop place ks) (held_sums s.held))

-- a word replaced by itself
pub edited_same : (s : Incremental) → Good s → (ms ks : List ℕ) (place : ℕ) → edited s ms ks place (get_or ms place 0) ≡ s
unfolding edited
edited_same s good ms ks place =
    let a = s.held in
    let fit = (row_parts a.width a.n a.sums good.fit.sums).0 in
    same_state
    (ap (updated a a.count) (edit_same a.width (get_or ms place 0) (drop place ks) (held_sums a) fit) ∙ shared.updated_same 65536 a good)

-- an accepted edit
module _ (s : Incremental) (ms ks : List ℕ) (place word : ℕ) where
  pub accepted_state : edit_answer s ms ks place word ≡ 0 → edit_state s ms ks place word ≡ edited s ms ks place word
  unfolding edit_state
  accepted_state a = new_state (edit_answer s ms ks place word) _ _ a

  pub accepted_message : edit_answer s ms ks place word ≡ 0 → edit_message s ms ks place word ≡ set ms place word
  unfolding edit_message
  accepted_message a = new_state (edit_answer s ms ks place word) _ _ a

  pub in_message : Edits s ms ks place word → place < length ms
  in_message e = omega (arith, e.words, e.inside)

-- the words of a message that fits, one of them replaced by a word that fits
pub set_fits : (w : ℕ) (ms : List ℕ) (place word : ℕ) → ltb word (2 ^ w) ≡ true → fits w ms ≡ true → fits w (set ms place word) ≡ true
unfolding fits
set_fits w [] place word h f = refl
set_fits w (m ∷ ms) zero word h f = rw h (both (ltb m (2 ^ w)) (fits w ms) f).1
set_fits w (m ∷ ms) (suc place) word h f = let p = both (ltb m (2 ^ w)) (fits w ms) f in rw p.0 (set_fits w ms place word h p.1)

-- the second of two words that fit
pub second_fits : (w x y : ℕ) → fits w (x ∷ y ∷ []) ≡ true → ltb y (2 ^ w) ≡ true
unfolding fits
second_fits w x y h = (both (ltb y (2 ^ w)) true (both (ltb x (2 ^ w)) (ltb y (2 ^ w) && true) h).1).0
