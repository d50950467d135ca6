-- A state and its row: the row's length, that it is an incremental digest's, and the state that it holds.
use mathlib.Core.Path.{◌≡◌, sym, ap, ◌∙◌}
use mathlib.Core.Bool.{true}
use mathlib.Core.List.{List, [], append-nil}
use Prim.Native.Nat.{ℕ}
use lib.ListN.{length}
use borrow.Author.Tests.{eq-eqb, eqb-true}
use Rattle.state_sums.specs.Rows.{sums_row, sums_of}
use Rattle.state_sums.proofs.Rows as shared
use Rattle.incremental.specs.declared.Incremental.{Incremental}
use Rattle.incremental.proofs.Made.{same_state}
use Rattle.incremental_rows.specs.Rows.{row_of, state_of, is_incremental}

-- a row is one by its length, as the code compares it
pub ours : (row : List ℕ) → length row ≡ 12 → is_incremental row ≡ true
unfolding is_incremental
ours row e = eq-eqb (length row) 12 e

pub incremental_length : (row : List ℕ) → is_incremental row ≡ true → length row ≡ 12
unfolding is_incremental
incremental_length row e = eqb-true (length row) 12 e

module _ (s : Incremental) (sums : length s.held.sums ≡ 8) where
  pub all_words : length (row_of s) ≡ 12
  unfolding row_of
  all_words = shared.row_length s.held sums

  pub row_is : is_incremental (row_of s) ≡ true
  row_is = ours (row_of s) all_words

  -- a state is the one that its row holds
  pub state_kept : state_of (row_of s) ≡ s
  unfolding row_of state_of
  state_kept = same_state (ap sums_of (sym (append-nil (sums_row s.held))) ∙ shared.sums_kept s.held sums [])
