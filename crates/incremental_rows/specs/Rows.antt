-- An incremental digest's state as a row: the twelve words that states of sums share, and no more.
use Rattle.std.specs.Prelude.{Bool, List, ℕ, eqb, length}
use Rattle.state_sums.specs.Rows.{sums_row, sums_of}
use Rattle.incremental.specs.declared.Incremental.{Incremental}

unfoldable pub row_of : Incremental → List ℕ
row_of s = sums_row s.held

-- the state that a row holds
unfoldable pub state_of : List ℕ → Incremental
state_of row = record { held = sums_of row }

-- whether a row is an incremental digest's: no other number of words
unfoldable pub is_incremental : List ℕ → Bool
is_incremental row = eqb (length row) 12
