-- Rows of a state's words (document 01, "Stream", and the table's row 8).
use Rattle.std.specs.Prelude.{Bool, ◌&&◌, List, ◌++◌, ℕ, length, take, drop, replicate}
use Rattle.theory_counts.specs.Words.{fits}

-- 8 State, a row of a state, of any length: n words below 2^w, and every unused place zero, the only number below 2^0
unfoldable pub fit_row : ℕ → ℕ → List ℕ → Bool
fit_row w n row = fits w (take n row) && fits 0 (drop n row)

-- 01, "Stream", "Unused places are zero": a row of a state of so many places, with the words first
unfoldable pub padded : ℕ → List ℕ → List ℕ
padded size words = words ++ drop (length words) (replicate size 0)
