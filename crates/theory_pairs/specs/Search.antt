-- The largest number of any pair, where each pair has a number. The pairs stand in a row of 128 · 128 places, place i for the messages i / 128 and i % 128.
use Rattle.std.specs.Prelude.{◌≡◌, Bool, true, false, List, ℕ, ◌+◌, ◌*◌, ◌/◌, ◌%◌, ◌≤◌, ◌<◌, ltb, eqb, get_or}
use Rattle.theory_counts.specs.Count.{as_number}
use Rattle.theory_counts.specs.Largest.{Largest}

-- a place that is a pair, and its number
unfoldable pub is_pair : ℕ → Bool
is_pair i = ltb (i / 128) (i % 128)

unfoldable pub of_pair : (ℕ → ℕ → ℕ) → ℕ → ℕ
of_pair f i = f (i / 128) (i % 128)

-- the number where the test holds, else 0
unfoldable pub or_zero : Bool → ℕ → ℕ
or_zero true x = x
or_zero false x = 0

-- the number at a place: 0 where the first message is not below the second, so that each pair has one place
unfoldable pub cell_at : (ℕ → ℕ → ℕ) → ℕ → ℕ
cell_at f i = or_zero (is_pair i) (of_pair f i)

-- the first n numbers of the row are those of the pairs
abbrev pub Filled : (ℕ → ℕ → ℕ) → List ℕ → ℕ → Type 0
Filled f xs n = (j : ℕ) → j < n → get_or xs j 0 ≡ cell_at f j

-- at is the first place, of those below n, with the largest number of the row
pub record First (xs : List ℕ) (n at : ℕ) : Type 0 where
  pub within : at < n
  pub most : (j : ℕ) → j < n → get_or xs j 0 ≤ get_or xs at 0
  pub before : (j : ℕ) → j < at → get_or xs j 0 < get_or xs at 0

-- 1 where x stands at the place i of the row, else 0
unfoldable pub stands_at : List ℕ → ℕ → ℕ → ℕ
stands_at xs x i = as_number (eqb (get_or xs i 0) x)

-- the largest number of any pair, the first pair that has it (by the first message, then the second), and how many pairs have it
abbrev pub LargestPair : (ℕ → ℕ → ℕ) → ℕ → ℕ → ℕ → ℕ → Type 0
LargestPair f largest first second pairs = (second < 128) × Largest is_pair (of_pair f) (128 * 128) largest (first * 128 + second) pairs
