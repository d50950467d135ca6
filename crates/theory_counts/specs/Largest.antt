-- The largest number that a search finds: at the places below n that a test names, each of which has a number.
use Rattle.std.specs.Prelude.{◌≡◌, Bool, true, ◌&&◌, ℕ, ◌≤◌, ◌<◌, eqb}
use Rattle.theory_counts.specs.Count.{sum_to, as_number}

-- 1 where the place a is named and has the number x, else 0
unfoldable pub reaches : (ℕ → Bool) → (ℕ → ℕ) → ℕ → ℕ → ℕ
reaches named f x a = as_number (named a && eqb (f a) x)

-- the largest number, the first place that has it, and how many have it
pub record Largest (named : ℕ → Bool) (f : ℕ → ℕ) (n largest first places : ℕ) : Type 0 where
  pub within : first < n
  pub is_named : named first ≡ true
  pub reached : f first ≡ largest
  pub most : (a : ℕ) → a < n → named a ≡ true → f a ≤ largest
  pub before : (a : ℕ) → a < first → named a ≡ true → f a < largest
  pub times : places ≡ sum_to n (reaches named f largest)
