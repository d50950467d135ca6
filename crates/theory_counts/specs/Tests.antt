-- What the tests inside a count mean, and that it takes each row once.
use Rattle.std.specs.Prelude.{◌≡◌, ◌↔◌, Bool, List, ℕ, ◌*◌, ◌^◌, ◌<◌, T}
use Rattle.theory_counts.specs.Count.{count, same_row, every}
use Rattle.theory_counts.specs.Words.{Row}

-- the row test inside the count is equality of rows
unfoldable pub RowTest : Type 0
RowTest = (xs ys : List ℕ) → T (same_row xs ys) ↔ (xs ≡ ys)

-- the test "for every i" inside the count says so of each i below n
unfoldable pub EveryTest : Type 0
EveryTest = (n : ℕ) (p : ℕ → Bool) → T (every n p) ↔ ((i : ℕ) → i < n → T (p i))

-- the count takes each row of l words below 2^w exactly once, and there are 2^(w·l) of them
unfoldable pub EachRowOnce : Type 0
EachRowOnce = (w l : ℕ) (r : List ℕ) → Row w l r → count w l (λ ks. same_row ks r) ≡ 1

unfoldable pub AllRows : Type 0
AllRows = (w l : ℕ) → count w l (λ ks. same_row ks ks) ≡ 2 ^ (w * l)
