-- The count over all keys, and what is counted (document 01, "The sum", last paragraph).
use Rattle.std.specs.Prelude.{Bool, true, false, ◌&&◌, List, [], ◌∷◌, ℕ, zero, suc, ◌+◌, ◌%◌, ◌^◌, eqb, get_or}

-- the sum of f 0, f 1, .. up to f (N - 1)
unfoldable pub sum_to : ℕ → (ℕ → ℕ) → ℕ
sum_to zero f = 0
sum_to (suc n) f = sum_to n f + f n

-- the sum of f over each row of l words below 2^w, taken once
unfoldable pub over_rows : ℕ → ℕ → (List ℕ → ℕ) → ℕ
over_rows w zero f = f []
over_rows w (suc l) f = sum_to (2 ^ w) (λ k. over_rows w l (λ ks. f (k ∷ ks)))

-- 1 where the test holds, else 0
unfoldable pub as_number : Bool → ℕ
as_number true = 1
as_number false = 0

-- 01, "A count of keys": how many rows of l words below 2^w pass the test
unfoldable pub count : ℕ → ℕ → (List ℕ → Bool) → ℕ
count w l p = over_rows w l (λ ks. as_number (p ks))

-- two rows are equal
unfoldable pub same_row : List ℕ → List ℕ → Bool
same_row [] [] = true
same_row [] (y ∷ ys) = false
same_row (x ∷ xs) [] = false
same_row (x ∷ xs) (y ∷ ys) = eqb x y && same_row xs ys

-- the test holds of 0, 1, .. up to n - 1
unfoldable pub every : ℕ → (ℕ → Bool) → Bool
every zero p = true
every (suc n) p = p 0 && every n (λ i. p (suc i))

-- 01, "Two digests under one key differ by": for every i, word i of the second equals word i of the first plus the i-th number, modulo 2^b
unfoldable pub differ_by : ℕ → ℕ → List ℕ → List ℕ → List ℕ → Bool
differ_by b n first second ds = every n (λ i. eqb (get_or second i 0 % 2 ^ b) ((get_or first i 0 + get_or ds i 0) % 2 ^ b))
