-- The closed message: its length, its bytes, and the rest of it from a place on.
use mathlib.Core.Path.{◌≡◌}
use mathlib.Core.List.{List, [], ◌∷◌}
use Prim.Native.Nat.{ℕ, zero, suc, ◌+◌, ◌≤◌, ◌<◌}
use native.Mathlib.Omega.{arith}
use lib.ListN.{length, get_or, drop, length-append, get_or-append, get_or-eq_default}
use lib.Seq.{drop-append-le, get_or_at}
use Rattle.sum_bytes.specs.Bytes.{closed, Bytes}

-- a byte more
pub closed_length : (xs : List ℕ) → length (closed xs) ≡ length xs + 1
unfolding closed
closed_length xs = length-append xs (0x80 ∷ [])

-- its bytes: the message's, the closing byte, and none after it
pub closed_own : (xs : List ℕ) (i : ℕ) → i < length xs → get_or (closed xs) i 0 ≡ get_or xs i 0
unfolding closed
closed_own xs i lt = get_or-append xs (0x80 ∷ []) 0 i lt

pub closing_byte : (xs : List ℕ) (i : ℕ) → length xs ≡ i → get_or (closed xs) i 0 ≡ 0x80
unfolding closed
closing_byte xs i e = get_or_at xs 0x80 [] 0 i e

pub closed_none : (xs : List ℕ) (i : ℕ) → length xs < i → get_or (closed xs) i 0 ≡ 0
closed_none xs i lt = get_or-eq_default (closed xs) 0 {n = i} (omega (arith, closed_length xs))

-- from a place of the message on it is the closed rest
pub closed_drop : (n : ℕ) (xs : List ℕ) → n ≤ length xs → drop n (closed xs) ≡ closed (drop n xs)
unfolding closed
closed_drop n xs le = drop-append-le n xs (0x80 ∷ []) le

-- bytes with the closing one are bytes
pub closed_small : (xs : List ℕ) → Bytes xs → Bytes (closed xs)
unfolding closed
closed_small [] h zero = omega arith
closed_small [] h (suc i) = omega arith
closed_small (x ∷ xs) h zero = h zero
closed_small (x ∷ xs) h (suc i) = closed_small xs (λ j. h (suc j)) i
