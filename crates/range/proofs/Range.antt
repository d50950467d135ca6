-- The range test of words by the bits that stand in some word.
use mathlib.Core.Path.{◌≡◌, sym, ap, ◌∙◌}
use mathlib.Core.Bool.{Bool, ◌&&◌, and-true, and_assoc}
use mathlib.Core.List.{List, [], ◌∷◌}
use Prim.Native.Nat.{ℕ, ◌*◌, ◌^◌, ◌≤◌, ◌<◌}
use native.Mathlib.Nat.{le_of_lt, lt_of_le_of_lt, mul-le-mul_left, mul-lt-mul_of_pos_right}
use native.Mathlib.Decide.{dec_lt}
use native.Mathlib.Omega.{arith}
use lib.Bits.{bit_or, or_lt, or_add_and, and_le_l, and_le_r}
use lib.Dec.{ltb}
use lib.Pow.{pow_pos}
use borrow.Author.Tests.{lt-ltb, le-ltb}
use Rattle.theory_counts.specs.Words.{fits}
use Rattle.range.specs.Range.{joined}

-- a number of bits holds both words exactly where it holds all their bits
pub or_below : (w x y : ℕ) → ltb (bit_or x y) (2 ^ w) ≡ (ltb x (2 ^ w) && ltb y (2 ^ w))
or_below w x y = go (dec_lt x (2 ^ w)) (dec_lt y (2 ^ w))
  where
    left : x ≤ bit_or x y
    left = omega (arith, or_add_and x y, and_le_r x y)

    right : y ≤ bit_or x y
    right = omega (arith, or_add_and x y, and_le_l x y)

    go : Dec (x < 2 ^ w) → Dec (y < 2 ^ w) → ltb (bit_or x y) (2 ^ w) ≡ (ltb x (2 ^ w) && ltb y (2 ^ w))
    go (yes hx) (yes hy) = lt-ltb (bit_or x y) (2 ^ w) (or_lt w x y hx hy) ∙ sym (rw (lt-ltb x (2 ^ w) hx, lt-ltb y (2 ^ w) hy))
    go (yes hx) (no hy) = le-ltb (bit_or x y) (2 ^ w) (omega (arith, right)) ∙ sym (rw (lt-ltb x (2 ^ w) hx, le-ltb y (2 ^ w) (omega arith)))
    go (no hx) d = le-ltb (bit_or x y) (2 ^ w) (omega (arith, left)) ∙ sym (rw (le-ltb x (2 ^ w) (omega arith)))

joined_below : (w bits : ℕ) (ws : List ℕ) → ltb (joined bits ws) (2 ^ w) ≡ (ltb bits (2 ^ w) && fits w ws)
unfolding fits
joined_below w bits [] = sym (and-true (ltb bits (2 ^ w)))
joined_below w bits (x ∷ ws) =
    joined_below w (bit_or bits x) ws
    ∙ ap (λ (t : Bool). t && fits w ws) (or_below w bits x)
    ∙ and_assoc (ltb bits (2 ^ w)) (ltb x (2 ^ w)) (fits w ws)

-- all bits are below 2^w exactly where every word is
pub all_below : (w : ℕ) (ws : List ℕ) → ltb (joined 0 ws) (2 ^ w) ≡ fits w ws
all_below w ws = joined_below w 0 ws ∙ rw (lt-ltb 0 (2 ^ w) (pow_pos w))

-- the whole product of two words of 32 bits has no more than 64
pub product_below : {a b : ℕ} → a < 2 ^ 32 → b < 2 ^ 32 → a * b < 2 ^ 64
product_below {a} ha hb = lt_of_le_of_lt (mul-le-mul_left a (le_of_lt hb)) (mul-lt-mul_of_pos_right ha (pow_pos 32))
