-- Rows of words that fit a width: in parts, zeros, and word by word.
use mathlib.Core.Path.{◌≡◌, refl, sym, ap, ◌∙◌}
use mathlib.Core.Bool.{Bool, true, false, ◌&&◌, and_assoc, true≢false}
use mathlib.Core.List.{List, [], ◌∷◌, ◌++◌}
use Prim.Native.Nat.{ℕ, zero, suc, ◌^◌, ◌<◌}
use lib.Dec.{ltb}
use lib.Pow.{pow_pos}
use lib.ListN.{get_or, take, drop, replicate, take-append-drop}
use borrow.Author.Tests.{lt-ltb, ltb-true}
use Rattle.theory_counts.specs.Words.{fits}

-- both of two tests
pub both : (a b : Bool) → (a && b) ≡ true → (a ≡ true) × (b ≡ true)
both true b e = (refl, e)
both false b e = absurd (true≢false (sym e))

pub fits_append : (w : ℕ) (a b : List ℕ) → fits w (a ++ b) ≡ (fits w a && fits w b)
unfolding fits
fits_append w [] b = refl
fits_append w (x ∷ a) b = ap (λ (t : Bool). ltb x (2 ^ w) && t) (fits_append w a b) ∙ sym (and_assoc (ltb x (2 ^ w)) (fits w a) (fits w b))

-- parts of a row that fits
pub fits_parts : (w n : ℕ) (xs : List ℕ) → fits w xs ≡ true → (fits w (take n xs) ≡ true) × (fits w (drop n xs) ≡ true)
fits_parts w n xs h = both (fits w (take n xs)) (fits w (drop n xs)) (sym (fits_append w (take n xs) (drop n xs)) ∙ ap (fits w) (take-append-drop n xs) ∙ h)

pub fits_zeros : (w n : ℕ) → fits w (replicate n 0) ≡ true
unfolding fits
fits_zeros w zero = refl
fits_zeros w (suc n) = rw (lt-ltb 0 (2 ^ w) (pow_pos w)) (fits_zeros w n)

-- a row whose words are all below 2^w
pub fits_each : (w : ℕ) (xs : List ℕ) → ((i : ℕ) → get_or xs i 0 < 2 ^ w) → fits w xs ≡ true
unfolding fits
fits_each w [] h = refl
fits_each w (x ∷ xs) h = rw (lt-ltb x (2 ^ w) (h 0)) (fits_each w xs (λ i. h (suc i)))

-- each word of a row that fits
pub fits_at : (w : ℕ) (xs : List ℕ) (i : ℕ) → fits w xs ≡ true → get_or xs i 0 < 2 ^ w
unfolding fits
fits_at w [] i h = pow_pos w
fits_at w (x ∷ xs) zero h = ltb-true x (2 ^ w) (both (ltb x (2 ^ w)) (fits w xs) h).0
fits_at w (x ∷ xs) (suc i) h = fits_at w xs i (both (ltb x (2 ^ w)) (fits w xs) h).1
