-- The test that two rows agree by the bits in which some place differs.
use mathlib.Core.Path.{◌≡◌, sym, ap, ◌∙◌}
use mathlib.Core.Bool.{Bool, ◌&&◌, and-true, and_assoc}
use mathlib.Core.List.{List, [], ◌∷◌}
use Prim.Native.Nat.{ℕ}
use native.Mathlib.Decide.{ℕ_discrete}
use native.Mathlib.Omega.{arith}
use lib.Bits.{bit_or, bit_xor, or_add_and, xor_add_and, xor_self, and_le_l, and_le_r}
use lib.Dec.{eqb}
use lib.ListN.{length}
use borrow.Author.Tests.{eq-eqb, ne_eqb}
use Rattle.std.specs.List.{fold, zip}
use Rattle.theory_counts.specs.Count.{same_row}
use Rattle.digest_match.specs.Match.{differing}

-- no bit of two words differs exactly where they are equal
xor_zero : (x y : ℕ) → bit_xor x y ≡ 0 → x ≡ y
xor_zero x y e = omega (arith, xor_add_and x y, and_le_l x y, and_le_r x y)

pub or_none : (bits x y : ℕ) → eqb (bit_or bits (bit_xor x y)) 0 ≡ (eqb bits 0 && eqb x y)
or_none bits x y = go (ℕ_discrete bits 0) (ℕ_discrete x y)
  where
    d : ℕ
    d = bit_xor x y

    go : Dec (bits ≡ 0) → Dec (x ≡ y) → eqb (bit_or bits d) 0 ≡ (eqb bits 0 && eqb x y)
    go (yes e) (yes f) =
        let same : d ≡ 0 = ap (bit_xor x) (sym f) ∙ xor_self x in
        eq-eqb (bit_or bits d) 0 (omega (arith, or_add_and bits d)) ∙ sym (rw (eq-eqb bits 0 e, eq-eqb x y f))
    go (yes e) (no f) =
        ne_eqb (bit_or bits d) 0 (λ z. f (xor_zero x y (omega (arith, or_add_and bits d, and_le_l bits d))))
        ∙ sym (rw (eq-eqb bits 0 e, ne_eqb x y f))
    go (no e) g =
        ne_eqb (bit_or bits d) 0 (λ z. e (omega (arith, or_add_and bits d, and_le_r bits d)))
        ∙ sym (rw (ne_eqb bits 0 e))

-- the bits so far, joined by those in which some place differs
joined : (bits : ℕ) (xs ys : List ℕ) → length xs ≡ length ys
    → eqb (fold (λ (b : ℕ) (p : ℕ × ℕ). bit_or b (bit_xor p.0 p.1)) bits (zip xs ys)) 0 ≡ (eqb bits 0 && same_row xs ys)
unfolding same_row
joined bits [] [] e = sym (and-true (eqb bits 0))
joined bits [] (y ∷ ys) e = absurd (omega arith)
joined bits (x ∷ xs) [] e = absurd (omega arith)
joined bits (x ∷ xs) (y ∷ ys) e =
    joined (bit_or bits (bit_xor x y)) xs ys (omega arith)
    ∙ ap (λ (t : Bool). t && same_row xs ys) (or_none bits x y)
    ∙ and_assoc (eqb bits 0) (eqb x y) (same_row xs ys)

-- no bit differs exactly where rows of one length agree
pub unlike_tells : {n bits : ℕ} (xs ys : List ℕ) → length xs ≡ n → length ys ≡ n → bits ≡ differing xs ys → eqb bits 0 ≡ same_row xs ys
unlike_tells xs ys e f h = ap (λ (b : ℕ). eqb b 0) h ∙ joined 0 xs ys (e ∙ sym f)
