-- The tests inside a count: what they mean, and as numbers.
-- Assumes nothing.
use mathlib.Core.Path.{◌≡◌, refl, sym, ap, ap₂, ◌∙◌, subst}
use mathlib.Core.Bool.{Bool, true, false, ◌&&◌}
use mathlib.Core.List.{List, [], ◌∷◌}
use Prim.Native.Nat.{ℕ, zero, suc, ◌*◌, ◌^◌, ◌<◌}
use native.Mathlib.Nat.{not-suc-le-zero, le_of_suc-le-suc, mul-one, mul_comm, suc-ne-zero}
use native.Mathlib.Omega.{arith}
use lib.Dec.{T, eqb, ltb, ltb→lt, eqb→eq, eqb_refl}
use lib.ListN.{length}
use Rattle.theory_counts.specs.Words.{fits}
use Rattle.theory_counts.specs.Count.{over_rows, as_number, count, same_row, every}
use Rattle.theory_counts.specs.Tests.{RowTest, EveryTest, EachRowOnce, AllRows}
use Rattle.theory_counts.proofs.Sums.{sum_cong}
use Rattle.theory_counts.proofs.Rows.{rows_cong, rows_mul, rows_one}
use Rattle.theory_counts.proofs.Congruent.{at_one}

pub holds : (b : Bool) → T b → b ≡ true
holds true t = refl
holds false t = absurd t

-- both of two tests
pub both_hold : (a b : Bool) → T (a && b) → T a × T b
both_hold true b t = (tt, t)
both_hold false b t = absurd t

pub join : (a b : Bool) → T a → T b → T (a && b)
join true b s t = t
join false b s t = s

pub fits_cons : (w x : ℕ) (xs : List ℕ) → T (fits w (x ∷ xs)) → (x < 2 ^ w) × T (fits w xs)
unfolding fits
fits_cons w x xs t =
    let h : T (ltb x (2 ^ w)) × T (fits w xs) = both_hold (ltb x (2 ^ w)) (fits w xs) t in
    (ltb→lt x (2 ^ w) h.0, h.1)

pub both_number : (a b : Bool) → as_number (a && b) ≡ as_number b * as_number a
unfolding as_number
both_number true true = refl
both_number true false = refl
both_number false true = refl
both_number false false = refl

same_equal : (xs ys : List ℕ) → T (same_row xs ys) → xs ≡ ys
unfolding same_row
same_equal [] [] t = refl
same_equal [] (y ∷ ys) t = absurd t
same_equal (x ∷ xs) [] t = absurd t
same_equal (x ∷ xs) (y ∷ ys) t =
    let h : T (eqb x y) × T (same_row xs ys) = both_hold (eqb x y) (same_row xs ys) t in
    ap₂ (λ (z : ℕ) (zs : List ℕ). z ∷ zs) (eqb→eq x y h.0) (same_equal xs ys h.1)

same_self : (xs : List ℕ) → T (same_row xs xs)
unfolding same_row
same_self [] = tt
same_self (x ∷ xs) = join (eqb x x) (same_row xs xs) (eqb_refl x) (same_self xs)

pub row_test : RowTest
unfolding RowTest
row_test xs ys = (same_equal xs ys, λ e. subst (λ (l : List ℕ). T (same_row xs l)) e (same_self xs))

every_to : (n : ℕ) (p : ℕ → Bool) → T (every n p) → (i : ℕ) → i < n → T (p i)
unfolding every
every_to zero p t i lt = absurd (not-suc-le-zero lt)
every_to (suc n) p t zero lt = (both_hold (p 0) (every n (λ i. p (suc i))) t).0
every_to (suc n) p t (suc i) lt = every_to n (λ i. p (suc i)) (both_hold (p 0) (every n (λ i. p (suc i))) t).1 i (le_of_suc-le-suc lt)

every_from : (n : ℕ) (p : ℕ → Bool) → ((i : ℕ) → i < n → T (p i)) → T (every n p)
unfolding every
every_from zero p h = tt
every_from (suc n) p h = join (p 0) (every n (λ i. p (suc i))) (h 0 (omega arith)) (every_from n (λ i. p (suc i)) (λ i lt. h (suc i) (omega arith)))

pub every_test : EveryTest
unfolding EveryTest
every_test n p = (every_to n p, every_from n p)

once : (w l : ℕ) (r : List ℕ) → length r ≡ l → T (fits w r) → over_rows w l (λ ks. as_number (same_row ks r)) ≡ 1
unfolding over_rows same_row as_number
once w zero [] e t = refl
once w zero (x ∷ xs) e t = absurd (suc-ne-zero (length xs) e)
once w (suc l) [] e t = absurd (suc-ne-zero l (sym e))
once w (suc l) (x ∷ xs) e t =
    sum_cong (2 ^ w) (first (once w l xs (omega arith) (fits_cons w x xs t).1))
    ∙ at_one (2 ^ w) x (fits_cons w x xs t).0
  where
    first : over_rows w l (λ ks. as_number (same_row ks xs)) ≡ 1 → (k : ℕ) → over_rows w l (λ ks. as_number (eqb k x && same_row ks xs)) ≡ as_number (eqb k x)
    first rest k =
        rows_cong w l (λ ks. both_number (eqb k x) (same_row ks xs) ∙ mul_comm (as_number (same_row ks xs)) (as_number (eqb k x)))
        ∙ rows_mul w l (as_number (eqb k x)) (λ ks. as_number (same_row ks xs))
        ∙ ap (λ (n : ℕ). as_number (eqb k x) * n) rest
        ∙ mul-one (as_number (eqb k x))

pub each_row_once : EachRowOnce
unfolding EachRowOnce count
each_row_once w l r h = once w l r h.long h.below

pub all_rows : AllRows
unfolding AllRows count as_number
all_rows w l = rows_cong w l (λ ks. ap as_number (holds (same_row ks ks) (same_self ks))) ∙ rows_one w l
