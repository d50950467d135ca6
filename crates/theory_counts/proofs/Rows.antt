-- Laws of the sum over all rows of words.
-- Assumes nothing.
use mathlib.Core.Path.{◌≡◌, refl, sym, ap, ◌∙◌, fun_ext}
use mathlib.Core.List.{List, [], ◌∷◌}
use Prim.Native.Nat.{ℕ, zero, suc, ◌*◌, ◌^◌, ◌≤◌}
use native.Mathlib.Nat.{le_of_eq, le_trans, mul-le-mul_left, mul-zero}
use native.Mathlib.Omega.{arith}
use lib.Pow.{pow-add}
use borrow.Author.Tests.{lt-ltb}
use Rattle.theory_counts.specs.Words.{fits, Row}
use Rattle.theory_counts.specs.Count.{sum_to, over_rows}
use Rattle.theory_counts.proofs.Sums.{sum_cong, sum_le, sum_le_below, sum_const, sum_mul, sum_swap}

-- what the count's two claims have in common: equality and "at most", both kept by sums and by a factor
pub record Relation : Type 1 where
  pub rel : ℕ → ℕ → Type 0
  pub of_eq : {a b : ℕ} → a ≡ b → rel a b
  pub trans : {a b c : ℕ} → rel a b → rel b c → rel a c
  pub sum : (n : ℕ) (f g : ℕ → ℕ) → ((k : ℕ) → rel (f k) (g k)) → rel (sum_to n f) (sum_to n g)
  pub mul : (c : ℕ) {a b : ℕ} → rel a b → rel (c * a) (c * b)

abbrev pub Equal : Relation
Equal = record { rel = λ a b. a ≡ b; of_eq = λ e. e; trans = λ p q. p ∙ q; sum = λ n f g. sum_cong n; mul = λ c e. ap (λ (x : ℕ). c * x) e }

abbrev pub AtMost : Relation
AtMost = record { rel = λ a b. a ≤ b; of_eq = le_of_eq; trans = le_trans; sum = λ n f g. sum_le n; mul = λ c h. mul-le-mul_left c h }

pub rows_cong : (w l : ℕ) {f g : List ℕ → ℕ} → ((ks : List ℕ) → f ks ≡ g ks) → over_rows w l f ≡ over_rows w l g
rows_cong w l h = ap (over_rows w l) (fun_ext h)

pub rows_rel : (R : Relation) (w l : ℕ) (f g : List ℕ → ℕ) → ((ks : List ℕ) → R.rel (f ks) (g ks)) → R.rel (over_rows w l f) (over_rows w l g)
unfolding over_rows
rows_rel R w zero f g h = h []
rows_rel R w (suc l) f g h = R.sum (2 ^ w) _ _ (λ k. rows_rel R w l (λ ks. f (k ∷ ks)) (λ ks. g (k ∷ ks)) (λ ks. h (k ∷ ks)))

-- a bound that holds of each row of l words below 2^w
pub rows_le : (w l : ℕ) (f g : List ℕ → ℕ) → ((ks : List ℕ) → Row w l ks → f ks ≤ g ks) → over_rows w l f ≤ over_rows w l g
unfolding over_rows fits
rows_le w zero f g h = h [] (record { long = refl; below = tt })
rows_le w (suc l) f g h =
    sum_le_below (2 ^ w) _ _
    (λ k lt.
    rows_le w l (λ ks. f (k ∷ ks)) (λ ks. g (k ∷ ks))
    (λ ks r. h (k ∷ ks) (record { long = ap suc r.long; below = rw (lt-ltb k (2 ^ w) lt) r.below })))

pub rows_mul : (w l a : ℕ) (f : List ℕ → ℕ) → over_rows w l (λ ks. a * f ks) ≡ a * over_rows w l f
unfolding over_rows
rows_mul w zero a f = refl
rows_mul w (suc l) a f = sum_cong (2 ^ w) (λ k. rows_mul w l a (λ ks. f (k ∷ ks))) ∙ sum_mul (2 ^ w) a (λ k. over_rows w l (λ ks. f (k ∷ ks)))

-- a sum and a sum over rows change places
pub rows_sum : (w l n : ℕ) (f : ℕ → List ℕ → ℕ) → sum_to n (λ z. over_rows w l (f z)) ≡ over_rows w l (λ ks. sum_to n (λ z. f z ks))
unfolding over_rows
rows_sum w zero n f = refl
rows_sum w (suc l) n f = sum_swap n (2 ^ w) (λ z k. over_rows w l (λ ks. f z (k ∷ ks))) ∙ sum_cong (2 ^ w) (λ k. rows_sum w l n (λ z ks. f z (k ∷ ks)))

-- there are 2^(w·l) rows
pub rows_one : (w l : ℕ) → over_rows w l (λ ks. 1) ≡ 2 ^ (w * l)
unfolding over_rows
rows_one w zero = ap (λ (n : ℕ). 2 ^ n) (sym (mul-zero w))
rows_one w (suc l) =
    sum_cong (2 ^ w) (λ k. rows_one w l)
    ∙ sum_const (2 ^ w) (2 ^ (w * l))
    ∙ sym (pow-add 2 w (w * l))
    ∙ ap (λ (n : ℕ). 2 ^ n) (omega arith)
