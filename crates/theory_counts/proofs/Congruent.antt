-- 1 where two numbers are congruent, else 0; its sum over one period is 1.
-- Assumes nothing.
use mathlib.Core.Path.{◌≡◌, sym, ap, ◌∙◌}
use mathlib.Core.Logic.{⊎_elim}
use Prim.Native.Nat.{ℕ, zero, suc, ◌+◌, ◌*◌, ◌-◌, ◌%◌, ◌<◌}
use native.Mathlib.Nat.{add-mod_right, mod-eq_of_lt, mod-lt, not-suc-le-zero, le_of_suc-le-suc, eq-or-lt_of_le, add-mul-mod_self_left, mod-add-mod, add-mod-mod, suc-mul, add_comm, zero-add}
use native.Mathlib.Decide.{ℕ_discrete}
use native.Mathlib.Omega.{arith}
use lib.Dec.{eqb}
use borrow.Author.Tests.{eq-eqb, ne_eqb}
use Rattle.theory_counts.specs.Count.{sum_to, as_number}
use Rattle.theory_counts.proofs.Sums.{sum_cong_below, sum_zeros}

unfoldable pub congruent : ℕ → ℕ → ℕ → ℕ
congruent m a y = as_number (eqb (a % m) (y % m))

pub congruent_left : (m a a' y : ℕ) → a % m ≡ a' % m → congruent m a y ≡ congruent m a' y
unfolding congruent
congruent_left m a a' y e = ap (λ (x : ℕ). as_number (eqb x (y % m))) e

pub congruent_per : (m y a : ℕ) → congruent m (a + m) y ≡ congruent m a y
congruent_per m y a = congruent_left m (a + m) a y (add-mod_right a m)

-- a multiple of the modulus does not count
pub congruent_multiple : (m a q y : ℕ) → congruent m (a + m * q) y ≡ congruent m a y
congruent_multiple m a q y = congruent_left m (a + m * q) a y (add-mul-mod_self_left a m q)

-- two tests for equality that hold together
pub eqb_same : (a b c d : ℕ) → (a ≡ b → c ≡ d) → (c ≡ d → a ≡ b) → eqb a b ≡ eqb c d
eqb_same a b c d to from = go (ℕ_discrete a b)
  where
    go : Dec (a ≡ b) → eqb a b ≡ eqb c d
    go (yes e) = eq-eqb a b e ∙ sym (eq-eqb c d (to e))
    go (no ne) = ne_eqb a b ne ∙ sym (ne_eqb c d (λ e. ne (from e)))

pub congruent_sym : (m a b : ℕ) → congruent m a b ≡ congruent m b a
unfolding congruent
congruent_sym m a b = ap as_number (eqb_same (a % m) (b % m) (b % m) (a % m) sym sym)

-- what is added on both sides cancels
pub congruent_cancel : (m x a b : ℕ) → 0 < m → congruent m (x + a) (x + b) ≡ congruent m a b
unfolding congruent
congruent_cancel m x a b pos = ap as_number (eqb_same ((x + a) % m) ((x + b) % m) (a % m) (b % m) (λ e. sym (back a) ∙ ap again e ∙ back b) forth)
  where
    n : ℕ
    n = m - 1

    again : ℕ → ℕ
    again r = (r + n * x) % m

    whole : (c : ℕ) → x + c + n * x ≡ c + m * x
    whole c =
        let e : suc n ≡ m = omega arith in
        let f : m * x ≡ n * x + x = ap (λ (k : ℕ). k * x) (sym e) ∙ suc-mul n x in
        omega arith

    back : (c : ℕ) → again ((x + c) % m) ≡ c % m
    back c = mod-add-mod (x + c) m (n * x) ∙ ap (λ (k : ℕ). k % m) (whole c) ∙ add-mul-mod_self_left c m x

    forth : a % m ≡ b % m → (x + a) % m ≡ (x + b) % m
    forth e = sym (add-mod-mod x a m) ∙ ap (λ (k : ℕ). (x + k) % m) e ∙ add-mod-mod x b m

-- a difference as a sum: subtraction is multiplication by m - 1
pub congruent_difference : (m n a b : ℕ) → suc n ≡ m → congruent m a b ≡ congruent m (a + n * b) 0
congruent_difference m n a b e =
    sym (congruent_cancel m (n * b) a b (omega arith))
    ∙ ap (λ (k : ℕ). congruent m k (n * b + b)) (add_comm (n * b) a)
    ∙ congruent_sym m (a + n * b) (n * b + b)
    ∙ ap (λ (k : ℕ). congruent m k (a + n * b)) (sym (suc-mul n b) ∙ ap (λ (k : ℕ). k * b) e ∙ sym (zero-add (m * b)))
    ∙ congruent_multiple m 0 b (a + n * b)
    ∙ congruent_sym m 0 (a + n * b)

pub at_one : (n y : ℕ) → y < n → sum_to n (λ a. as_number (eqb a y)) ≡ 1
unfolding sum_to as_number
at_one zero y h = absurd (not-suc-le-zero h)
at_one (suc n) y h = ⊎_elim last (λ lt. before lt (at_one n y lt)) (eq-or-lt_of_le (le_of_suc-le-suc h))
  where
    last : y ≡ n → sum_to n (λ a. as_number (eqb a y)) + as_number (eqb n y) ≡ 1
    last e =
        let none : sum_to n (λ a. as_number (eqb a y)) ≡ 0 =
        sum_zeros n (λ a. as_number (eqb a y)) (λ k lt. ap as_number (ne_eqb k y (λ p. omega arith))) in
        let one : as_number (eqb n y) ≡ 1 = ap as_number (eq-eqb n y (sym e)) in
        omega arith

    before : y < n → sum_to n (λ a. as_number (eqb a y)) ≡ 1 → sum_to n (λ a. as_number (eqb a y)) + as_number (eqb n y) ≡ 1
    before lt rest =
        let none : as_number (eqb n y) ≡ 0 = ap as_number (ne_eqb n y (λ p. omega arith)) in
        omega arith

-- over one period a number is congruent to y exactly once
pub sum_congruent : (m y : ℕ) → 0 < m → sum_to m (λ a. congruent m a y) ≡ 1
unfolding congruent
sum_congruent m y pos =
    sum_cong_below m (λ a. as_number (eqb (a % m) (y % m))) (λ a. as_number (eqb a (y % m)))
    (λ a lt. ap (λ (x : ℕ). as_number (eqb x (y % m))) (mod-eq_of_lt lt))
    ∙ at_one m (y % m) (mod-lt y pos)
