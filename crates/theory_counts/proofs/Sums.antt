-- Laws of finite sums: congruence, order, constants, sums of sums, products and the exchange of two sums.
-- Assumes nothing.
use mathlib.Core.Path.{◌≡◌, refl, sym, ap, ◌∙◌, fun_ext}
use Prim.Native.Nat.{ℕ, zero, suc, ◌+◌, ◌*◌, ◌≤◌, ◌<◌}
use native.Mathlib.Nat.{add-zero, add-suc, zero-mul, suc-mul, mul-add, add-mul, mul-zero, le_refl, add-le-add, le_step, lt-suc_self}
use native.Mathlib.Numerals.{add-one}
use native.Mathlib.Omega.{arith}
use Rattle.theory_counts.specs.Count.{sum_to}

pub sum_cong_below : (n : ℕ) (f g : ℕ → ℕ) → ((k : ℕ) → k < n → f k ≡ g k) → sum_to n f ≡ sum_to n g
unfolding sum_to
sum_cong_below zero f g h = refl
sum_cong_below (suc n) f g h =
    let rest : sum_to n f ≡ sum_to n g = sum_cong_below n f g (λ k lt. h k (le_step lt)) in
    let last : f n ≡ g n = h n (lt-suc_self n) in
    omega arith

pub sum_cong : (n : ℕ) {f g : ℕ → ℕ} → ((k : ℕ) → f k ≡ g k) → sum_to n f ≡ sum_to n g
sum_cong n h = ap (sum_to n) (fun_ext h)

pub sum_le_below : (n : ℕ) (f g : ℕ → ℕ) → ((k : ℕ) → k < n → f k ≤ g k) → sum_to n f ≤ sum_to n g
unfolding sum_to
sum_le_below zero f g h = le_refl 0
sum_le_below (suc n) f g h = add-le-add (sum_le_below n f g (λ k lt. h k (le_step lt))) (h n (lt-suc_self n))

pub sum_le : (n : ℕ) {f g : ℕ → ℕ} → ((k : ℕ) → f k ≤ g k) → sum_to n f ≤ sum_to n g
sum_le n {f} {g} h = sum_le_below n f g (λ k lt. h k)

pub sum_const : (n a : ℕ) → sum_to n (λ k. a) ≡ n * a
unfolding sum_to
sum_const zero a = sym (zero-mul a)
sum_const (suc n) a = ap (λ (s : ℕ). s + a) (sum_const n a) ∙ sym (suc-mul n a)

pub sum_add : (n : ℕ) (f g : ℕ → ℕ) → sum_to n (λ k. f k + g k) ≡ sum_to n f + sum_to n g
unfolding sum_to
sum_add zero f g = refl
sum_add (suc n) f g =
    let rest : sum_to n (λ k. f k + g k) ≡ sum_to n f + sum_to n g = sum_add n f g in
    omega arith

pub sum_mul : (n a : ℕ) (f : ℕ → ℕ) → sum_to n (λ k. a * f k) ≡ a * sum_to n f
unfolding sum_to
sum_mul zero a f = sym (mul-zero a)
sum_mul (suc n) a f = ap (λ (s : ℕ). s + a * f n) (sum_mul n a f) ∙ sym (mul-add a (sum_to n f) (f n))

pub sum_mul_right : (n a : ℕ) (f : ℕ → ℕ) → sum_to n (λ k. f k * a) ≡ sum_to n f * a
unfolding sum_to
sum_mul_right zero a f = sym (zero-mul a)
sum_mul_right (suc n) a f = ap (λ (s : ℕ). s + f n * a) (sum_mul_right n a f) ∙ sym (add-mul (sum_to n f) (f n) a)

-- two sums change places
pub sum_swap : (n m : ℕ) (f : ℕ → ℕ → ℕ) → sum_to n (λ i. sum_to m (λ j. f i j)) ≡ sum_to m (λ j. sum_to n (λ i. f i j))
unfolding sum_to
sum_swap zero m f = sym (sum_const m 0 ∙ mul-zero m)
sum_swap (suc n) m f =
    ap (λ (s : ℕ). s + sum_to m (f n)) (sum_swap n m f) ∙ sym (sum_add m (λ j. sum_to n (λ i. f i j)) (f n))

pub sum_split : (a b : ℕ) (f : ℕ → ℕ) → sum_to (a + b) f ≡ sum_to a f + sum_to b (λ k. f (a + k))
unfolding sum_to
sum_split a zero f = ap (λ (n : ℕ). sum_to n f) (add-zero a) ∙ sym (add-zero (sum_to a f))
sum_split a (suc b) f =
    let rest : sum_to (a + b) f ≡ sum_to a f + sum_to b (λ k. f (a + k)) = sum_split a b f in
    ap (λ (n : ℕ). sum_to n f) (add-suc a b) ∙ omega arith

-- the first term apart
pub sum_first : (n : ℕ) (f : ℕ → ℕ) → sum_to (suc n) f ≡ f 0 + sum_to n (λ k. f (suc k))
unfolding sum_to
sum_first zero f = omega arith
sum_first (suc n) f =
    let rest : sum_to n f + f n ≡ f 0 + sum_to n (λ k. f (suc k)) = sum_first n f in
    omega arith

-- numbers below a·b, by quotient and remainder at b
pub sum_prod : (a b : ℕ) (f : ℕ → ℕ) → sum_to (a * b) f ≡ sum_to a (λ z. sum_to b (λ r. f (z * b + r)))
unfolding sum_to
sum_prod zero b f = ap (λ (n : ℕ). sum_to n f) (zero-mul b)
sum_prod (suc a) b f =
    ap (λ (n : ℕ). sum_to n f) (suc-mul a b)
    ∙ sum_split (a * b) b f
    ∙ ap (λ (s : ℕ). s + sum_to b (λ r. f (a * b + r))) (sum_prod a b f)

-- a sum of zeros
pub sum_zeros : (n : ℕ) (f : ℕ → ℕ) → ((k : ℕ) → k < n → f k ≡ 0) → sum_to n f ≡ 0
sum_zeros n f h = sum_cong_below n f (λ k. 0) h ∙ sum_const n 0 ∙ mul-zero n

-- one more turn of a loop that adds f 0, f 1, ..
pub sum_next : (f : ℕ → ℕ) (i n r : ℕ) → n ≡ sum_to i f → r ≡ f i → n + r ≡ sum_to (i + 1) f
unfolding sum_to
sum_next f i n r e h = rw (e, h, add-one i)
