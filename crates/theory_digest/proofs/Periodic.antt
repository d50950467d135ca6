-- Sums of a periodic function: over one period a shift or an odd factor changes nothing. The heart of 003's lemmas 1 and 2, without inverses.
-- Assumes nothing.
use mathlib.Core.Path.{◌≡◌, sym, ap, ◌∙◌}
use Prim.Native.Nat.{ℕ, zero, suc, ◌+◌, ◌*◌, ◌^◌}
use native.Mathlib.Nat.{add-zero, add_comm, add_right_comm, pow-suc}
use native.Mathlib.Omega.{arith}
use Rattle.theory_counts.specs.Count.{sum_to}
use Rattle.theory_counts.proofs.Sums.{sum_cong, sum_const, sum_first, sum_prod, sum_add}

-- g has the period n
abbrev pub Per : ℕ → (ℕ → ℕ) → Type 0
Per n g = (a : ℕ) → g (a + n) ≡ g a

-- any multiple of a period is one
pub per_mul : (n : ℕ) (g : ℕ → ℕ) → Per n g → (q a : ℕ) → g (a + q * n) ≡ g a
per_mul n g p zero a = ap g (omega arith)
per_mul n g p (suc q) a =
    let e : a + suc q * n ≡ a + q * n + n = omega arith in
    ap g e ∙ p (a + q * n) ∙ per_mul n g p q a

pub per_shift : (n : ℕ) (g : ℕ → ℕ) → Per n g → (c : ℕ) → Per n (λ k. g (k + c))
per_shift n g p c a = ap g (add_right_comm a n c) ∙ p (a + c)

-- over one period the sum of g (k + c) is the sum of g
pub sum_shift : (n : ℕ) (g : ℕ → ℕ) → Per n g → (c : ℕ) → sum_to n (λ k. g (k + c)) ≡ sum_to n g
unfolding sum_to
sum_shift n g p zero = sum_cong n (λ k. ap g (add-zero k))
sum_shift n g p (suc c) =
    let h : ℕ → ℕ = λ k. g (k + c) in
    let moved : sum_to n (λ k. g (k + suc c)) ≡ sum_to n (λ k. h (suc k)) =
    sum_cong n (λ k. ap g (omega arith)) in
    let first : sum_to n h + h n ≡ h 0 + sum_to n (λ k. h (suc k)) = sum_first n h in
    let ends : h n ≡ h 0 = ap g (add_comm n c) ∙ p c ∙ ap g (sym (omega arith)) in
    let rest : sum_to n h ≡ sum_to n g = sum_shift n g p c in
    omega arith

-- a sum over an even range, even and odd places apart
pub sum_even_odd : (p : ℕ) (f : ℕ → ℕ) → sum_to (2 ^ suc p) f ≡ sum_to (2 ^ p) (λ i. f (2 * i)) + sum_to (2 ^ p) (λ i. f (2 * i + 1))
unfolding sum_to
sum_even_odd p f =
    ap (λ (n : ℕ). sum_to n f) (pow-suc 2 p)
    ∙ sum_prod (2 ^ p) 2 f
    ∙ sum_cong (2 ^ p) pair
    ∙ sum_add (2 ^ p) (λ i. f (2 * i)) (λ i. f (2 * i + 1))
  where
    pair : (z : ℕ) → sum_to 2 (λ r. f (z * 2 + r)) ≡ f (2 * z) + f (2 * z + 1)
    pair z =
        let even : f (z * 2 + 0) ≡ f (2 * z) = ap f (omega arith) in
        let odd : f (z * 2 + 1) ≡ f (2 * z + 1) = ap f (omega arith) in
        omega arith

-- over one period 2^p the sum of g (u·k + c) is the sum of g, for odd u = 1 + 2v
pub sum_odd : (p v : ℕ) (g : ℕ → ℕ) → Per (2 ^ p) g → (c : ℕ) → sum_to (2 ^ p) (λ k. g ((1 + 2 * v) * k + c)) ≡ sum_to (2 ^ p) g
unfolding sum_to
sum_odd zero v g per c =
    let e : (1 + 2 * v) * 0 + c ≡ 0 + c = omega arith in
    ap (λ (n : ℕ). 0 + g n) e ∙ sum_shift 1 g per c
sum_odd (suc p) v g per c =
    let u : ℕ = 1 + 2 * v in
    let g₀ : ℕ → ℕ = λ a. g (2 * a + c) in
    let g₁ : ℕ → ℕ = λ a. g (2 * a + (1 + c)) in
    let even : sum_to (2 ^ p) (λ i. g ((1 + 2 * v) * (2 * i) + c)) ≡ sum_to (2 ^ p) g₀ =
    sum_cong (2 ^ p) {g = λ i. g₀ ((1 + 2 * v) * i + 0)} (λ i. ap g (omega arith))
    ∙ sum_odd p v g₀ (half c) 0 in
    let odd : sum_to (2 ^ p) (λ i. g ((1 + 2 * v) * (2 * i + 1) + c)) ≡ sum_to (2 ^ p) g₁ =
    sum_cong (2 ^ p) {g = λ i. g₁ ((1 + 2 * v) * i + v)} (λ i. ap g (omega arith))
    ∙ sum_odd p v g₁ (half (1 + c)) v in
    let odd' : sum_to (2 ^ p) g₁ ≡ sum_to (2 ^ p) (λ i. g (2 * i + 1 + c)) =
    sum_cong (2 ^ p) (λ i. ap g (omega arith)) in
    let apart : sum_to (2 ^ suc p) (λ k. g ((1 + 2 * v) * k + c))
    ≡ sum_to (2 ^ p) (λ i. g ((1 + 2 * v) * (2 * i) + c)) + sum_to (2 ^ p) (λ i. g ((1 + 2 * v) * (2 * i + 1) + c)) =
    sum_even_odd p (λ k. g ((1 + 2 * v) * k + c)) in
    let again : sum_to (2 ^ suc p) (λ k. g (k + c)) ≡ sum_to (2 ^ p) g₀ + sum_to (2 ^ p) (λ i. g (2 * i + 1 + c)) = sum_even_odd p (λ k. g (k + c)) in
    let shifted : sum_to (2 ^ suc p) (λ k. g (k + c)) ≡ sum_to (2 ^ suc p) g = sum_shift (2 ^ suc p) g per c in
    apart ∙ ap (λ (s : ℕ). s + sum_to (2 ^ p) (λ i. g ((1 + 2 * v) * (2 * i + 1) + c))) even ∙ ap (λ (s : ℕ). sum_to (2 ^ p) g₀ + s) (odd ∙ odd') ∙ sym again ∙ shifted
  where
    half : (d : ℕ) → Per (2 ^ p) (λ a. g (2 * a + d))
    half d a =
        let e : 2 * (a + 2 ^ p) + d ≡ 2 * a + d + 2 ^ suc p = omega arith in
        ap g e ∙ per (2 * a + d)

-- q periods hold q times the sum of one
pub sum_periods : (q n : ℕ) (g : ℕ → ℕ) → Per n g → sum_to (q * n) g ≡ q * sum_to n g
sum_periods q n g p =
    sum_prod q n g
    ∙ sum_cong q (λ z. sum_cong n (λ r. ap g (add_comm (z * n) r) ∙ per_mul n g p z r))
    ∙ sum_const q (sum_to n g)
