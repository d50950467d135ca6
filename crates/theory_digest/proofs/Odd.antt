-- A nonzero word is an odd number times a power of two; the carry of a sum over a division; powers of powers.
-- Assumes nothing.
use mathlib.Core.Path.{◌≡◌, refl, sym, ap, ◌∙◌}
use Prim.Native.Nat.{ℕ, zero, suc, ◌+◌, ◌*◌, ◌/◌, ◌%◌, ◌^◌, ◌<◌}
use native.Mathlib.Nat.{mod-add-div, mod-lt, add-mul-div_right, div-lt_iff_lt-mul, mul_left_comm, pow-zero, pow-succ', zero-mul}
use native.Mathlib.Omega.{arith}
use lib.Pow.{pow-add}

-- an odd number times 2^l
abbrev pub odd_times : ℕ → ℕ → ℕ
odd_times s l = (1 + 2 * s) * 2 ^ l

-- a key word by its upper part z and its lower part x, which has i + 1 bits
abbrev pub parted : ℕ → ℕ → ℕ → ℕ
parted i z x = z * (2 * 2 ^ i) + x

-- 2^w in those parts, for w = l + i + 1
pub power : (w l i : ℕ) → w ≡ l + suc i → 2 ^ w ≡ 2 ^ l * (2 * 2 ^ i)
power w l i split = ap (λ (n : ℕ). 2 ^ n) split ∙ pow-add 2 l (suc i) ∙ ap (λ (n : ℕ). 2 ^ l * n) (pow-succ' 2 i)

-- c = (1 + 2s)·2^l with l < w, for 0 < c < 2^w
pub record OddPart (w c : ℕ) : Type 0 where
  pub l : ℕ
  pub i : ℕ
  pub s : ℕ
  pub product : c ≡ odd_times s l
  pub split : w ≡ l + suc i

pub odd_part : (w c : ℕ) → 0 < c → c < 2 ^ w → OddPart w c
odd_part zero c pos small = absurd (omega arith)
odd_part (suc w) c pos small = go (c % 2) refl (omega arith) (odd_part w (c / 2))
  where
    go : (r : ℕ) → c % 2 ≡ r → r < 2 → (0 < c / 2 → c / 2 < 2 ^ w → OddPart w (c / 2)) → OddPart (suc w) c
    go zero e lt rest =
        let half : OddPart w (c / 2) = rest (omega arith) (omega arith) in
        record { l = suc half.l; i = half.i; s = half.s; product = doubled half; split = omega arith }
      where
        doubled : (h : OddPart w (c / 2)) → c ≡ odd_times h.s (suc h.l)
        doubled h =
            let even : c ≡ 2 * (c / 2) = omega arith in
            even ∙ ap (λ (n : ℕ). 2 * n) h.product ∙ mul_left_comm 2 (1 + 2 * h.s) (2 ^ h.l) ∙ ap (λ (n : ℕ). (1 + 2 * h.s) * n) (sym (pow-succ' 2 h.l))
    go (suc zero) e lt rest = record { l = 0; i = w; s = c / 2; product = omega arith; split = omega arith }
    go (suc (suc r)) e lt rest = absurd (omega arith)

-- a sum's quotient is the sum of the quotients and a carry of at most 1
pub carry : (x y m : ℕ) → 0 < m → (x + y) / m ≡ x / m + y / m + (x % m + y % m) / m
carry x y m pos =
    let ex : x % m + m * (x / m) ≡ x = mod-add-div x m in
    let ey : y % m + m * (y / m) ≡ y = mod-add-div y m in
    let e : x + y ≡ x % m + y % m + (x / m + y / m) * m = omega arith in
    ap (λ (n : ℕ). n / m) e ∙ add-mul-div_right (x % m + y % m) (x / m + y / m) pos ∙ omega arith

pub carry_small : (x y m : ℕ) → 0 < m → (x % m + y % m) / m < 2
carry_small x y m pos =
    let hx : x % m < m = mod-lt x pos in
    let hy : y % m < m = mod-lt y pos in
    (div-lt_iff_lt-mul pos).1 (omega arith)

pub pow_mul : (a n : ℕ) → (2 ^ a) ^ n ≡ 2 ^ (n * a)
pow_mul a zero = pow-zero (2 ^ a) ∙ sym (ap (λ (k : ℕ). 2 ^ k) (zero-mul a))
pow_mul a (suc n) = pow-succ' (2 ^ a) n ∙ ap (λ (k : ℕ). 2 ^ a * k) (pow_mul a n) ∙ sym (pow-add 2 a (n * a)) ∙ ap (λ (k : ℕ). 2 ^ k) (omega arith)
