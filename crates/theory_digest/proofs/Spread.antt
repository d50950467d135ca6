-- 003's lemmas 1 and 2 as one count: s·2^l·k + x·z, with s and x odd, meets each residue equally often.
-- Assumes nothing.
use mathlib.Core.Path.{◌≡◌, sym, ap, ◌∙◌}
use Prim.Native.Nat.{ℕ, suc, ◌+◌, ◌*◌, ◌/◌, ◌^◌}
use native.Mathlib.Nat.{add-mul-div_right}
use native.Mathlib.Omega.{arith}
use lib.Pow.{pow-add, pow_pos}
use Rattle.theory_counts.specs.Count.{sum_to}
use Rattle.theory_counts.proofs.Sums.{sum_cong, sum_prod, sum_swap}
use Rattle.theory_digest.proofs.Odd.{odd_times, parted, power}
use Rattle.theory_digest.proofs.Periodic.{Per, per_mul, sum_shift, sum_odd, sum_periods}

-- F has the period 2^b, and k runs below 2^(j + b): k·2^l + d meets each residue as often as any other
module _ (j b l : ℕ) (F : ℕ → ℕ) (per : Per (2 ^ b) F) where
  column : (d : ℕ) → Per (2 ^ (j + b)) (λ k. F (k * 2 ^ l + d))
  column d a =
      ap (λ (n : ℕ). F ((a + n) * 2 ^ l + d)) (pow-add 2 j b)
      ∙ ap F (regroup (2 ^ j) (2 ^ b) (2 ^ l))
      ∙ per_mul (2 ^ b) F per (2 ^ j * 2 ^ l) (a * 2 ^ l + d)
    where
      regroup : (J B L : ℕ) → (a + J * B) * L + d ≡ a * L + d + J * L * B
      regroup J B L = omega arith

  columns : ℕ → ℕ
  columns d = sum_to (2 ^ (j + b)) (λ k. F (k * 2 ^ l + d))

  columns_per : Per (2 ^ l) columns
  unfolding columns
  columns_per a =
      sum_cong (2 ^ (j + b)) (λ k. ap F (next k (2 ^ l)))
      ∙ sum_shift (2 ^ (j + b)) (λ k. F (k * 2 ^ l + a)) (column a) 1
    where
      next : (k L : ℕ) → k * L + (a + L) ≡ (k + 1) * L + a
      next k L = omega arith

  all_columns : sum_to (2 ^ l) columns ≡ 2 ^ j * 2 ^ l * sum_to (2 ^ b) F
  unfolding columns
  all_columns =
      sum_swap (2 ^ l) (2 ^ (j + b)) (λ z k. F (k * 2 ^ l + z))
      ∙ sym (sum_prod (2 ^ (j + b)) (2 ^ l) F)
      ∙ ap (λ (n : ℕ). sum_to n F) (ap (λ (n : ℕ). n * 2 ^ l) (pow-add 2 j b) ∙ regroup (2 ^ j) (2 ^ b) (2 ^ l))
      ∙ sum_periods (2 ^ j * 2 ^ l) (2 ^ b) F per
    where
      regroup : (J B L : ℕ) → J * B * L ≡ J * L * B
      regroup J B L = omega arith

  pub spread : (s x c : ℕ) → sum_to (2 ^ (j + b)) (λ k. sum_to (2 ^ l) (λ z. F ((1 + 2 * s) * k * 2 ^ l + ((1 + 2 * x) * z + c)))) ≡ 2 ^ j * 2 ^ l * sum_to (2 ^ b) F
  unfolding columns
  spread s x c =
      sum_swap (2 ^ (j + b)) (2 ^ l) (λ k z. F ((1 + 2 * s) * k * 2 ^ l + ((1 + 2 * x) * z + c)))
      ∙ sum_cong (2 ^ l) straight
      ∙ sum_odd l x columns columns_per c
      ∙ all_columns
    where
      straight : (z : ℕ) → sum_to (2 ^ (j + b)) (λ k. F ((1 + 2 * s) * k * 2 ^ l + ((1 + 2 * x) * z + c))) ≡ columns ((1 + 2 * x) * z + c)
      straight z =
          let d : ℕ = (1 + 2 * x) * z + c in
          sum_cong (2 ^ (j + b)) {g = λ k. F (((1 + 2 * s) * k + 0) * 2 ^ l + d)}
          (λ k. ap (λ (n : ℕ). F (n * 2 ^ l + d)) (omega arith))
          ∙ sum_odd (j + b) s (λ k. F (k * 2 ^ l + d)) (column d) 0

-- the same for a word c = (1 + 2s)·2^l over two key words k and z·R + r, W being 2^l·R and R even: the form that 003's equation 4 takes
module _ (w j b l i s : ℕ) (wide : w ≡ j + b) (split : w ≡ l + suc i) (F : ℕ → ℕ) (per : Per (2 ^ b) F) where
  pub two_words : (h r u : ℕ)
      → sum_to (2 ^ w) (λ k. sum_to (2 ^ l) (λ z. F (odd_times s l * k + (odd_times s l * parted i z r / 2 ^ w + h * parted i z r + u))))
      ≡ 2 ^ j * 2 ^ l * sum_to (2 ^ b) F
  two_words h r u =
      sum_cong (2 ^ w) (λ k. sum_cong (2 ^ l) (λ z. ap F (same k z)))
      ∙ ap (λ (n : ℕ). sum_to (2 ^ n) (λ k. sum_to (2 ^ l) (λ z. F (plain k z)))) wide
      ∙ spread j b l F per s (s + h * 2 ^ i) (q + h * r + u)
    where
      q : ℕ
      q = odd_times s l * r / 2 ^ w

      given : ℕ → ℕ → ℕ
      given k z = odd_times s l * k + (odd_times s l * parted i z r / 2 ^ w + h * parted i z r + u)

      plain : ℕ → ℕ → ℕ
      plain k z = (1 + 2 * s) * k * 2 ^ l + ((1 + 2 * (s + h * 2 ^ i)) * z + (q + h * r + u))

      regroup : (L D z : ℕ) → (1 + 2 * s) * L * (z * (2 * D) + r) ≡ (1 + 2 * s) * L * r + (1 + 2 * s) * z * (L * (2 * D))
      regroup L D z = omega arith

      halves : (z : ℕ) → odd_times s l * parted i z r / 2 ^ w ≡ q + (1 + 2 * s) * z
      halves z =
          ap (λ (n : ℕ). n / 2 ^ w) (regroup (2 ^ l) (2 ^ i) z ∙ ap (λ (n : ℕ). odd_times s l * r + (1 + 2 * s) * z * n) (sym (power w l i split)))
          ∙ add-mul-div_right (odd_times s l * r) ((1 + 2 * s) * z) (pow_pos w)

      final : (k z L D v : ℕ) → (1 + 2 * s) * L * k + (v + (1 + 2 * s) * z + h * (z * (2 * D) + r) + u)
          ≡ (1 + 2 * s) * k * L + ((1 + 2 * (s + h * D)) * z + (v + h * r + u))
      final k z L D v = omega arith

      same : (k z : ℕ) → given k z ≡ plain k z
      same k z =
          ap (λ (n : ℕ). odd_times s l * k + (n + h * parted i z r + u)) (halves z) ∙ final k z (2 ^ l) (2 ^ i) q
