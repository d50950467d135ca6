-- The code's two sums modulo 2^64 give the sum modulo 2^w.
use Rattle.std.proofs.Common.{◌≡◌, ℕ, ◌+◌, ◌-◌, ◌*◌, ◌/◌, ◌%◌, ◌^◌, ◌≤◌, sym, ap, ◌∙◌, arith, pow_pos}
use native.Mathlib.Nat.{add-mod, add-mod-mod, add-mul-div_right}
use lib.Bits.{bit_and, and_high}
use lib.Pow.{field, mod-mod-pow}
use Rattle.sum_walk.specs.Walk.{together}

-- a number may be reduced modulo a higher power first
pub reduced : (w e x : ℕ) → w ≤ e → x % 2 ^ e % 2 ^ w ≡ x % 2 ^ w
reduced w e x le = let s : e - w + w ≡ e = omega arith in rw s at (mod-mod-pow x (e - w) w)

module _ (w : ℕ) (fits : w ≤ 32) where
  -- the high part of a product, added in place: w ≤ 64 - w, so what wraps is a multiple of 2^w
  high_added : (h x : ℕ) → (h + bit_and x (2 ^ 64 - 2 ^ w)) % 2 ^ 64 / 2 ^ w % 2 ^ w ≡ (h / 2 ^ w + x / 2 ^ w) % 2 ^ w
  high_added h x =
      let s : 64 - w + w ≡ 64 = omega arith in
      let q = x / 2 ^ w % 2 ^ (64 - w) in
      let masked : bit_and x (2 ^ 64 - 2 ^ w) ≡ q * 2 ^ w = rw s at (and_high x (64 - w) w) in
      let shifted : (h + q * 2 ^ w) % 2 ^ 64 / 2 ^ w ≡ (h + q * 2 ^ w) / 2 ^ w % 2 ^ (64 - w) = rw s at (field (h + q * 2 ^ w) (64 - w) w) in
      ap (λ (n : ℕ). (h + n) % 2 ^ 64 / 2 ^ w % 2 ^ w) masked
      ∙ ap (λ (n : ℕ). n % 2 ^ w) shifted
      ∙ reduced w (64 - w) ((h + q * 2 ^ w) / 2 ^ w) (omega arith)
      ∙ ap (λ (n : ℕ). n % 2 ^ w) (add-mul-div_right h q (pow_pos w))
      ∙ sym (add-mod-mod (h / 2 ^ w) q (2 ^ w))
      ∙ ap (λ (n : ℕ). (h / 2 ^ w + n) % 2 ^ w) (reduced w (64 - w) (x / 2 ^ w) (omega arith))
      ∙ add-mod-mod (h / 2 ^ w) (x / 2 ^ w) (2 ^ w)

  -- the two sums with the product p and the high part of the product x
  pub both_added : (low high p x : ℕ)
      → together w ((low + p) % 2 ^ 64) ((high + bit_and x (2 ^ 64 - 2 ^ w)) % 2 ^ 64) % 2 ^ w
      ≡ (together w low high + (p + x / 2 ^ w)) % 2 ^ w
  both_added low high p x =
      let order : low + p + (high / 2 ^ w + x / 2 ^ w) ≡ together w low high + (p + x / 2 ^ w) = omega arith in
      add-mod ((low + p) % 2 ^ 64) _ (2 ^ w)
      ∙ rw (reduced w 64 (low + p) (omega arith), high_added high x) (sym (add-mod (low + p) (high / 2 ^ w + x / 2 ^ w) (2 ^ w)))
      ∙ ap (λ (n : ℕ). n % 2 ^ w) order
