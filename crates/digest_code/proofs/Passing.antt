-- What a code has passed that has so many digits, and that it passes.
use mathlib.Core.Path.{◌≡◌}
use mathlib.Core.Bool.{true, false}
use mathlib.Core.Logic.{◌⊎◌, inl, inr}
use Prim.Native.Nat.{ℕ, ◌^◌, ◌≤◌, ◌<◌}
use native.Mathlib.Nat.{pow-le-pow_right, zero-lt-suc}
use lib.Pow.{pow_mono}
use native.Mathlib.Omega.{arith}
use lib.Dec.{ltb, eqb}
use borrow.Author.Tests.{eq-eqb, lt-ltb, le-ltb, ne_eqb, ltb-false, eqb-false}
use Rattle.digest_code.specs.Digits.{bad_digits}
use Rattle.answers.proofs.Validation.{either, above}

module _ (w d : ℕ) where
  pub digits_passed : bad_digits w d ≡ false → (1 ≤ d) × (10 ^ d ≤ 2 ^ w)
  unfolding bad_digits
  digits_passed e = let p = either (eqb d 0) (ltb (2 ^ w) (10 ^ d)) e in (above (eqb-false d 0 p.0), ltb-false (2 ^ w) (10 ^ d) p.1)

  pub digits_pass : 1 ≤ d → 10 ^ d ≤ 2 ^ w → bad_digits w d ≡ false
  unfolding bad_digits
  digits_pass h k = rw (ne_eqb d 0 (λ e. omega arith), le-ltb (2 ^ w) (10 ^ d) k)

-- no word's width has room for ten digits
pub digits_outside : (w d : ℕ) → w ≤ 32 → (d < 1) ⊎ (9 < d) → bad_digits w d ≡ true
unfolding bad_digits
digits_outside w d narrow (inl none) = rw (eq-eqb d 0 (omega arith))
digits_outside w d narrow (inr many) =
    let ten : 10 ≤ d = omega arith in
    let above : 2 ^ w < 10 ^ d = omega (arith, pow_mono narrow, pow-le-pow_right {n = 10} (zero-lt-suc 9) ten) in
    rw (ne_eqb d 0 (λ e. omega arith), lt-ltb (2 ^ w) (10 ^ d) above)
