-- `digest_code::decimal::bad_digits` meets its contract: no word's width has room for ten digits.
use mathlib.Core.Path.{◌≡◌, sym, ap, ap₂, ◌∙◌}
use Prim.Native.Nat.{ℕ, ◌^◌, min, ◌≤◌, ◌<◌}
use native.Mathlib.Nat.{mod-eq_of_lt, one-mul}
use native.Mathlib.Omega.{arith}
use borrow.Author.Tests.{ne_eqb}
use borrow.Author.Rules.{rules}
use mathlib.Core.Logic.{◌⊎◌}
use lib.Dec.{ltb}
use lib.Pow.{pow_mono}
use Rattle.std.proofs.lemmas.Grind.{common_steps}
use Rattle.digest_code.specs.Digits.{bad_digits}
use Rattle.digest_code.proofs.Passing.{digits_outside}
use Rattle.digest_code.proofs.decimal.bad_digits.Goals as goal

pub returns-then-not-contains : goal.returns-then-not-contains
returns-then-not-contains c =
    let a = c.args in
    let outside : (a.d < 1) ⊎ (9 < a.d) = grind (arith, common_steps) in
    rw c.if-not-contains.true (sym (digits_outside (min a.w 32) a.d (omega arith) outside))

pub returns-else-not-contains : goal.returns-else-not-contains
unfolding bad_digits
returns-else-not-contains c =
    let a = c.args in
    let m = c.min.result in
    let narrow : m ≤ 32 = omega arith in
    let whole : 2 ^ m < 2 ^ 64 = omega (arith, pow_mono narrow) in
    let inside : (1 ≤ a.d) × (a.d ≤ 9) = search rules in
    let few : min a.d 9 ≡ a.d = omega arith in
    ap₂ ltb
    (mod-eq_of_lt (omega (arith, one-mul (2 ^ m))) ∙ one-mul _ ∙ ap (λ (v : ℕ). 2 ^ v) c.min.ensures)
    (c.power_of_ten.ensures ∙ ap (λ (n : ℕ). 10 ^ n) few)
    ∙ sym (rw (ne_eqb a.d 0 (λ e. omega arith)))
