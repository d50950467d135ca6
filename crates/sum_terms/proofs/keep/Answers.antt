-- `sum_terms::keep` meets its contract: from 32 bits on nothing is dropped.
use Rattle.std.proofs.Common.{ℕ, ◌%◌, ◌^◌, ◌≤◌, sym, ap, ◌∙◌, arith}
use native.Mathlib.Nat.{mod-eq_of_lt, one-mul}
use lib.Pow.{pow_mono}
use Rattle.theory_digest.specs.Digest.{kept}
use Rattle.sum_terms.proofs.keep.Goals as goal

pub returns-in-Some : goal.returns-in-Some
unfolding kept
returns-in-Some c =
    let lt : c.args.b ≤ 31 = omega (arith, c.in-Some.ensures.0) in
    ap (λ (p : ℕ). c.args.word % p) (c.in-Some.ensures.1 ∙ ap (λ (p : ℕ). p % 2 ^ 32) (one-mul _) ∙ mod-eq_of_lt (omega (arith, pow_mono lt)))

pub returns-in-None : goal.returns-in-None
unfolding kept
returns-in-None c =
    let le : 32 ≤ c.args.b = omega (arith, c.in-None.ensures) in
    sym (mod-eq_of_lt (omega (arith, pow_mono le)))
