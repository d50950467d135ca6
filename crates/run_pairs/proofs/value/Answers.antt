-- `run_pairs::value` meets its contract: the digest's word, or the code's byte.
use mathlib.Core.Path.{subst⁻¹}
use Prim.Native.Nat.{ℕ}
use native.Mathlib.Omega.{arith}
use borrow.Author.Rules.{rules}
use lib.ListN.{get_or}
use Rattle.run_pairs.specs.Values.{ValueOf}
use Rattle.run_pairs.proofs.Calls.{digest_value, digest_small, code_value, number_none, number_some}
use Rattle.run_pairs.proofs.value.Goals as goal

pub overflow_cast-result : goal.overflow_cast-result
overflow_cast-result c = record { fits = omega (arith, digest_small _ _ c.add_sums.ensures.1) }

pub returns-in-None : goal.returns-in-None
returns-in-None c = digest_value _ _ c.add_sums.ensures.1 _ (number_none _ c.in-None.ensures)

pub returns-in-Some : goal.returns-in-Some
returns-in-Some c =
    let a = c.args in
    let is = number_some _ _ c.in-Some.ensures in
    let x = get_or c.digest_code.new.out 0 0 in
    subst⁻¹ (λ (d : ℕ). ValueOf d a.m a.key x) is.0 (code_value a.m a.key (search rules) (search rules) c.in-Some.digits c.digest_code.new.out is.1 is.2 c.digest_code.ensures.1)
