-- `run_pairs::bound` meets its contract.
use Prim.Native.Nat.{min}
use mathlib.Core.Path.{sym, ap, ◌∙◌}
use native.Mathlib.Nat.{div-le_self, one-le-pow}
use native.Mathlib.Omega.{arith}
use Rattle.theory_pairs.specs.Agree.{bound_of}
use Rattle.run_pairs.proofs.Calls.{bound_of_code, number_none, number_some}
use Rattle.run_pairs.proofs.bound.Goals as goal

pub returns-in-None : goal.returns-in-None
unfolding bound_of
returns-in-None c = sym (ap bound_of (number_none _ c.in-None.ensures))

pub nonzero_div-result : goal.nonzero_div-result
nonzero_div-result c = omega (arith, c.power_of_ten.ensures, one-le-pow (min c.in-Some.digits 9) 10 (omega arith))

pub overflow_mul-result : goal.overflow_mul-result
overflow_mul-result c = omega (arith, div-le_self 127 c.power_of_ten.result)

pub overflow_add-result : goal.overflow_add-result
overflow_add-result c = omega (arith, div-le_self 127 c.power_of_ten.result)

pub overflow_mul-result-in-Some : goal.overflow_mul-result-in-Some
overflow_mul-result-in-Some c = omega (arith, div-le_self 127 c.power_of_ten.result)

pub returns-in-Some : goal.returns-in-Some
returns-in-Some c =
    let is = number_some _ _ c.in-Some.ensures in
    bound_of_code _ _ is.1 is.2 c.power_of_ten.ensures ∙ sym (ap bound_of is.0)
