-- `digest_code::digest_code` meets its contract: a refusal writes nothing, and an accepted call writes the code.
use mathlib.Core.Path.{◌≡◌, refl, ap, ap₂, ◌∙◌}
use mathlib.Core.Bool.{cond}
use mathlib.Core.List.{◌++◌}
use Prim.Native.Nat.{ℕ, ◌%◌, min}
use native.Mathlib.Nat.{one-le-pow}
use native.Mathlib.Omega.{arith}
use lib.ListN.{drop}
use Rattle.answers.proofs.Refused.{some_number, number_handed_on}
use Rattle.answers.proofs.Rows.{refused, accepted}
use Rattle.digest_code.specs.Call.{code_answer, code_row}
use Rattle.digest_code.specs.Bytes.{last_bytes}
use Rattle.digest_code.proofs.Valid.{CodeValid, code_refused, code_walked, code_answered, number_of, code_written}
use Rattle.digest_code.proofs.digest_code.Goals as goal
use Rattle.digest_code.proofs.digest_code.Goals.{After-add_sums, In_ok-validate}

passed : (c : In_ok-validate) → CodeValid c.args.w c.args.d c.args.message.now c.args.key.now c.args.out.now
passed c = code_walked _ _ _ _ _ c.in_ok-validate.ensures refl

pub returns-in_err-validate : goal.returns-in_err-validate
unfolding code_row
returns-in_err-validate c =
    let some = some_number c.in_err-validate.field-0.0 in
    let answered = refused _ _ (code_refused _ _ _ _ _ c.in_err-validate.ensures some) some in
    (number_handed_on _ _ _ c.from_residual.ensures.1 answered.0, answered.1)

-- the walk's answer
answered : (c : After-add_sums) → cond c.add_sums.result 0 7 ≡ code_answer c.args.w c.args.d c.args.message.now c.args.key.now c.args.out.now
answered c =
    code_answered _ _ _ _ _ c.in_ok-validate.ensures refl c.add_sums.ensures.0

pub returns-then-not-add_sums : goal.returns-then-not-add_sums
unfolding code_row
returns-then-not-add_sums c =
    refused _ _ (rw (c.if-not-add_sums.true) at (answered (goal.at.returns-then-not-add_sums c).After-add_sums)) (λ z. omega arith)

pub nonzero_rem-number : goal.nonzero_rem-number
nonzero_rem-number c = omega (arith, one-le-pow (min c.args.d 9) 10 (omega arith), c.power_of_ten.ensures)

pub write_digits-requires : goal.write_digits-requires
write_digits-requires c = omega (arith, c.bytes_of.ensures, (passed (goal.at.write_digits-requires c).In_ok-validate).room)

pub returns : goal.returns
unfolding code_row
returns c =
    let a = c.args in
    let number = ap (λ (x : ℕ). x % c.power_of_ten.result) c.from.ensures ∙ number_of _ _ _ _ _ (passed (goal.at.returns c).In_ok-validate) c.add_sums.ensures.1 c.power_of_ten.ensures in
    let row = ap₂ (λ (n x : ℕ). last_bytes n x ++ drop n a.out.now) c.bytes_of.ensures number ∙ code_written a.w a.d a.message.now a.key.now a.out.now in
    let fit = c.if-not-add_sums.false in
    accepted _ _ (rw fit at (answered (goal.at.returns c).After-add_sums)) _ refl (c.write_digits.ensures ∙ row)
