-- `digest_code::validate` meets its contract: the first check that refuses, else the last. A width that passed is at most 32.
use mathlib.Core.Path.{◌≡◌, ap, ◌∙◌}
use Prim.Native.Nat.{ℕ, min, ◌≤◌}
use native.Mathlib.Omega.{arith}
use Rattle.answers.specs.Refusals.{number}
use Rattle.answers.proofs.Validation.{width_passed}
use Rattle.answers.proofs.Refused.{handed_on, first_stops, later_stops, last_decides, told, row_passed}
use Rattle.digest_code.specs.Digits.{bad_digits}
use Rattle.digest_code.specs.Call.{code_tests}
use Rattle.digest_code.proofs.validate.Goals as goal
use Rattle.digest_code.proofs.validate.Goals.{After-bad_digits}

asked : (c : After-bad_digits) → c.bad_digits.result ≡ bad_digits c.args.w c.args.d
asked c =
    let a = c.args in
    let narrow : a.w ≤ 32 = (width_passed a.w (row_passed _ _ c.in_ok-width.ensures)).1 in
    let same : min a.w 32 ≡ a.w = omega arith in
    c.bad_digits.ensures ∙ ap (λ (v : ℕ). bad_digits v a.d) same

pub returns-in_err-width : goal.returns-in_err-width
unfolding code_tests
returns-in_err-width c = handed_on _ _ _ c.from_residual.ensures.1 (first_stops _ _ _ c.in_err-width.ensures)

pub returns-in_err-check : goal.returns-in_err-check
unfolding code_tests
returns-in_err-check c =
    let digits = told _ _ _ (number c.in_err-check.field-0.0) (asked (goal.at.returns-in_err-check c).After-bad_digits) c.in_err-check.ensures in
    handed_on _ _ _ c.from_residual-in_err-check.ensures.1 (later_stops _ _ _ c.in_ok-width.ensures (first_stops _ _ _ digits))

pub returns-in_err-long : goal.returns-in_err-long
unfolding code_tests
returns-in_err-long c =
    let digits = told _ _ _ 0 (asked (goal.at.returns-in_err-long c).After-bad_digits) c.in_ok-check.ensures in
    handed_on _ _ _ c.from_residual-in_err-long.ensures.1 (later_stops _ _ _ c.in_ok-width.ensures (later_stops _ _ _ digits (first_stops _ _ _ c.in_err-long.ensures)))

pub returns-in_err-key : goal.returns-in_err-key
unfolding code_tests
returns-in_err-key c =
    let digits = told _ _ _ 0 (asked (goal.at.returns-in_err-key c).After-bad_digits) c.in_ok-check.ensures in
    handed_on _ _ _ c.from_residual-in_err-key.ensures.1
    (later_stops _ _ _ c.in_ok-width.ensures (later_stops _ _ _ digits (later_stops _ _ _ c.in_ok-long.ensures (first_stops _ _ _ c.in_err-key.ensures))))

pub returns : goal.returns
unfolding code_tests
returns c =
    let digits = told _ _ _ 0 (asked (goal.at.returns c).After-bad_digits) c.in_ok-check.ensures in
    rw (← c.bytes_of.ensures)
    (last_decides _ _ c.tray.result c.in_ok-width.ensures (last_decides _ _ _ digits (last_decides _ _ _ c.in_ok-long.ensures (last_decides _ _ _ c.in_ok-key.ensures c.tray.ensures))))
