-- `digest_words::validate_after_width` meets its contract: the first check that refuses, else the last.
use native.Mathlib.Omega.{arith}
use Rattle.answers.proofs.Validation.{long_passed}
use Rattle.answers.proofs.Refused.{handed_on, first_stops, later_stops, last_decides, row_passed}
use Rattle.digest_words.proofs.validate_after_width.Goals as goal

pub returns-in_err-kept : goal.returns-in_err-kept
returns-in_err-kept c = handed_on _ _ _ c.from_residual.ensures.1 (first_stops _ _ _ c.in_err-kept.ensures)

pub returns-in_err-count : goal.returns-in_err-count
returns-in_err-count c = handed_on _ _ _ c.from_residual-in_err-count.ensures.1 (later_stops _ _ _ c.in_ok-kept.ensures (first_stops _ _ _ c.in_err-count.ensures))

pub returns-in_err-long : goal.returns-in_err-long
returns-in_err-long c = handed_on _ _ _ c.from_residual-in_err-long.ensures.1 (later_stops _ _ _ c.in_ok-kept.ensures (later_stops _ _ _ c.in_ok-count.ensures (first_stops _ _ _ c.in_err-long.ensures)))

pub returns-in_err-key : goal.returns-in_err-key
returns-in_err-key c = handed_on _ _ _ c.from_residual-in_err-key.ensures.1 (later_stops _ _ _ c.in_ok-kept.ensures (later_stops _ _ _ c.in_ok-count.ensures (later_stops _ _ _ c.in_ok-long.ensures (first_stops _ _ _ c.in_err-key.ensures))))

pub returns : goal.returns
returns c = last_decides _ _ _ c.in_ok-kept.ensures (last_decides _ _ _ c.in_ok-count.ensures (last_decides _ _ _ c.in_ok-long.ensures (last_decides _ _ _ c.in_ok-key.ensures c.tray.ensures)))

pub overflow_add-t : goal.overflow_add-t
overflow_add-t c = omega (arith, long_passed 65536 c.args.t (row_passed _ _ c.in_ok-long.ensures))
