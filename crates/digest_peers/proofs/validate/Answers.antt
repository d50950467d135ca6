-- `digest_peers::validate` meets its contract: the first check that refuses, else the last.
use Prim.Native.Nat.{◌+◌}
use native.Mathlib.Nat.{mul-le-mul_right}
use native.Mathlib.Omega.{arith}
use lib.ListN.{length}
use Rattle.answers.proofs.Validation.{count_passed, peers_passed, long_passed}
use Rattle.answers.proofs.Refused.{handed_on, first_stops, later_stops, last_decides, row_passed}
use Rattle.digest_peers.specs.Call.{peers_tests}
use Rattle.digest_peers.proofs.validate.Goals as goal

pub returns-in_err-width : goal.returns-in_err-width
unfolding peers_tests
returns-in_err-width c = handed_on _ _ _ c.from_residual.ensures.1 (first_stops _ _ _ c.in_err-width.ensures)

pub returns-in_err-kept : goal.returns-in_err-kept
unfolding peers_tests
returns-in_err-kept c = handed_on _ _ _ c.from_residual-in_err-kept.ensures.1 (later_stops _ _ _ c.in_ok-width.ensures (first_stops _ _ _ c.in_err-kept.ensures))

pub returns-in_err-count : goal.returns-in_err-count
unfolding peers_tests
returns-in_err-count c = handed_on _ _ _ c.from_residual-in_err-count.ensures.1 (later_stops _ _ _ c.in_ok-width.ensures (later_stops _ _ _ c.in_ok-kept.ensures (first_stops _ _ _ c.in_err-count.ensures)))

pub returns-in_err-peers : goal.returns-in_err-peers
unfolding peers_tests
returns-in_err-peers c = handed_on _ _ _ c.from_residual-in_err-peers.ensures.1 (later_stops _ _ _ c.in_ok-width.ensures (later_stops _ _ _ c.in_ok-kept.ensures (later_stops _ _ _ c.in_ok-count.ensures (first_stops _ _ _ c.in_err-peers.ensures))))

pub returns-in_err-long : goal.returns-in_err-long
unfolding peers_tests
returns-in_err-long c = handed_on _ _ _ c.from_residual-in_err-long.ensures.1 (later_stops _ _ _ c.in_ok-width.ensures (later_stops _ _ _ c.in_ok-kept.ensures (later_stops _ _ _ c.in_ok-count.ensures (later_stops _ _ _ c.in_ok-peers.ensures (first_stops _ _ _ c.in_err-long.ensures)))))

pub returns-in_err-key : goal.returns-in_err-key
unfolding peers_tests
returns-in_err-key c = handed_on _ _ _ c.from_residual-in_err-key.ensures.1 (later_stops _ _ _ c.in_ok-width.ensures (later_stops _ _ _ c.in_ok-kept.ensures (later_stops _ _ _ c.in_ok-count.ensures (later_stops _ _ _ c.in_ok-peers.ensures (later_stops _ _ _ c.in_ok-long.ensures (first_stops _ _ _ c.in_err-key.ensures))))))

pub returns : goal.returns
unfolding peers_tests
returns c = last_decides _ _ _ c.in_ok-width.ensures (last_decides _ _ _ c.in_ok-kept.ensures (last_decides _ _ _ c.in_ok-count.ensures (last_decides _ _ _ c.in_ok-peers.ensures (last_decides _ _ _ c.in_ok-long.ensures (last_decides _ _ _ c.in_ok-key.ensures c.tray.ensures)))))

pub overflow_mul-peers : goal.overflow_mul-peers
overflow_mul-peers c =
    let a = c.args in
    let few = (peers_passed a.p (row_passed _ _ c.in_ok-peers.ensures)).1 in
    let words = (count_passed a.n (row_passed _ _ c.in_ok-count.ensures)).1 in
    omega (arith, words, mul-le-mul_right (length a.message.now + a.n) few, long_passed 65536 (length a.message.now) (row_passed _ _ c.in_ok-long.ensures))

pub overflow_mul-peers-2 : goal.overflow_mul-peers-2
overflow_mul-peers-2 c =
    let a = c.args in
    let few = (peers_passed a.p (row_passed _ _ c.in_ok-peers.ensures)).1 in
    omega (arith, mul-le-mul_right a.n few, count_passed a.n (row_passed _ _ c.in_ok-count.ensures))
