-- `sum_words::add_totals` meets its contract: of the places that change, the first i are new, and the others are as they were.
use Rattle.std.proofs.Common.{◌≡◌, ◌+◌, ◌%◌, ◌^◌, ◌≤◌, length, get_or, take}
use Rattle.rows.specs.Written.{written}
use Rattle.sum_walk.specs.Walk.{sum_at}
use Rattle.sum_words.proofs.add_totals.Given as goal

abbrev pub invariant-loop-i : goal.invariant-loop-i
invariant-loop-i l = record {
  places : l.places ≤ length l.fn.sums;
  so_far : l.sum-items ≡ written (λ j. (get_or l.fn.sums j 0 + sum_at l.w l.walked.low l.walked.high j) % 2 ^ l.w) l.i (take l.places l.fn.sums);
}
