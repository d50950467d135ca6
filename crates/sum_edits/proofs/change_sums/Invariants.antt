-- `sum_edits::change_sums` meets its contract: of the places that change, the first i are new, and the others are as they were.
use Rattle.std.proofs.Common.{◌≡◌, ℕ, ◌+◌, ◌%◌, ◌^◌, ◌<◌, ◌≤◌, length, get_or, take}
use Rattle.rows.specs.Written.{written}
use Rattle.sum_walk.specs.Walk.{added}
use Rattle.sum_edits.specs.Steps.{Adds}
use Rattle.sum_edits.proofs.change_sums.Given as goal

abbrev pub invariant-loop-i : goal.invariant-loop-i
invariant-loop-i g l = record {
  width : l.w ≤ 32;
  keys : l.places < length l.part;
  places : l.places ≤ length l.fn.sums;
  so_far : (to : ℕ → ℕ) → Adds l.w to (goal.F-post g l.step)
      → l.sum-items ≡ written (λ j. (get_or l.fn.sums j 0 + to (added l.w l.part j l.m % 2 ^ 32)) % 2 ^ l.w) l.i (take l.places l.fn.sums);
}
