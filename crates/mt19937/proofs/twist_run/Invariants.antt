-- `mt19937::twist_run` meets its contract. Before turn i the words are i steps from any words that they were `from` steps from at entry.
use Rattle.std.proofs.Common.{◌≡◌, ℕ, ◌-◌, ◌≤◌, List}
use Rattle.mt19937.specs.Published.{steps, twist}
use Rattle.mt19937.proofs.twist_run.Given as goal

abbrev pub invariant-loop-i : goal.invariant-loop-i
invariant-loop-i l = (l.from ≤ l.i) × (l.i ≤ l.to) × ((ws : List ℕ) → l.initial.words ≡ steps twist l.from ws → l.words ≡ steps twist l.i ws)

abbrev pub decreases-loop-i : goal.decreases-loop-i
decreases-loop-i l = l.to - l.i
