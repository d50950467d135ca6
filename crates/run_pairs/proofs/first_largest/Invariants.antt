-- `run_pairs::first_largest` meets its contract: at is the first largest of the numbers passed.
use Prim.Native.Nat.{max}
use Rattle.theory_pairs.specs.Search.{First}
use Rattle.run_pairs.proofs.first_largest.Given as goal

abbrev pub invariant-loop-i : goal.invariant-loop-i
invariant-loop-i l = First l.counts (max 1 l.i) l.at
