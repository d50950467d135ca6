-- `run_lengths::keys_of` meets its contract: each turn adds the keys with the next two first words.
use mathlib.Core.Path.{◌≡◌}
use Prim.Native.Nat.{◌+◌, ◌*◌, ◌≤◌}
use Rattle.theory_counts.specs.Count.{sum_to}
use Rattle.run_lengths.proofs.Laws.{keys_after, keys_from}
use Rattle.run_lengths.proofs.keys_of.Given as goal

abbrev pub invariant-loop-first : goal.invariant-loop-first
invariant-loop-first l = (l.count ≡ sum_to l.first (keys_from l.byte)) × (l.count ≤ 65536 * l.first)

abbrev pub invariant-loop-second : goal.invariant-loop-second
invariant-loop-second l =
    (l.count ≡ sum_to l.first (keys_from l.byte) + sum_to l.second (keys_after l.byte l.first)) × (l.count ≤ 65536 * l.first + 256 * l.second)
