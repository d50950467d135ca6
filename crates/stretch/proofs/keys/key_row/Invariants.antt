-- `stretch::keys::key_row` meets its contract. Before each turn the first places are written, and the state is the one after them.
use Prim.Native.Nat.{◌-◌}
use Rattle.mt19937.specs.Published.{generator}
use Rattle.stretch.proofs.Rows.{Begun}
use Rattle.stretch.proofs.keys.key_row.Given as goal

abbrev pub invariant-loop-done : goal.invariant-loop-done
invariant-loop-done l = Begun l.w (generator l.initial.words l.at) l.n l.words l.used l.out l.done

abbrev pub decreases-loop-done : goal.decreases-loop-done
decreases-loop-done l = l.n - l.done
