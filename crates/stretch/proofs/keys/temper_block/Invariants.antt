-- `stretch::keys::temper_block` meets its contract. Before turn i the first i places are written.
use mathlib.Core.Path.{◌≡◌}
use Rattle.rows.specs.Written.{written}
use Rattle.stretch.specs.Stretch.{key_from}
use Rattle.stretch.proofs.keys.temper_block.Given as goal

abbrev pub invariant-loop-i : goal.invariant-loop-i
invariant-loop-i l = l.out ≡ written (key_from l.w l.words l.from) l.i l.initial.out
