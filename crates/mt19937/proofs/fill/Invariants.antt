-- `mt19937::fill` meets its contract. Before turn i the first i words are written, and p is word i.
use Rattle.std.proofs.Common.{◌≡◌, zero, ◌≤◌, ℕ, List, replicate}
use Rattle.mt19937.specs.Published.{new_word}
use Rattle.rows.specs.Written.{written}
use Rattle.mt19937.proofs.fill.Given as goal

-- the row before the filling
abbrev pub zeros : List ℕ
zeros = replicate 624 zero

abbrev pub invariant-loop-i : goal.invariant-loop-i
invariant-loop-i l = (l.i ≤ 624) × (l.p ≡ new_word l.seed l.i) × (l.word-items ≡ written (new_word l.seed) l.i zeros)
