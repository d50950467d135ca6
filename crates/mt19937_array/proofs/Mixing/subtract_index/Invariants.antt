-- `Mixing::subtract_index` meets its contract. Before turn k the first k steps are made, and the index is that of turn k.
use Rattle.std.proofs.Common.{◌≡◌, ◌+◌, ◌≤◌}
use Rattle.mt19937.specs.Published.{steps}
use Rattle.mt19937_array.specs.SeedArray.{place_at, index_step}
use Rattle.mt19937_array.proofs.Mixing.subtract_index.Given as goal

abbrev pub invariant-loop-k : goal.invariant-loop-k
invariant-loop-k l =
    (l.k ≤ 623) × (l.self.words ≡ steps index_step l.k l.initial.self.words) × (l.self.i ≡ place_at (624 + l.k))
