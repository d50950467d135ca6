-- `Mixing::add_seed` meets its contract. Before turn k the first k steps are made, and both indices are those of turn k.
use Rattle.std.proofs.Common.{◌≡◌, ◌≤◌, length}
use Rattle.mt19937.specs.Published.{steps}
use Rattle.mt19937_array.specs.SeedArray.{place_at, seed_step}
use Rattle.mt19937_array.proofs.SeedArray.{Index}
use Rattle.mt19937_array.proofs.Mixing.add_seed.Given as goal

abbrev pub invariant-loop-k : goal.invariant-loop-k
invariant-loop-k l =
    (l.k ≤ 624) × (l.self.words ≡ steps (seed_step l.seed) l.k l.initial.self.words) × (l.self.i ≡ place_at l.k) × Index 0 (length l.seed) l.k l.j
