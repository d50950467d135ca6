-- `mt19937_array::fill_by_array` meets its contract: the filling, the two loops and the last word 0.
use Rattle.std.proofs.Common.{ap}
use Rattle.mt19937.specs.Published.{seeded}
use Rattle.mt19937.specs.declared.Generator.{Generator}
use Rattle.mt19937_array.specs.SeedArray.{array_words}
use Rattle.mt19937_array.proofs.fill_by_array.Goals as goal

pub returns : goal.returns
unfolding array_words seeded
returns c =
    let filled = ap (λ (g : Generator). g.words) c.new.ensures in
    cc (c.subtract_index.ensures, c.add_seed.ensures.words, filled)
