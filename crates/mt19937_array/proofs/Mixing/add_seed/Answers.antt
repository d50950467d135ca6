use Rattle.std.proofs.Common.{length, arith}
use Rattle.mt19937_array.specs.SeedArray.{seed_step}
use Rattle.mt19937.proofs.Laws.{steps_none, steps_next}
use Rattle.mt19937_array.proofs.SeedArray.{index_first, index_next, place_first, place_next, seed_word_mixed}
use Rattle.mt19937_array.proofs.Mixing.add_seed.Goals as goal

pub loop-k-init : goal.loop-k-init
loop-k-init c = (omega arith, steps_none _ _, place_first _ c.requires.0, index_first 0 _ (omega arith))

pub loop-k-preserved : goal.loop-k-preserved
unfolding seed_step
loop-k-preserved c =
    let l = c.loop-k in
    let seed = c.args.seed.now in
    let word = seed_word_mixed l.self.words l.self.i seed l.j c.mix.ensures in
    let next = steps_next (seed_step seed) l.k c.args.self.now.words in (
      omega arith,
      cc (c.put.ensures.words, word, l.invariant.1, l.invariant.2, l.invariant.3.place, next),
      place_next l.k l.invariant.2 c.put.ensures.i,
      index_next 0 (length seed) l.k l.j (omega arith) l.invariant.3 c.step_on-j.ensures,
    )
