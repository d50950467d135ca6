use Rattle.std.proofs.Common.{◌≡◌, ◌+◌, arith}
use Rattle.mt19937_array.specs.SeedArray.{index_step}
use Rattle.mt19937.proofs.Laws.{steps_none, steps_next}
use Rattle.mt19937_array.proofs.SeedArray.{place_next, index_word_mixed}
use Rattle.mt19937_array.proofs.Mixing.subtract_index.Goals as goal

pub loop-k-init : goal.loop-k-init
loop-k-init c = (omega arith, steps_none _ _, c.requires)

pub loop-k-preserved : goal.loop-k-preserved
unfolding index_step
loop-k-preserved c =
    let l = c.loop-k in
    let word = index_word_mixed l.self.words l.self.i (omega arith) c.mix-word.ensures in
    let turn : 624 + l.k + 1 ≡ 624 + (l.k + 1) = omega arith in (
      omega arith,
      cc (c.put.ensures.words, word, l.invariant.1, l.invariant.2, steps_next index_step l.k c.args.self.now.words),
      rw turn at (place_next (624 + l.k) l.invariant.2 c.put.ensures.i),
    )
