-- `sum_walk::walk` meets its contract: after p pairs each sum has their words, and the bits gathered are below 2^w where they fit.
use Rattle.std.proofs.Common.{◌≡◌, ◌*◌, not, eqb, ◌&&◌, take}
use Rattle.theory_counts.specs.Words.{fits}
use Rattle.sum_terms.specs.Sums.{tests}
use Rattle.sum_walk.specs.Walk.{PartialSums, bits_fit}
use Rattle.sum_walk.proofs.walk.Given as goal

abbrev pub invariant-loop-p : goal.invariant-loop-p
invariant-loop-p g l = PartialSums l.w g.row.N l.message l.key l.sums.low l.sums.high (2 * l.p)
    × (bits_fit l.w l.bits.even l.bits.odd l.bits.keys ≡ (tests (not (eqb g.row.TESTED 0)) l.w (take (2 * l.p) l.message) && fits l.w (take (2 * l.p) l.key)))
