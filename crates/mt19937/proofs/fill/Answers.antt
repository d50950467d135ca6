use Rattle.std.proofs.Common.{◌≡◌, ℕ, zero, ◌+◌, ◌<◌, length, refl, ◌∙◌, add-one, arith}
use lib.ListN.{length-replicate}
use Rattle.mt19937.specs.Published.{following, new_word, new_words}
use Rattle.rows.proofs.Written.{written_none, written_next, written_all}
use Rattle.mt19937.proofs.fill.Invariants.{zeros}
use Rattle.mt19937.proofs.fill.Goals as goal

newWord-next : (seed i : ℕ) → new_word seed (i + 1) ≡ following (i + 1) (new_word seed i)
unfolding new_word
newWord-next seed i = rw add-one

pub loop-i-init : goal.loop-i-init
unfolding new_word
loop-i-init c = (omega arith, refl, written_none _ zeros)

pub loop-i-preserved : goal.loop-i-preserved
loop-i-preserved c =
    let l = c.loop-i in
    let seed = c.args.seed in
    let long : l.i < length zeros = omega (arith, length-replicate 624 zero) in (
      omega arith,
      cc (newWord-next seed l.i),
      cc (written_next (new_word seed) zeros l.i long),
    )

pub returns : goal.returns
unfolding new_words
returns c =
    let l = c.loop-i in
    let done : l.i ≡ 624 = omega arith in
    (rw done at l.invariant.2) ∙ written_all _ zeros 624 (length-replicate 624 zero)
