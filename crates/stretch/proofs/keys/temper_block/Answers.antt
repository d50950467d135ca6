use mathlib.Core.Path.{◌≡◌, refl, ◌∙◌}
use native.Mathlib.Omega.{arith}
use lib.ListN.{length}
use Rattle.rows.proofs.Written.{written_none, written_step, written_all}
use Rattle.stretch.specs.Stretch.{key_from}
use Rattle.stretch.proofs.keys.temper_block.Goals as goal

pub loop-i-init : goal.loop-i-init
loop-i-init c = written_none _ _

pub loop-i-preserved : goal.loop-i-preserved
unfolding key_from
loop-i-preserved c =
    let l = c.loop-i in
    written_step _ _ l.out l.i _ (omega arith) c.key_word.ensures l.invariant

pub returns : goal.returns
returns c =
    let l = c.loop-i in
    let old = c.args.out.now in
    let done : l.i ≡ length old = omega arith in
    (rw done at l.invariant) ∙ written_all _ old (length old) refl
