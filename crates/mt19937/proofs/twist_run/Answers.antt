use Rattle.std.proofs.Common.{arith}
use Rattle.mt19937.specs.Published.{twist}
use Rattle.mt19937.proofs.Laws.{steps_next}
use Rattle.mt19937.proofs.twist_run.Goals as goal

pub loop-i-preserved : goal.loop-i-preserved
loop-i-preserved c =
    let l = c.loop-i in
    (omega arith, omega arith, λ ws e. cc (l.invariant.2 ws e, steps_next twist l.i ws))
