use mathlib.Core.Path.{refl}
use Rattle.bench_streams.specs.Pushes.{pushes}
use Rattle.bench_streams.proofs.Pushes.{one_more}
use Rattle.bench_streams.proofs.push_all.Goals as goal

pub loop-init : goal.loop-init
unfolding pushes
loop-init c = refl

pub loop-preserved : goal.loop-preserved
loop-preserved c = one_more _ _ _ _ _ _ c.loop.invariant c.push.ensures.1
