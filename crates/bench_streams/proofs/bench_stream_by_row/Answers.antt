use mathlib.Core.Path.{refl}
use Rattle.bench_streams.specs.Pushes.{row_pushes}
use Rattle.bench_streams.proofs.Pushes.{one_more_by_row}
use Rattle.bench_streams.proofs.bench_stream_by_row.Goals as goal

pub loop-init : goal.loop-init
unfolding row_pushes
loop-init c = refl

pub loop-preserved : goal.loop-preserved
loop-preserved c = one_more_by_row _ _ _ _ _ _ c.loop.invariant c.push.ensures.1
