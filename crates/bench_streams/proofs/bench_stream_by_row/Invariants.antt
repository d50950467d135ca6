-- `bench_streams::bench_stream_by_row` meets its contract: after so many turns the row has taken as many pushes.
use Rattle.std.proofs.Common.{◌≡◌}
use Rattle.bench_streams.specs.Pushes.{row_pushes}
use Rattle.bench_streams.proofs.bench_stream_by_row.Given as goal

abbrev pub invariant-loop : goal.invariant-loop
invariant-loop l = l.state ≡ row_pushes l.counter l.initial.state l.message l.key
