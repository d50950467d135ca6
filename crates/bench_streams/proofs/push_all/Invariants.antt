-- `bench_streams::push_all` meets its contract: after so many turns the state has taken as many pushes.
use Rattle.std.proofs.Common.{◌≡◌}
use Rattle.bench_streams.specs.Pushes.{pushes}
use Rattle.bench_streams.proofs.push_all.Given as goal

abbrev pub invariant-loop : goal.invariant-loop
invariant-loop l = l.state ≡ pushes l.counter l.initial.state l.message l.key
