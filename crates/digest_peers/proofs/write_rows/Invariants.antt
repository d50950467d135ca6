-- `digest_peers::write_rows` meets its contract: after q rows they lie end to end, and the places beyond hold what they held.
use mathlib.Core.Path.{◌≡◌}
use mathlib.Core.List.{◌++◌}
use Prim.Native.Nat.{◌*◌}
use lib.ListN.{drop}
use Rattle.digest_peers.specs.Kept.{kept_rows}
use Rattle.digest_peers.proofs.write_rows.Given as goal

abbrev pub invariant-loop-q : goal.invariant-loop-q
invariant-loop-q l = l.out ≡ kept_rows l.b l.n l.q l.rows ++ drop (l.q * l.n) l.initial.out
