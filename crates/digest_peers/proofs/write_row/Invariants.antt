-- `digest_peers::write_row` meets its contract: after i places the row is written up to i.
use mathlib.Core.Path.{◌≡◌}
use lib.ListN.{get_or}
use Rattle.rows.specs.Written.{written}
use Rattle.theory_digest.specs.Digest.{kept}
use Rattle.digest_peers.proofs.write_row.Given as goal

abbrev pub invariant-loop-i : goal.invariant-loop-i
invariant-loop-i l = l.row ≡ written (λ j. kept l.b (get_or l.sums j 0)) l.i l.initial.row
