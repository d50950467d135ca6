-- `sum_bytes::decode_run` meets its contract: after i words the row is the first i words, then what it held from there on.
use mathlib.Core.Path.{◌≡◌}
use Prim.Native.Nat.{◌*◌}
use lib.ListN.{drop}
use Rattle.rows.specs.Written.{written}
use Rattle.sum_bytes.specs.Bytes.{little_endian}
use Rattle.sum_bytes.proofs.decode_run.Given as goal

abbrev pub invariant-loop-i : goal.invariant-loop-i
invariant-loop-i g l = l.row ≡ written (λ j. little_endian g.row.C (drop (j * g.row.C) l.bytes)) l.i l.initial.row
