-- `sum_bytes::load` meets its contract: the first bytes over zeros.
use mathlib.Core.Path.{ap, ◌∙◌}
use mathlib.Core.List.{List, ◌++◌}
use Prim.Native.Nat.{ℕ}
use lib.ListN.{replicate, drop}
use Rattle.sum_bytes.specs.Bytes.{little_endian}
use Rattle.sum_bytes.proofs.Words.{little_four, little_loaded}
use Rattle.sum_bytes.proofs.load.Goals as goal

pub returns : goal.returns
returns g c =
    c.from_le_bytes.ensures
    ∙ little_four _
    ∙ ap (λ (l : List ℕ). little_endian 4 (l ++ drop g.row.C (replicate 4 0))) c.copy_from_slice.ensures.after
    ∙ little_loaded g.row.C c.args.bytes.now c.requires.0 c.requires.1
