use mathlib.Core.Path.{ap, ◌∙◌, refl}
use Prim.Native.Nat.{◌*◌}
use native.Mathlib.Omega.{arith}
use lib.ListN.{length}
use Rattle.rows.proofs.Parts.{part_to_end}
use Rattle.rows.proofs.Written.{written_none, written_step}
use Rattle.sum_bytes.specs.Bytes.{little_endian}
use Rattle.sum_bytes.proofs.Words.{words_written}
use Rattle.sum_bytes.proofs.decode_run.Goals as goal

pub loop-i-init : goal.loop-i-init
loop-i-init g c = written_none _ _

pub loop-i-preserved : goal.loop-i-preserved
loop-i-preserved g c =
    let l = c.loop-i in
    let xs = c.args.bytes.now in
    written_step _ _ l.row l.i _ (omega arith)
    (c.load.ensures ∙ ap (little_endian g.row.C) (part_to_end (length xs) (l.i * g.row.C) xs refl))
    l.invariant

pub returns : goal.returns
returns g c =
    let l = c.loop-i in
    l.invariant ∙ words_written _ l.i _ _ (omega arith)
