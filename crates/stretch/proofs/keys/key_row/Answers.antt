use native.Mathlib.Omega.{arith}
use lib.ListN.{length-take, length-drop}
use Rattle.mt19937.proofs.Laws.{ready_left}
use Rattle.stretch.proofs.Rows.{row_none, row_next, row_all}
use Rattle.stretch.proofs.keys.key_row.Goals as goal

pub loop-done-init : goal.loop-done-init
loop-done-init c = row_none _ _ _ _ (omega arith)

pub block_end-end-requires : goal.block_end-end-requires
block_end-end-requires c = let left = ready_left _ (omega arith) c.make_ready-from.ensures in omega arith

pub temper_block-requires : goal.temper_block-requires
temper_block-requires c =
    let left = ready_left _ (omega arith) c.make_ready-from.ensures in
    simp (length-take, length-drop) (omega arith)

pub loop-done-smaller : goal.loop-done-smaller
loop-done-smaller c =
    let left = ready_left _ (omega arith) c.make_ready-from.ensures in
    omega arith

pub loop-done-preserved : goal.loop-done-preserved
loop-done-preserved c =
    let l = c.loop-done in
    let ready = c.make_ready-from.ensures in
    row_next _ _ _ _ l.done l.used _ l.words _ l.out _ (omega arith) ready c.block_end-end.ensures c.temper_block.ensures l.invariant

pub returns : goal.returns
returns c = let l = c.loop-done in row_all _ _ l.used l.done _ l.words l.out c.loop-done-test.false l.invariant
