use mathlib.Core.Path.{◌≡◌, sym, ap, ◌∙◌}
use Prim.Native.Nat.{ℕ, ◌+◌, ◌-◌, ◌*◌, ◌≤◌}
use native.Mathlib.Nat.{zero-mul}
use native.Mathlib.Omega.{arith}
use lib.ListN.{length, take, drop, length-drop}
use lib.Seq.{length-take-le}
use Rattle.sum_peers.proofs.Suffices.{row_within}
use Rattle.digest_peers.specs.Kept.{kept_rows}
use Rattle.digest_peers.proofs.Kept.{one_more}
use Rattle.digest_peers.proofs.write_rows.Goals as goal

pub loop-q-init : goal.loop-q-init
unfolding kept_rows
loop-q-init c = let a = c.args in ap (λ (k : ℕ). drop k a.out.now) (sym (zero-mul a.n))

pub loop-q-preserved : goal.loop-q-preserved
loop-q-preserved c =
    let l = c.loop-q in
    let a = c.args in
    let at = l.q * a.n in
    let k = at + a.n - at in
    let rows = a.rows.now in
    let all : k ≡ a.n = omega arith in
    let room : at + a.n ≤ length l.out = omega (arith, c.requires.3, c.loop-q.auto.out, row_within a.n l.q (length rows) c.loop-q-test.true) in
    let long : length (take k (drop at l.out)) ≡ a.n = length-take-le k (drop at l.out) (omega (arith, length-drop at l.out)) ∙ all in
    one_more a.b a.n rows l.q k a.out.now l.out c.write_row.new.row all l.invariant (rw long at c.write_row.ensures)
