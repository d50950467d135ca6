use mathlib.Core.Path.{◌≡◌, refl, ◌∙◌}
use Prim.Native.Nat.{ℕ}
use native.Mathlib.Omega.{arith}
use lib.ListN.{length, get_or}
use Rattle.rows.proofs.Written.{written_none, written_step, written_all}
use Rattle.theory_digest.specs.Digest.{kept}
use Rattle.sum_walk.proofs.Apart.{reduced}
use Rattle.digest_peers.proofs.write_row.Goals as goal

pub loop-i-init : goal.loop-i-init
loop-i-init c = written_none _ _

pub loop-i-preserved : goal.loop-i-preserved
unfolding kept
loop-i-preserved c =
    let l = c.loop-i in
    let a = c.args in
    let f : ℕ → ℕ = λ j. kept a.b (get_or a.sums.now j 0) in
    let word = c.keep.ensures ∙ reduced a.b 32 (get_or a.sums.now l.i 0) c.requires.0 in
    written_step f a.row.now l.row l.i _ (omega arith) word l.invariant

pub returns : goal.returns
returns c =
    let l = c.loop-i in
    let row = c.args.row.now in
    let all : l.i ≡ length row = omega arith in
    (rw all at l.invariant) ∙ written_all _ row (length row) refl
