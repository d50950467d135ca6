use Rattle.std.proofs.Common.{◌^◌, arith}
use Rattle.theory_counts.specs.Words.{fits}
use lib.Pow.{pow_pos}
use borrow.Author.Tests.{lt-ltb}
use Rattle.sum_peers.proofs.Accumulation.{all_none}
use Rattle.sum_peers.proofs.Pairs.{pair_added, pair_tested}
use Rattle.sum_peers.proofs.Peers.add_pairs.Goals as goal

pub loop-j-init : goal.loop-j-init
unfolding fits
loop-j-init c =
    let s = c.args.self.now in
    (rw c.requires.0 (all_none s.w s.n s.size s.keys.now s.p s.sums s.peers), lt-ltb 0 (2 ^ s.w) (pow_pos s.w))

pub loop-j-preserved : goal.loop-j-preserved
loop-j-preserved c =
    let l = c.loop-j in
    let s = c.args.self.now in
    let pairs = c.args.pairs.now in
    let each = c.told-pairs in (
      pair_added pairs each s.w s.n s.p s.size s.keys.now l.j (omega arith) c.args.rows.now l.rows c.add_to_rows.new.rows l.invariant.0 c.add_to_rows.ensures,
      pair_tested pairs each s.w l.j (omega arith) l.bits l.invariant.1,
    )
