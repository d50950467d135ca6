-- `sum_peers::Peers::add_pairs` meets its contract: after j pairs every peer's row has them, and the answer is whether they fit.
use Rattle.std.proofs.Common.{◌≡◌, ◌^◌, nat_lt, take}
use Rattle.std.specs.List.{concat}
use Rattle.theory_counts.specs.Words.{fits}
use Rattle.sum_peers.specs.Peers.{RowsAccumulated}
use Rattle.sum_peers.proofs.Peers.add_pairs.Given as goal

abbrev pub invariant-loop-j : goal.invariant-loop-j
invariant-loop-j l =
    RowsAccumulated l.self.w l.self.n l.self.p l.self.size (concat (take l.j l.pairs)) l.self.keys.now l.initial.rows l.rows
    × (nat_lt l.bits (2 ^ l.self.w) ≡ fits l.self.w (concat (take l.j l.pairs)))
