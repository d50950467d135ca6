-- `sum_peers::Peers::add_to_rows` meets its contract: after q peers their rows have the words.
use Rattle.std.proofs.Common.{◌≡◌, ℕ, ◌*◌, ◌<◌, ◌≤◌, [], length, get_or, drop, take}
use Rattle.sum_peers.specs.Peers.{RowAccumulated}
use Rattle.sum_peers.proofs.Peers.add_to_rows.Given as goal

abbrev pub invariant-loop-q : goal.invariant-loop-q
invariant-loop-q g l =
    (l.initial.sums-items ≡ take l.self.p l.fn.rows) × (length l.sums-items ≡ l.self.p)
    × ((k : ℕ) → k < l.q → RowAccumulated l.self.w l.self.n l.fn.words (drop (k * l.self.size) (drop l.j l.self.keys.now)) (get_or l.fn.rows k []) (get_or l.sums-items k []))
    × ((k : ℕ) → l.q ≤ k → k < l.self.p → get_or l.sums-items k [] ≡ get_or l.fn.rows k [])
