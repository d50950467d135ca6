-- `sum_peers::Peers::add_to_row` meets its contract: after i sums the row is written up to i.
use Rattle.std.proofs.Common.{◌≡◌, ℕ, ◌+◌, ◌%◌, ◌^◌, ◌<◌, ◌≤◌, length, get_or, drop, take}
use Rattle.theory_digest.specs.Digest.{whole_sum}
use Rattle.sum_peers.proofs.Peers.add_to_row.Given as goal

abbrev pub invariant-loop-i : goal.invariant-loop-i
invariant-loop-i g l =
    (l.initial.sum-items ≡ take l.self.n l.fn.sums) × (length l.sum-items ≡ l.self.n)
    × ((k : ℕ) → k < l.i → get_or l.sum-items k 0 ≡ (get_or l.fn.sums k 0 + whole_sum l.self.w l.fn.words (drop k l.part)) % 2 ^ 64)
    × ((k : ℕ) → l.i ≤ k → k < l.self.n → get_or l.sum-items k 0 ≡ get_or l.fn.sums k 0)
