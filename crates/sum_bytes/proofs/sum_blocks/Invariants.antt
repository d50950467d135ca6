-- `sum_bytes::sum_blocks` meets its contract: before each block the sums and the range test are those of the words that are passed.
use mathlib.Core.Path.{◌≡◌}
use Prim.Native.Nat.{◌+◌, ◌*◌, min}
use lib.ListN.{length}
use Rattle.sum_bytes.specs.Sizes.{bytes_of}
use Rattle.sum_bytes.proofs.Blocks.{sums_to, fit_to}
use Rattle.sum_bytes.proofs.sum_blocks.Given as goal

abbrev pub invariant-loop-block : goal.invariant-loop-block
invariant-loop-block g l =
    let at = min (l.full + 1) (l.block * g.row.N) in
    (length l.row ≡ g.row.N)
    × (l.fit ≡ fit_to l.w l.n (bytes_of l.size) at l.message l.key)
    × (l.sums ≡ sums_to l.w l.n (bytes_of l.size) at l.message l.key l.initial.sums)
