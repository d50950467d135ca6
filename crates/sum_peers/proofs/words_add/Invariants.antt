-- `sum_peers::words_add` meets its contract: after j words the sum is theirs.
use Rattle.std.proofs.Common.{◌≡◌, ◌%◌, ◌^◌, ◌∷◌, get_or, take}
use Rattle.theory_digest.specs.Digest.{whole_sum}
use Rattle.sum_peers.proofs.words_add.Given as goal

abbrev pub invariant-loop-j : goal.invariant-loop-j
invariant-loop-j g l = (l.key ≡ get_or (l.first ∷ l.nexts) l.j 0) × (l.sum ≡ whole_sum l.w (take l.j l.word-items) (l.first ∷ l.nexts) % 2 ^ 64)
