-- The largest count that the search finds for digests, beside what is proved of the pair 1 and 17 (`SevenBits`, crate theory_digest).
use Rattle.std.specs.Prelude.{◌≡◌, ℕ, ◌≤◌}
use Rattle.theory_pairs.specs.Agree.{agreeing}
use Rattle.theory_pairs.specs.Search.{LargestPair}

-- if the first pair is 1 and 17, the largest count is 240
unfoldable pub FoundCount : Type 0
FoundCount = (largest pairs : ℕ) → LargestPair (agreeing 0) largest 1 17 pairs → largest ≡ 240

-- and it is no less, whatever the first pair
unfoldable pub FoundAtLeast : Type 0
FoundAtLeast = (largest first second pairs : ℕ) → LargestPair (agreeing 0) largest first second pairs → 240 ≤ largest
