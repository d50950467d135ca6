-- How near two messages come to demand 3's bound: the one-word messages 1 and 1 + 2^h, with one digest word. No source document says it.
use Rattle.std.specs.Prelude.{◌≡◌, ◌≢◌, List, [], ◌∷◌, ℕ, ◌+◌, ◌*◌, ◌-◌, ◌/◌, ◌^◌, ◌≤◌, ◌<◌, length}
use Rattle.theory_counts.specs.Words.{Row}
use Rattle.theory_digest.specs.Claims.{keys_that_differ, most_keys}

-- how many keys of two words make the digests of 1 and 1 + 2^h differ by 0, with b bits kept
unfoldable pub pair_keys : ℕ → ℕ → ℕ → ℕ
pair_keys w b h = keys_that_differ w b 1 1 (1 ∷ []) ((1 + 2 ^ h) ∷ []) (0 ∷ [])

-- all bits kept, h at least half the width: exactly 2^(w+1) − 2^h keys, of which the bound allows 2^(w+1)
unfoldable pub PairCount : Type 0
PairCount = (w h : ℕ) → w ≤ 2 * h → h < w → pair_keys w w h ≡ 2 ^ (w + 1) - 2 ^ h

-- b bits kept, at least h: the same times 2^(w−b), as in the bound
unfoldable pub PairCountKept : Type 0
PairCountKept = (w b h : ℕ) → w ≤ 2 * h → h < w → h ≤ b → b ≤ w → pair_keys w b h ≡ 2 ^ (w - b) * (2 ^ (w + 1) - 2 ^ h)

-- both are messages, and they differ: the bound is about them
unfoldable pub PairInBound : Type 0
PairInBound = (w h : ℕ) → w ≤ 2 * h → h < w → Row w 1 (1 ∷ []) × Row w 1 ((1 + 2 ^ h) ∷ []) × ((1 ∷ []) ≢ ((1 + 2 ^ h) ∷ []))

-- half the width, rounded up
unfoldable pub half : ℕ → ℕ
half w = (w + 1) / 2

-- what this pair leaves of the bound is one part in 2^(w div 2 + 1), at every width that has such a pair
unfoldable pub UpToOnePart : Type 0
UpToOnePart = (w : ℕ) → 2 ≤ w → (2 ^ (w + 1) - pair_keys w w (half w)) * 2 ^ (w / 2 + 1) ≡ 2 ^ (w + 1)

-- a bound of c = p/q of demand 3's, for all settings, messages and differences, in whole numbers
unfoldable pub BoundOfPart : ℕ → ℕ → Type 0
BoundOfPart p q =
    (w b n t : ℕ) (first second ds : List ℕ)
    → b ≤ w
    → Row w t first
    → Row w t second
    → first ≢ second
    → length ds ≡ n
    → q * keys_that_differ w b n t first second ds ≤ p * most_keys w b n t

-- c = 1 is demand 3
unfoldable pub WholeBound : Type 0
WholeBound = BoundOfPart 1 1

-- no c < 1 will do
unfoldable pub NoSmallerBound : Type 0
NoSmallerBound = (p q : ℕ) → p < q → ¬ BoundOfPart p q

-- at every width from q on that has such a pair, which is from 2 on, it passes p/q of the bound
unfoldable pub ExceededFrom : Type 0
ExceededFrom = (p q w : ℕ) → p < q → q ≤ w → 2 ≤ w → p * 2 ^ (w + 1) < q * pair_keys w w (half w)

-- 01, case I; the count that 003 reports at seven bits (01, "Worked digests": 240 of 16,384 keys); the widest words
unfoldable pub TwoBits : Type 0
TwoBits = keys_that_differ 2 2 1 1 (1 ∷ []) (3 ∷ []) (0 ∷ []) ≡ 6

unfoldable pub SevenBits : Type 0
SevenBits = keys_that_differ 7 7 1 1 (1 ∷ []) (17 ∷ []) (0 ∷ []) ≡ 240

unfoldable pub ThirtyTwoBits : Type 0
ThirtyTwoBits = keys_that_differ 32 32 1 1 (1 ∷ []) (65537 ∷ []) (0 ∷ []) ≡ 2 ^ 33 - 2 ^ 16
