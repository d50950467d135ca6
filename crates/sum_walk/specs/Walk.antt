-- The walk of the code over a message (document 02, "Three"): n sums at once, and the range test of what it passes.
use Rattle.std.specs.Prelude.{◌≡◌, ℕ, ◌+◌, ◌*◌, ◌/◌, ◌%◌, ◌^◌, ◌<◌, ◌≤◌, Bool, true, false, ◌&&◌, List, length, take, drop, replicate, nat_lt, slice_index}
use Rattle.theory_counts.specs.Words.{fits}
use Rattle.theory_digest.specs.Digest.{whole_sum, one_word}
use Rattle.sum_terms.specs.Sums.{summable, tests}

-- a sum of the code as one number: the second of its two stands w bits too high
abbrev pub together : ℕ → ℕ → ℕ → ℕ
together w low high = low + high / 2 ^ w

-- sum i of the code's two rows
abbrev pub sum_at : ℕ → List ℕ → List ℕ → ℕ → ℕ
sum_at w low high i = together w (slice_index low i) (slice_index high i)

-- what the word m adds over the key's words at i and i + 1
abbrev pub added : ℕ → List ℕ → ℕ → ℕ → ℕ
added w ks i m = m * slice_index ks i + m * slice_index ks (i + 1) / 2 ^ w

-- rows with eight places, in which each of n sums is what it was and what f has for it, modulo 2^w
abbrev pub Accumulated : ℕ → ℕ → (ℕ → ℕ) → List ℕ → List ℕ → List ℕ → List ℕ → Type 0
Accumulated w n f low₀ high₀ low high =
    (length low ≡ 8) × (length high ≡ 8) × ((i : ℕ) → i < n → sum_at w low high i % 2 ^ w ≡ (sum_at w low₀ high₀ i + f i) % 2 ^ w)

-- the sum so far and that of the words from j on make the whole sum
abbrev pub PartialSum : ℕ → List ℕ → List ℕ → ℕ → ℕ → Type 0
PartialSum w ms ks sum j = (sum + whole_sum w (drop j ms) (drop j ks)) % 2 ^ w ≡ one_word w ms ks

-- rows with eight places, in which each of n sums has the words before j, and has the others left
abbrev pub PartialSums : ℕ → ℕ → List ℕ → List ℕ → List ℕ → List ℕ → ℕ → Type 0
PartialSums w n ms ks low high j = (length low ≡ 8) × (length high ≡ 8) × ((i : ℕ) → i < n → PartialSum w ms (drop i ks) (sum_at w low high i) j)

-- the range test as the walk makes it: all bits of the message words at even and at odd places, and of the key words in pairs,
-- the second of a pair in the upper half, are below 2^w
unfoldable pub bits_fit : ℕ → ℕ → ℕ → ℕ → Bool
bits_fit w even odd keys = (nat_lt (even % 2 ^ 32) (2 ^ w) && nat_lt (odd % 2 ^ 32) (2 ^ w)) && (nat_lt (keys % 2 ^ 32) (2 ^ w) && nat_lt (keys / 2 ^ 32) (2 ^ w))

-- the range test once two message words, where they are tested, and two key words are joined to it
abbrev pub BitsJoined : Bool → (ℕ → Bool) → List ℕ → List ℕ → ℕ → ℕ → ℕ → Type 0
BitsJoined asked before ms ks even odd keys = (w : ℕ) → bits_fit w even odd keys ≡ (before w && (tests asked w ms && fits w ks))

-- one number with all the bits
abbrev pub SameBits : ℕ → ℕ → ℕ → ℕ → Type 0
SameBits bits even odd keys = (w : ℕ) → nat_lt bits (2 ^ w) ≡ bits_fit w even odd keys

-- the words in pairs: all, or all but an odd last one
abbrev pub even_length : List ℕ → ℕ
even_length ms = length ms / 2 * 2

-- what the walk asks: up to eight sums, and key words for all of them
abbrev pub Ready : ℕ → ℕ → List ℕ → List ℕ → Type 0
Ready w n ms ks = (w ≤ 32) × (1 ≤ n) × (n ≤ 8) × (length ms + n ≤ length ks)

-- what it leaves: the sums of the words in pairs, and all bits of the words that it tested
abbrev pub PairsWalked : Bool → ℕ → ℕ → List ℕ → List ℕ → List ℕ → List ℕ → ℕ → Type 0
PairsWalked asked w n ms ks low high bits =
    PartialSums w n ms ks low high (even_length ms) × (nat_lt bits (2 ^ w) ≡ (tests asked w (take (even_length ms) ms) && fits w (take (even_length ms) ks)))

-- for every input: that, where there are n sums, and else zeros
abbrev pub WalkResult : Bool → ℕ → ℕ → List ℕ → List ℕ → List ℕ → List ℕ → ℕ → Type 0
WalkResult asked w n ms ks low high bits =
    (summable w n (length ms) (length ks) ≡ true → PairsWalked asked w n ms ks low high bits)
    × (summable w n (length ms) (length ks) ≡ false → (low ≡ replicate 8 0) × (high ≡ replicate 8 0) × (bits ≡ 0))
