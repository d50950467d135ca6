-- What a one-word array is to the plain seed (document 02, "Seven").
use Rattle.std.specs.Prelude.{ℕ, ◌^◌, ◌<◌, ◌≡◌, List, [], ◌∷◌, get_or}
use Rattle.std.specs.Int.Bits.{bit_and}
use Rattle.mt19937.specs.Published.{generator, seeded, next_of}
use Rattle.mt19937_array.specs.SeedArray.{arrayed}

-- 02, "Seven": a one-word array is not the plain seed. Said of the states, by word 0, and of every seed but 2^31, with which both have the same word 0. Of the
-- outputs it says nothing: the low 31 bits of word 0 reach none, and a state that differed from the seed's in these alone would have the seed's outputs
unfoldable pub OneWordIsNoSeed : Type 0
OneWordIsNoSeed = (seed : ℕ) → (seed ≡ 0x8000_0000 → ⊥) → arrayed (seed ∷ []) ≡ seeded seed → ⊥

-- that is: the output from position 624, and the state after it, depend on word 0 by its top bit alone
unfoldable pub LowBitsUnread : Type 0
LowBitsUnread =
    (this other : ℕ) (ws : List ℕ) → bit_and this 0x8000_0000 ≡ bit_and other 0x8000_0000
    → next_of (generator (this ∷ ws) 624) ≡ next_of (generator (other ∷ ws) 624)

-- 02, "Seven": for a seed below 2^31 that bit is 1 in the state of the array and 0 in the state of the seed. That the outputs differ is not said here either
unfoldable pub OneWordTopBit : Type 0
OneWordTopBit =
    (seed : ℕ) → seed < 2 ^ 31
    → (bit_and (get_or (arrayed (seed ∷ [])).words 0 0) 0x8000_0000 ≡ 0x8000_0000)
    × (bit_and (get_or (seeded seed).words 0 0) 0x8000_0000 ≡ 0)
