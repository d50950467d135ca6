-- MT19937 as document 01 has it, bullet by bullet: New, Refill, Next.
-- A shift right by k is a division by 2 ^ k, and a shift left a product that keeps 32 bits.
use Rattle.std.specs.Prelude.{ℕ, zero, suc, ◌+◌, ◌*◌, ◌/◌, ◌%◌, ◌^◌, cond, List, [], ◌∷◌, ◌==◌, bit_and, bit_or, bit_xor, nat_le, slice_index, slice_set}
use Rattle.rows.specs.Written.{tabulate}
use Rattle.answers.specs.Answers.{first_of}
use Rattle.answers.specs.Table.{state_test}
use Rattle.mt19937.specs.declared.Generator.{Generator}

-- 01, The generator, Next: what a next answers, its output, and the state that follows
pub record Next : Type 0 where
  pub answer : ℕ
  pub word : ℕ
  pub state : Generator

-- the steps f 0, f 1, .. in order and in place, n of them
unfoldable pub steps : (ℕ → List ℕ → List ℕ) → ℕ → List ℕ → List ℕ
steps f zero ws = ws
steps f (suc n) ws = f n (steps f n ws)

-- 01, The generator: a state of 624 words, and a position
abbrev pub generator : List ℕ → ℕ → Generator
generator ws at = record { words = ws; at = at }

-- 01, The generator, New: word i from p, the word before it
unfoldable pub following : ℕ → ℕ → ℕ
following i p = (1812433253 * bit_xor p (p / 2 ^ 30) + i) % 2 ^ 32

-- 01, The generator, New: word 0 is the seed, each further word follows the one before it
unfoldable pub new_word : ℕ → ℕ → ℕ
new_word seed zero = seed
new_word seed (suc i) = following (suc i) (new_word seed i)

-- 01, The generator, New: the first k state words that a seed makes
unfoldable pub new_words : ℕ → ℕ → List ℕ
new_words seed k = tabulate (new_word seed) k

-- 01, The generator, New: the position is 624
unfoldable pub seeded : ℕ → Generator
seeded seed = generator (new_words seed 624) 624

-- 01, The generator, Refill: y is the top bit of word i with the low 31 bits of word i + 1
unfoldable pub concatenated : ℕ → ℕ → ℕ
concatenated this next = bit_or (bit_and this 0x8000_0000) (bit_and next 0x7FFF_FFFF)

-- 01, The generator, Refill: word i + 397, xor y shifted right 1, xor 0x9908B0DF if y is odd
unfoldable pub twisted : ℕ → ℕ → ℕ
twisted far y = bit_xor (bit_xor far (y / 2 ^ 1)) (cond (y % 2 == 1) 0x9908_B0DF 0)

-- 01, The generator, Refill: step i, in place, with indices modulo 624
unfoldable pub twist : ℕ → List ℕ → List ℕ
twist i ws = slice_set ws i (twisted (slice_index ws ((i + 397) % 624)) (concatenated (slice_index ws i) (slice_index ws ((i + 1) % 624))))

-- 01, The generator, Refill: for i = 0..623 in order
unfoldable pub refill : List ℕ → List ℕ
refill ws = steps twist 624 ws

-- 01, The generator, Refill: when the position is 624; the position becomes 0
unfoldable pub ready : Generator → Generator
ready g = cond (g.at == 624) (generator (refill g.words) 0) g

-- 01, The generator, Next: the four changes of y
unfoldable pub temper : ℕ → ℕ
temper y =
    let a : ℕ = bit_xor y (y / 2 ^ 11) in
    let b : ℕ = bit_xor a (bit_and (a * 2 ^ 7 % 2 ^ 32) 0x9D2C_5680) in
    let c : ℕ = bit_xor b (bit_and (b * 2 ^ 15 % 2 ^ 32) 0xEFC6_0000) in
    bit_xor c (c / 2 ^ 18)

-- 01, The generator, Next: the word at the position, which rises by one, is changed and given
unfoldable pub taken : Generator → Next
taken g = record { answer = 0; word = temper (slice_index g.words g.at); state = generator g.words (g.at + 1) }

-- 01, Numbers the agent sees: State, a generator position above 624
unfoldable pub next_answer : Generator → ℕ
next_answer g = first_of (state_test (nat_le g.at 624) ∷ []) 0

-- 01, Numbers the agent sees: a refusal returns its number with the old state; the word is then 0
unfoldable pub next_of : Generator → Next
next_of g = cond (next_answer g == 0) (taken (ready g)) (record { answer = next_answer g; word = 0; state = g })
