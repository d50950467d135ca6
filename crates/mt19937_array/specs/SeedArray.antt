-- MT19937 made new from an array of seed words (document 02, "Seven"), by its published initialisation by array: the function `init_by_array` of Matsumoto
-- and Nishimura's mt19937ar.c of 2002, which is the page that is spoken of below. Its two indices, its two loops and its last line, in its order. Words have
-- 32 bits, so products and sums are modulo 2 ^ 32.
use Rattle.std.specs.Prelude.{ℕ, zero, suc, ◌+◌, ◌-◌, ◌*◌, ◌/◌, ◌%◌, ◌^◌, cond, List, [], ◌∷◌, length, replicate, ◌==◌, bit_xor, nat_le, slice_index, slice_index_or, slice_set}
use Rattle.answers.specs.Answers.{first_of}
use Rattle.answers.specs.Table.{seed_test}
use Rattle.mt19937.specs.Published.{steps, generator, new_words}
use Rattle.mt19937.specs.declared.Generator.{Generator}

-- 02, "Seven", an index of the page: it goes up by one, and where that reaches the end it is back at the start
unfoldable pub onward : ℕ → ℕ → ℕ → ℕ
onward start end i = cond (nat_le end (i + 1)) start (i + 1)

-- 02, "Seven", the index after k turns of a loop
unfoldable pub turned : ℕ → ℕ → ℕ → ℕ
turned start end zero = start
turned start end (suc k) = onward start end (turned start end k)

-- 02, "Seven", the page's i, which is never 0: the place of the state word that turn k changes. It runs on through both loops
abbrev pub place_at : ℕ → ℕ
place_at k = turned 1 624 k

-- 02, "Seven", the page's j: the place in the seed
abbrev pub seed_at : List ℕ → ℕ → ℕ
seed_at seed k = turned 0 (length seed) k

-- 02, "Seven": p xor (p shifted right 30), times a multiplier, p being word i − 1; and word i xor that
unfoldable pub mixed : ℕ → List ℕ → ℕ → ℕ
mixed factor ws i = let p : ℕ = slice_index_or ws (i - 1) 0 in bit_xor (slice_index ws i) ((factor * bit_xor p (p / 2 ^ 30)) % 2 ^ 32)

-- 02, "Seven": word i is written, and where the index wraps word 0 is copied from word 623
unfoldable pub put : ℕ → ℕ → List ℕ → List ℕ
put i word ws = cond (nat_le 624 (i + 1)) (slice_set (slice_set ws i word) 0 (slice_index (slice_set ws i word) 623)) (slice_set ws i word)

-- 02, "Seven", the first loop: the multiplier 1664525, and word j of the seed and j are added
unfoldable pub seed_word : List ℕ → ℕ → ℕ → List ℕ → ℕ
seed_word seed i j ws = (mixed 1664525 ws i + slice_index seed j + j) % 2 ^ 32

-- 02, "Seven", the first loop, turn k
unfoldable pub seed_step : List ℕ → ℕ → List ℕ → List ℕ
seed_step seed k ws = put (place_at k) (seed_word seed (place_at k) (seed_at seed k) ws) ws

-- 02, "Seven", the second loop: the multiplier 1566083941, and i is subtracted
unfoldable pub index_word : ℕ → List ℕ → ℕ
index_word i ws = (mixed 1566083941 ws i + 2 ^ 32 - i) % 2 ^ 32

-- 02, "Seven", the second loop, turn k: i goes on from the 624 turns before
unfoldable pub index_step : ℕ → List ℕ → List ℕ
index_step k ws = put (place_at (624 + k)) (index_word (place_at (624 + k)) ws) ws

-- 02, "Seven": first filled from 19650218; 624 turns of the first loop, as no seed has more words, and 623 of the second; word 0 at last
unfoldable pub array_words : List ℕ → List ℕ
array_words seed = slice_set (steps index_step 623 (steps (seed_step seed) 624 (new_words 19650218 624))) 0 0x8000_0000

-- 02, "Seven": Seed
unfoldable pub array_answer : List ℕ → ℕ
array_answer seed = first_of (seed_test (length seed) ∷ []) 0

-- 01, below the table: the all-zero state, where a making of a generator is refused
unfoldable pub no_generator : Generator
no_generator = generator (replicate 624 0) 0

-- 02, "Seven": the generator that a seed array makes
unfoldable pub arrayed : List ℕ → Generator
arrayed seed = cond (array_answer seed == 0) (generator (array_words seed) 624) no_generator

-- 02, "Seven": what a making answers, and its generator
pub record Made : Type 0 where
  pub answer : ℕ
  pub state : Generator

-- 02, "Seven": the same with the answer
unfoldable pub made : List ℕ → Made
made seed = record { answer = array_answer seed; state = arrayed seed }
