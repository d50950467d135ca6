-- Rows of key words and the stretch of a seed, as document 01 has them, each word cut from an output as document 02, "Six", says; and the stretch
-- of a seed array, of document 02, "Seven". For each the row that it writes, and what it answers.
use Rattle.std.specs.Prelude.{ℕ, zero, suc, ◌+◌, ◌-◌, ◌/◌, ◌^◌, List, [], ◌∷◌, map, get_or, length}
use Rattle.answers.specs.Answers.{first_of, afterwards}
use Rattle.answers.specs.Table.{width_test, seed_test, long_stretch_test}
use Rattle.mt19937.specs.Published.{seeded, temper, next_of}
use Rattle.mt19937_array.specs.SeedArray.{arrayed}
use Rattle.mt19937.specs.declared.Generator.{Generator}

-- 01, The generator: the outputs that follow, n of them
unfoldable pub outputs : ℕ → Generator → List ℕ
outputs zero g = []
outputs (suc n) g = (next_of g).word ∷ outputs n (next_of g).state

-- the state after n outputs
unfoldable pub after : ℕ → Generator → Generator
after zero g = g
after (suc n) g = after n (next_of g).state

-- 02, "Six": a key word is the output divided by 2^(32−w), rounded down: its upper w bits
unfoldable pub key_word : ℕ → ℕ → ℕ
key_word w output = output / 2 ^ (32 - w)

-- the key words that the state words give from a position on
unfoldable pub key_from : ℕ → List ℕ → ℕ → ℕ → ℕ
key_from w ws from i = key_word w (temper (get_or ws (from + i) 0))

-- 01, The generator: a row of n key words, each from the next output
unfoldable pub key_row : ℕ → Generator → ℕ → List ℕ
key_row w g n = map (key_word w) (outputs n g)

-- 01, Numbers the agent sees: Width, and Long of a stretch
unfoldable pub stretch_answer : ℕ → ℕ → ℕ
stretch_answer w places = first_of (width_test w ∷ long_stretch_test places ∷ []) 0

-- 01, The generator: a stretch makes the generator new and fills the whole lent row
unfoldable pub stretched : ℕ → ℕ → List ℕ → List ℕ
stretched w seed row = afterwards (stretch_answer w (length row)) (key_row w (seeded seed) (length row)) row

-- 02, "Seven": Seed, tested after Width
unfoldable pub stretch_array_answer : ℕ → ℕ → ℕ → ℕ
stretch_array_answer w seedWords places = first_of (width_test w ∷ seed_test seedWords ∷ long_stretch_test places ∷ []) 0

-- 02, "Seven": the stretch of a seed array
unfoldable pub stretched_array : ℕ → List ℕ → List ℕ → List ℕ
stretched_array w seed row = afterwards (stretch_array_answer w (length seed) (length row)) (key_row w (arrayed seed) (length row)) row
