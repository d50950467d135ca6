-- The load of document 02, "Seven": a whole key row and a whole message row from one generator, and what the call answers.
use Rattle.std.specs.Prelude.{ℕ, List, [], ◌∷◌, length}
use Rattle.answers.specs.Answers.{first_of, afterwards}
use Rattle.answers.specs.Table.{width_test, seed_test, long_test, long_stretch_test}
use Rattle.mt19937.specs.Published.{seeded}
use Rattle.mt19937_array.specs.SeedArray.{arrayed}
use Rattle.mt19937.specs.declared.Generator.{Generator}
use Rattle.stretch.specs.Stretch.{after, key_row}

-- 02, "Seven": Long tests both rows, the key row as a stretch, the message row at 65,536
unfoldable pub load_answer : ℕ → ℕ → ℕ → ℕ
load_answer w keyWords messageWords = first_of (width_test w ∷ long_stretch_test keyWords ∷ long_test messageWords ∷ []) 0

-- 02, "Seven": Seed, tested after Width
unfoldable pub load_array_answer : ℕ → ℕ → ℕ → ℕ → ℕ
load_array_answer w seedWords keyWords messageWords =
    first_of (width_test w ∷ seed_test seedWords ∷ long_stretch_test keyWords ∷ long_test messageWords ∷ []) 0

-- 02, "Seven": a whole key row, by the rule of the stretch
unfoldable pub key_after : ℕ → ℕ → Generator → List ℕ → List ℕ
key_after answer w g key = afterwards answer (key_row w g (length key)) key

-- 02, "Seven": then a whole message row from the outputs that follow, by the same rule
unfoldable pub message_after : ℕ → ℕ → Generator → List ℕ → List ℕ → List ℕ
message_after answer w g key message = afterwards answer (key_row w (after (length key) g) (length message)) message

-- 02, "Seven": the load from a seed, its key row
unfoldable pub load_key : ℕ → ℕ → List ℕ → List ℕ → List ℕ
load_key w seed key message = key_after (load_answer w (length key) (length message)) w (seeded seed) key

-- 02, "Seven": the load from a seed, its message row
unfoldable pub load_message : ℕ → ℕ → List ℕ → List ℕ → List ℕ
load_message w seed key message = message_after (load_answer w (length key) (length message)) w (seeded seed) key message

-- 02, "Seven": the load from a seed array, its key row
unfoldable pub load_array_key : ℕ → List ℕ → List ℕ → List ℕ → List ℕ
load_array_key w seed key message = key_after (load_array_answer w (length seed) (length key) (length message)) w (arrayed seed) key

-- 02, "Seven": the load from a seed array, its message row
unfoldable pub load_array_message : ℕ → List ℕ → List ℕ → List ℕ → List ℕ
load_array_message w seed key message =
    message_after (load_array_answer w (length seed) (length key) (length message)) w (arrayed seed) key message
