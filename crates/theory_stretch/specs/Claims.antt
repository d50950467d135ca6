-- What a stretch and a load leave: rows that fit their width, and that rows of outputs go on, so that a load is one row cut in two.
use Rattle.std.specs.Prelude.{◌≡◌, true, List, ◌++◌, ℕ, ◌+◌, length}
use Rattle.theory_counts.specs.Words.{fits}
use Rattle.mt19937.specs.Published.{seeded}
use Rattle.mt19937.specs.declared.Generator.{Generator}
use Rattle.mt19937_array.specs.SeedArray.{arrayed}
use Rattle.stretch.specs.Stretch.{outputs, after, key_row, stretch_answer, stretched, stretch_array_answer, stretched_array}
use Rattle.stretch.specs.Load.{load_answer, load_key, load_message, load_array_answer, load_array_key, load_array_message}

-- 02, "Seven": a row of outputs and then a row of those that follow are one row, of as many as both
unfoldable pub OutputsGoOn : Type 0
OutputsGoOn = (k m : ℕ) (g : Generator) → outputs (k + m) g ≡ outputs k g ++ outputs m (after k g)

-- 01, The sum, has key words below 2^w: an accepted stretch leaves no others, so no digest of that width refuses its row as Word
unfoldable pub StretchedFits : Type 0
StretchedFits = (w seed : ℕ) (row : List ℕ) → stretch_answer w (length row) ≡ 0 → fits w (stretched w seed row) ≡ true

-- 02, "Seven": the same of a seed array
unfoldable pub StretchedArrayFits : Type 0
StretchedArrayFits =
    (w : ℕ) (seed row : List ℕ) → stretch_array_answer w (length seed) (length row) ≡ 0 → fits w (stretched_array w seed row) ≡ true

-- 02, "Seven": the key row of an accepted load is the stretch of its seed, and both rows laid end to end are one row of as many outputs
unfoldable pub LoadGoesOn : Type 0
LoadGoesOn =
    (w seed : ℕ) (key message : List ℕ) → load_answer w (length key) (length message) ≡ 0
    → (load_key w seed key message ≡ stretched w seed key)
    × (load_key w seed key message ++ load_message w seed key message ≡ key_row w (seeded seed) (length key + length message))

-- 02, "Seven": the same of a seed array
unfoldable pub LoadArrayGoesOn : Type 0
LoadArrayGoesOn =
    (w : ℕ) (seed key message : List ℕ) → load_array_answer w (length seed) (length key) (length message) ≡ 0
    → (load_array_key w seed key message ≡ stretched_array w seed key)
    × (load_array_key w seed key message ++ load_array_message w seed key message ≡ key_row w (arrayed seed) (length key + length message))

-- 01, The sum, has words below 2^w: an accepted load leaves no others in either row
unfoldable pub LoadFits : Type 0
LoadFits =
    (w seed : ℕ) (key message : List ℕ) → load_answer w (length key) (length message) ≡ 0
    → (fits w (load_key w seed key message) ≡ true) × (fits w (load_message w seed key message) ≡ true)

-- 02, "Seven": the same of a seed array
unfoldable pub LoadArrayFits : Type 0
LoadArrayFits =
    (w : ℕ) (seed key message : List ℕ) → load_array_answer w (length seed) (length key) (length message) ≡ 0
    → (fits w (load_array_key w seed key message) ≡ true) × (fits w (load_array_message w seed key message) ≡ true)
