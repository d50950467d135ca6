-- What the states of sums share (document 01, "Stream"; 02, "Eight" and "Ten"): the settings, a count, n full-width sums.
use Rattle.std.specs.Prelude.{Bool, not, ◌&&◌, List, [], ◌∷◌, map, ℕ, take, replicate}
use Rattle.theory_digest.specs.Digest.{kept}
use Rattle.answers.specs.Answers.{Test, none_of}
use Rattle.answers.specs.Table.{width_test, kept_test, count_test, too_long}
use Rattle.range.specs.States.{fit_row, padded}
use Rattle.state_sums.specs.declared.Accumulator.{Accumulator}

-- 01, the table's rows 1 to 3, in order
unfoldable pub settings_tests : ℕ → ℕ → ℕ → List Test
settings_tests w b n = width_test w ∷ kept_test w b ∷ count_test n ∷ []

-- 01, "Stream": the n full-width sums that a state holds
abbrev pub held_sums : Accumulator → List ℕ
held_sums a = take a.n a.sums

-- 01, the table's row 8: no setting outside 1 to 3, "each count or length against its own limit", no sum of 2^w or more and no unused place
-- that is not zero
unfoldable pub fit_sums : ℕ → Accumulator → Bool
fit_sums most a = none_of (settings_tests a.width a.kept a.n) && (not (too_long most a.count) && fit_row a.width a.n a.sums)

-- 01, "Stream": the sums "are 0 at opening"
unfoldable pub begun : ℕ → ℕ → ℕ → ℕ → Accumulator
begun w b n count = record { width = w; kept = b; n = n; count = count; sums = replicate 8 0 }

-- 01, below the table: the all-zero state
abbrev pub no_sums : Accumulator
no_sums = begun 0 0 0 0

-- an accepted call leaves the settings: another count, and other sums; "Unused places are zero"
unfoldable pub updated : Accumulator → ℕ → List ℕ → Accumulator
updated a count sums = record { width = a.width; kept = a.kept; n = a.n; count = count; sums = padded 8 sums }

-- 01, "Stream": "the held sums modulo 2^b"
unfoldable pub reading : Accumulator → List ℕ
reading a = map (kept a.kept) (held_sums a)
