-- The shared part of a state as the first twelve words of its row: width, kept bits, n, count, then the sums' places.
use Rattle.std.specs.Prelude.{List, ◌∷◌, ℕ, get_or}
use Rattle.state_rows.specs.Pieces.{piece}
use Rattle.state_sums.specs.declared.Accumulator.{Accumulator}

unfoldable pub sums_row : Accumulator → List ℕ
sums_row a = a.width ∷ a.kept ∷ a.n ∷ a.count ∷ a.sums

-- what a row holds there
unfoldable pub sums_of : List ℕ → Accumulator
sums_of row = record { width = get_or row 0 0; kept = get_or row 1 0; n = get_or row 2 0; count = get_or row 3 0; sums = piece 8 4 row }
