-- A stream's state as a row of 21 words: the twelve that states of sums share, eight places for key words, and one that is kept for a depot's
-- number (02, "Eleven") and zero until then.
use Rattle.std.specs.Prelude.{Bool, ◌&&◌, List, [], ◌∷◌, ◌++◌, ℕ, eqb, length, get_or}
use Rattle.state_rows.specs.Pieces.{piece}
use Rattle.state_sums.specs.Rows.{sums_row, sums_of}
use Rattle.stream.specs.declared.Stream.{Stream}

unfoldable pub row_of : Stream → List ℕ
row_of s = (sums_row s.held ++ s.keys) ++ (0 ∷ [])

-- the state that a row holds
unfoldable pub state_of : List ℕ → Stream
state_of row = record { held = sums_of row; keys = piece 8 12 row }

-- whether a row is a stream's: no other number of words, and no "unused place not zero" (01, the table's row 8)
unfoldable pub is_stream : List ℕ → Bool
is_stream row = eqb (length row) 21 && eqb (get_or row 20 0) 0
