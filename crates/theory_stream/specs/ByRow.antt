-- What a stream over a lent row is to one by value: a state is the one that its row holds, and however a message is cut, the stream gives the
-- digest of the whole.
use Rattle.std.specs.Prelude.{◌≡◌, true, List, [], ◌∷◌, ◌++◌, ℕ, ◌≤◌, length, take, replicate}
use Rattle.digest_words.specs.Call.{digest_answer, digest_row}
use Rattle.stream.specs.declared.Stream.{Stream}
use Rattle.stream_rows.specs.Rows.{row_of, state_of, is_stream}
use Rattle.stream_rows.specs.Calls.{open_row_answer, open_row, push_row_answer, push_row, read_row_answer, read_row_out}
use Rattle.theory_stream.specs.Cutting.{Part, message_of, key_of, FitParts}

-- the row of a state is a stream's, and holds that state
unfoldable pub StateKept : Type 0
StateKept = (s : Stream) → length s.keys ≡ 8 → length s.held.sums ≡ 8 → (is_stream (row_of s) ≡ true) × (state_of (row_of s) ≡ s)

-- the row after all parts are pushed, one after the other, and what each push answers
unfoldable pub row_after_parts : List ℕ → List Part → List ℕ
row_after_parts row [] = row
row_after_parts row (p ∷ ps) = row_after_parts (push_row row p.message p.key) ps

unfoldable pub row_part_answers : List ℕ → List Part → List ℕ
row_part_answers row [] = []
row_part_answers row (p ∷ ps) = push_row_answer row p.message p.key ∷ row_part_answers (push_row row p.message p.key) ps

-- a row that holds an opened stream, after some parts, with ms and ks the words so far
pub record WholeByRow (w b n : ℕ) (row : List ℕ) (ps : List Part) (ms ks : List ℕ) : Type 0 where
  pub answers : row_part_answers row ps ≡ replicate (length ps) 0
  pub answer : (out : List ℕ) → read_row_answer (row_after_parts row ps) out ≡ digest_answer w b n ms ks out
  pub words : (out : List ℕ) → read_row_out (row_after_parts row ps) out ≡ digest_row w b n ms ks out

-- demand 2 by row, at every moment: an opening that is accepted, its 21 words, then any parts
unfoldable pub EveryCuttingByRow : Type 0
EveryCuttingByRow =
    (w b n : ℕ) (ks row : List ℕ) (ps : List Part)
    → open_row_answer w b n ks row ≡ 0
    → FitParts w ps
    → length (message_of ps) ≤ 65536
    → WholeByRow w b n (take 21 (open_row w b n ks row)) ps (message_of ps) (ks ++ key_of ps)
