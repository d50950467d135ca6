-- What the three calls of a stream answer whose state is lent as a row, and the rows after them: by the definitions of the calls by value.
use Rattle.std.specs.Prelude.{List, [], ◌∷◌, ℕ, length}
use Rattle.answers.specs.Answers.{first_of, afterwards, state_after}
use Rattle.answers.specs.Table.{tray_test, word_test}
use Rattle.state_rows.specs.Calls.{row_answer, row_left}
use Rattle.stream.specs.Calls.{open_tests, open_state, push_answer, push_state, read_answer, read_row}
use Rattle.stream_rows.specs.Rows.{row_of, state_of, is_stream}

-- 01, "then 1 to 7 in order": the opening's tests, with Tray in its place: "fewer places than an accepted call would write"
unfoldable pub open_row_answer : ℕ → ℕ → ℕ → List ℕ → List ℕ → ℕ
open_row_answer w b n ks row = first_of (open_tests w b n ks) (first_of (tray_test 21 (length row) ∷ word_test w [] ks ∷ []) 0)

-- 01, below the table: the row after the call, which is an output here
unfoldable pub open_row : ℕ → ℕ → ℕ → List ℕ → List ℕ → List ℕ
open_row w b n ks row = afterwards (open_row_answer w b n ks row) (row_of (open_state w b n ks)) row

-- a push: its answer, and the state's row after it
unfoldable pub push_row_answer : List ℕ → List ℕ → List ℕ → ℕ
push_row_answer row ms ks = row_answer (is_stream row) (push_answer (state_of row) ms ks)

unfoldable pub push_row : List ℕ → List ℕ → List ℕ → List ℕ
push_row row ms ks = state_after (push_row_answer row ms ks) (row_of (push_state (state_of row) ms ks)) row

-- a reading: its answer, and the output row after it
unfoldable pub read_row_answer : List ℕ → List ℕ → ℕ
read_row_answer row out = row_answer (is_stream row) (read_answer (state_of row) out)

unfoldable pub read_row_out : List ℕ → List ℕ → List ℕ
read_row_out row out = row_left (is_stream row) (read_row (state_of row) out) out
