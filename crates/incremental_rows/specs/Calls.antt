-- What the three calls of an incremental digest answer whose state is lent as a row, and the rows after them: by the definitions of the calls by
-- value.
use Rattle.std.specs.Prelude.{List, [], ◌∷◌, ℕ, length}
use Rattle.answers.specs.Answers.{first_of, afterwards, state_after}
use Rattle.answers.specs.Table.{tray_test, word_test}
use Rattle.state_rows.specs.Calls.{row_answer, row_left}
use Rattle.incremental.specs.Calls.{open_tests, open_state, edit_answer, edit_state, edit_message, read_answer, read_row}
use Rattle.incremental_rows.specs.Rows.{row_of, state_of, is_incremental}

-- 01, "then 1 to 7 in order": the opening's tests, with Tray in its place: "fewer places than an accepted call would write"
unfoldable pub open_row_answer : ℕ → ℕ → ℕ → List ℕ → List ℕ → List ℕ → ℕ
open_row_answer w b n ms ks row = first_of (open_tests w b n ms ks) (first_of (tray_test 12 (length row) ∷ word_test w ms ks ∷ []) 0)

-- 01, below the table: the row after the call, which is an output here
unfoldable pub open_row : ℕ → ℕ → ℕ → List ℕ → List ℕ → List ℕ → List ℕ
open_row w b n ms ks row = afterwards (open_row_answer w b n ms ks row) (row_of (open_state w b n ms ks)) row

-- an edit: its answer, and the state's row and the message after it
unfoldable pub edit_row_answer : List ℕ → List ℕ → List ℕ → ℕ → ℕ → ℕ
edit_row_answer row ms ks place word = row_answer (is_incremental row) (edit_answer (state_of row) ms ks place word)

unfoldable pub edit_row : List ℕ → List ℕ → List ℕ → ℕ → ℕ → List ℕ
edit_row row ms ks place word = state_after (edit_row_answer row ms ks place word) (row_of (edit_state (state_of row) ms ks place word)) row

unfoldable pub edit_row_message : List ℕ → List ℕ → List ℕ → ℕ → ℕ → List ℕ
edit_row_message row ms ks place word = row_left (is_incremental row) (edit_message (state_of row) ms ks place word) ms

-- a reading: its answer, and the output row after it
unfoldable pub read_row_answer : List ℕ → List ℕ → ℕ
read_row_answer row out = row_answer (is_incremental row) (read_answer (state_of row) out)

unfoldable pub read_row_out : List ℕ → List ℕ → List ℕ
read_row_out row out = row_left (is_incremental row) (read_row (state_of row) out) out
