-- What an incremental digest over a lent row is to one by value: a state is the one that its row holds, and after any edits the row shows the
-- edited message.
use Rattle.std.specs.Prelude.{◌≡◌, true, List, [], ◌∷◌, ℕ, length, take}
use Rattle.digest_words.specs.Call.{digest_answer, digest_row}
use Rattle.incremental.specs.declared.Incremental.{Incremental}
use Rattle.incremental.specs.Calls.{open_state}
use Rattle.incremental_rows.specs.Rows.{row_of, state_of, is_incremental}
use Rattle.incremental_rows.specs.Calls.{open_row_answer, open_row, edit_row, edit_row_message, read_row_answer, read_row_out}
use Rattle.theory_incremental.specs.Edits.{Edit, state_after_edits, message_after_edits}

-- the row of a state is an incremental digest's, and holds that state
unfoldable pub StateKept : Type 0
StateKept = (s : Incremental) → length s.held.sums ≡ 8 → (is_incremental (row_of s) ≡ true) × (state_of (row_of s) ≡ s)

-- the state's row and the message after all edits, one after the other, refused ones among them
unfoldable pub state_row_after_edits : List ℕ → List ℕ → List ℕ → List Edit → List ℕ
state_row_after_edits row ms ks [] = row
state_row_after_edits row ms ks (e ∷ es) =
    state_row_after_edits (edit_row row ms ks e.place e.word) (edit_row_message row ms ks e.place e.word) ks es

unfoldable pub message_after_row_edits : List ℕ → List ℕ → List ℕ → List Edit → List ℕ
message_after_row_edits row ms ks [] = ms
message_after_row_edits row ms ks (e ∷ es) =
    message_after_row_edits (edit_row row ms ks e.place e.word) (edit_row_message row ms ks e.place e.word) ks es

-- a row that holds an incremental digest of ms, after some edits: what the edits by value leave, and a reading is the word digest's call
pub record ShowsByRow (w b n : ℕ) (row ms ks : List ℕ) (es : List Edit) : Type 0 where
  pub state : state_row_after_edits row ms ks es ≡ row_of (state_after_edits (open_state w b n ms ks) ms ks es)
  pub message : message_after_row_edits row ms ks es ≡ message_after_edits (open_state w b n ms ks) ms ks es
  pub answer : (out : List ℕ) → read_row_answer (state_row_after_edits row ms ks es) out ≡ digest_answer w b n (message_after_row_edits row ms ks es) ks out
  pub words : (out : List ℕ) → read_row_out (state_row_after_edits row ms ks es) out ≡ digest_row w b n (message_after_row_edits row ms ks es) ks out

-- 02, "Eight", by row: an opening that is accepted, its 12 words, then any edits
unfoldable pub EditedReadsByRow : Type 0
EditedReadsByRow =
    (w b n : ℕ) (ms ks row : List ℕ) (es : List Edit)
    → open_row_answer w b n ms ks row ≡ 0
    → ShowsByRow w b n (take 12 (open_row w b n ms ks row)) ms ks es
