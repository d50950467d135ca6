-- Calls on the row of a state do what the calls by value do on the state. Assumes nothing.
use mathlib.Core.Path.{◌≡◌, refl, sym, ap, ap₂, subst, ◌∙◌}
use mathlib.Core.Bool.{true}
use mathlib.Core.List.{List, [], ◌∷◌}
use Prim.Native.Nat.{ℕ}
use lib.ListN.{length, take, drop}
use lib.Seq.{take_at}
use Rattle.answers.specs.Answers.{state_after}
use Rattle.answers.specs.Table.{word_test}
use Rattle.answers.proofs.States.{new_state}
use Rattle.answers.proofs.Rows.{accepted_row}
use Rattle.answers.proofs.Validation.{none_holds, passed}
use Rattle.state_rows.proofs.Calls.{answer_by_value, left_by_value, with_room}
use Rattle.state_sums.specs.State.{settings_tests}
use Rattle.incremental.specs.declared.Incremental.{Incremental}
use Rattle.incremental.specs.State.{opened, edited}
use Rattle.incremental.specs.Calls.{open_tests, open_answer, open_state, edit_answer, edit_state, edit_message, read_answer, read_row}
use Rattle.incremental.proofs.Valid.{opens}
use Rattle.incremental_rows.specs.Rows.{row_of, state_of, is_incremental}
use Rattle.incremental_rows.specs.Calls.{open_row_answer, open_row, edit_row_answer, edit_row, edit_row_message, read_row_answer, read_row_out}
use Rattle.incremental_rows.proofs.Rows.{all_words, row_is, state_kept}
use Rattle.theory_incremental.specs.Edits.{Edit, state_after_edits, message_after_edits}
use Rattle.theory_incremental.specs.Claims.{EditedReads}
use Rattle.theory_incremental.specs.ByRow.{StateKept, state_row_after_edits, message_after_row_edits, EditedReadsByRow}
use Rattle.theory_incremental.proofs.Edited.{either_way, accepted_state}
use Rattle.theory_incremental.proofs.OneEdit.{edit_eight}
use Rattle.theory_incremental.proofs.Edits.{opened_good, edited_reads}

module _ (s : Incremental) (eight : length s.held.sums ≡ 8) where
  kind : is_incremental (row_of s) ≡ true
  kind = row_is s eight

  held : state_of (row_of s) ≡ s
  held = state_kept s eight

  edit_answer_lem : (ms ks : List ℕ) (place word : ℕ) → edit_row_answer (row_of s) ms ks place word ≡ edit_answer s ms ks place word
  unfolding edit_row_answer
  edit_answer_lem ms ks place word = sym (answer_by_value kind _) ∙ ap (λ (s : Incremental). edit_answer s ms ks place word) held

  edit_row_lem : (ms ks : List ℕ) (place word : ℕ) → edit_row (row_of s) ms ks place word ≡ row_of (edit_state s ms ks place word)
  unfolding edit_row edit_state
  edit_row_lem ms ks place word =
      ap₂ (λ (a : ℕ) (t : Incremental). state_after a (row_of (edit_state t ms ks place word)) (row_of s)) (edit_answer_lem ms ks place word) held
      ∙ either_way (λ (x : Incremental) (row : List ℕ). row ≡ row_of x) (edit_answer s ms ks place word)
      (edited s ms ks place word) s (row_of (edit_state s ms ks place word)) (row_of s)
      (λ a. ap row_of (accepted_state s ms ks place word a))
      (λ ne. refl)

  edit_message_lem : (ms ks : List ℕ) (place word : ℕ) → edit_row_message (row_of s) ms ks place word ≡ edit_message s ms ks place word
  unfolding edit_row_message
  edit_message_lem ms ks place word = sym (left_by_value kind _ ms) ∙ ap (λ (s : Incremental). edit_message s ms ks place word) held

  read_answer_lem : (out : List ℕ) → read_row_answer (row_of s) out ≡ read_answer s out
  unfolding read_row_answer
  read_answer_lem out = sym (answer_by_value kind _) ∙ ap (λ (s : Incremental). read_answer s out) held

  read_row_lem : (out : List ℕ) → read_row_out (row_of s) out ≡ read_row s out
  unfolding read_row_out
  read_row_lem out = sym (left_by_value kind _ out) ∙ ap (λ (s : Incremental). read_row s out) held

pub state_is_kept : StateKept
unfolding StateKept
state_is_kept s eight = (row_is s eight, state_kept s eight)

-- all edits by row
record Follows (s : Incremental) (ms ks : List ℕ) (es : List Edit) : Type 0 where
  eight : length (state_after_edits s ms ks es).held.sums ≡ 8
  state : state_row_after_edits (row_of s) ms ks es ≡ row_of (state_after_edits s ms ks es)
  message : message_after_row_edits (row_of s) ms ks es ≡ message_after_edits s ms ks es

follows : (s : Incremental) (ms ks : List ℕ) (es : List Edit) → length s.held.sums ≡ 8 → Follows s ms ks es
unfolding state_after_edits message_after_edits state_row_after_edits message_after_row_edits
follows s ms ks [] eight = record { eight = eight; state = refl; message = refl }
follows s ms ks (e ∷ es) eight =
    let row = edit_row_lem s eight ms ks e.place e.word in
    let message = edit_message_lem s eight ms ks e.place e.word in
    let next = edit_state s ms ks e.place e.word in
    let rest = follows next (edit_message s ms ks e.place e.word) ks es (edit_eight s ms ks e.place e.word eight) in
    record {
      eight = rest.eight;
      state = ap₂ (λ (r l : List ℕ). state_row_after_edits r l ks es) row message ∙ rest.state;
      message = ap₂ (λ (r l : List ℕ). message_after_row_edits r l ks es) row message ∙ rest.message;
    }

-- an accepted opening, and the words that it wrote
module _ (w b n : ℕ) (ms ks row : List ℕ) (e : open_row_answer w b n ms ks row ≡ 0) where
  accepted : open_answer w b n ms ks ≡ 0
  unfolding open_answer open_row_answer open_tests settings_tests
  accepted =
      let p = (passed 4 _ _ _ (passed 3 _ _ _ (passed 2 _ _ _ (passed 1 _ _ _ (passed 0 _ _ _ e).1).1).1).1).1 in
      let room = (passed 5 _ _ _ (sym (none_holds _) ∙ p)).0 in
      with_room 12 row room (open_tests w b n ms ks) (word_test w ms ks) ∙ e

  opened_eight : length (open_state w b n ms ks).held.sums ≡ 8
  unfolding open_state
  opened_eight =
      subst (λ (s : Incremental). length s.held.sums ≡ 8) (sym (new_state (open_answer w b n ms ks) (opened w b n ms ks) _ accepted))
      (opened_good w b n ks ms (opens w b n ms ks accepted)).eight

  wrote : take 12 (open_row w b n ms ks row) ≡ row_of (open_state w b n ms ks)
  unfolding open_row
  wrote =
      let words = row_of (open_state w b n ms ks) in
      ap (take 12) (accepted_row (open_row_answer w b n ms ks row) words row e)
      ∙ take_at words (drop (length words) row) 12 (all_words (open_state w b n ms ks) opened_eight)

pub edited_reads_by_row : EditedReadsByRow
unfolding EditedReadsByRow EditedReads
edited_reads_by_row w b n ms ks row es e =
    let s = open_state w b n ms ks in
    let f = follows s ms ks es (opened_eight w b n ms ks row e) in
    let shown = edited_reads w b n ms ks es (accepted w b n ms ks row e) in
    let begin = wrote w b n ms ks row e in
    let state = ap (λ (r : List ℕ). state_row_after_edits r ms ks es) begin ∙ f.state in
    let message = ap (λ (r : List ℕ). message_after_row_edits r ms ks es) begin ∙ f.message in
    record {
      state = state;
      message = message;
      answer = λ out. ap (λ (r : List ℕ). read_row_answer r out) state ∙ read_answer_lem (state_after_edits s ms ks es) f.eight out ∙ rw message (shown.answer out);
      words = λ out. ap (λ (r : List ℕ). read_row_out r out) state ∙ read_row_lem (state_after_edits s ms ks es) f.eight out ∙ rw message (shown.row out);
    }
