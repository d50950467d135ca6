-- What the three calls of an incremental digest answer (02, "Eight"; 01, "Numbers the agent sees"), and the state and the lent rows after them.
use Rattle.std.specs.Prelude.{List, [], ◌∷◌, ◌++◌, ℕ, suc, ◌+◌, length, get_or, set, take, drop}
use Rattle.answers.specs.Answers.{Test, first_of, afterwards, state_after}
use Rattle.answers.specs.Table.{long_test, length_test, key_test, tray_test, word_test, state_test, place_test}
use Rattle.state_sums.specs.State.{settings_tests, reading}
use Rattle.incremental.specs.declared.Incremental.{Incremental}
use Rattle.incremental.specs.State.{fit_state, opened, no_incremental, edited}

-- 01, "then 1 to 7 in order": those before Word
unfoldable pub open_tests : ℕ → ℕ → ℕ → List ℕ → List ℕ → List Test
open_tests w b n ms ks = settings_tests w b n ++ (long_test (length ms) ∷ key_test (length ms + n) (length ks) ∷ [])

-- and then Word, which is made in the walk over the words; 0 for an accepted call
unfoldable pub open_answer : ℕ → ℕ → ℕ → List ℕ → List ℕ → ℕ
open_answer w b n ms ks = first_of (open_tests w b n ms ks) (first_of (word_test w ms ks ∷ []) 0)

-- 01, below the table: the opened state, or the all-zero one where the opening is refused
unfoldable pub open_state : ℕ → ℕ → ℕ → List ℕ → List ℕ → Incremental
open_state w b n ms ks = state_after (open_answer w b n ms ks) (opened w b n ms ks) no_incremental

-- 02, "Eight": State first; "Long also means a row not of t words"; "Key still means t + n words"; Place "tested after Key"; "Word looks only at
-- the word at the place, the new one and the n + 1 key words under them"
unfoldable pub edit_tests : Incremental → List ℕ → List ℕ → ℕ → ℕ → List Test
edit_tests s ms ks place word =
    state_test (fit_state s)
    ∷ length_test s.held.count (length ms)
    ∷ key_test (s.held.count + s.held.n) (length ks)
    ∷ place_test s.held.count place
    ∷ word_test s.held.width (get_or ms place 0 ∷ word ∷ []) (take (suc s.held.n) (drop place ks))
    ∷ []

unfoldable pub edit_answer : Incremental → List ℕ → List ℕ → ℕ → ℕ → ℕ
edit_answer s ms ks place word = first_of (edit_tests s ms ks place word) 0

-- 01, below the table: after a refusal the old state
unfoldable pub edit_state : Incremental → List ℕ → List ℕ → ℕ → ℕ → Incremental
edit_state s ms ks place word = state_after (edit_answer s ms ks place word) (edited s ms ks place word) s

-- 02, "Eight": the message after the call: "Only that message word is written, and only by an accepted edit"
unfoldable pub edit_message : Incremental → List ℕ → List ℕ → ℕ → ℕ → List ℕ
edit_message s ms ks place word = state_after (edit_answer s ms ks place word) (set ms place word) ms

-- 01: State, then Tray, fewer places than the n that a reading writes
unfoldable pub read_answer : Incremental → List ℕ → ℕ
read_answer s out = first_of (state_test (fit_state s) ∷ tray_test s.held.n (length out) ∷ []) 0

-- 02, "Eight", "Kept bits apply on reading": the output row after the call
unfoldable pub read_row : Incremental → List ℕ → List ℕ
read_row s out = afterwards (read_answer s out) (reading s.held) out
