-- What the three calls of a stream answer (01, "Numbers the agent sees"), and the state and the lent row after them.
use Rattle.std.specs.Prelude.{List, [], ◌∷◌, ◌++◌, ℕ, ◌+◌, length}
use Rattle.answers.specs.Answers.{Test, first_of, afterwards, state_after}
use Rattle.answers.specs.Table.{long_test, key_test, tray_test, word_test, state_test}
use Rattle.state_sums.specs.State.{settings_tests, reading}
use Rattle.stream.specs.declared.Stream.{Stream}
use Rattle.stream.specs.State.{fit_state, pushed, opened, no_stream}

-- 01, "then 1 to 7 in order": those before Word; Key, not n words
unfoldable pub open_tests : ℕ → ℕ → ℕ → List ℕ → List Test
open_tests w b n ks = settings_tests w b n ++ (key_test n (length ks) ∷ [])

-- and then Word; 0 for an accepted call
unfoldable pub open_answer : ℕ → ℕ → ℕ → List ℕ → ℕ
open_answer w b n ks = first_of (open_tests w b n ks) (first_of (word_test w [] ks ∷ []) 0)

-- 01, below the table: the opened state, or the all-zero one where the opening is refused
unfoldable pub open_state : ℕ → ℕ → ℕ → List ℕ → Stream
open_state w b n ks = state_after (open_answer w b n ks) (opened w b n ks) no_stream

-- 01: State "is tested first where a state is handed in"; Long, counting the words taken; Key, not as many words as the message part
unfoldable pub push_tests : Stream → List ℕ → List ℕ → List Test
push_tests s ms ks = state_test (fit_state s) ∷ long_test (s.held.count + length ms) ∷ key_test (length ms) (length ks) ∷ []

-- and then Word, which is made in the walk over the words
unfoldable pub push_answer : Stream → List ℕ → List ℕ → ℕ
push_answer s ms ks = first_of (push_tests s ms ks) (first_of (word_test s.held.width ms ks ∷ []) 0)

-- 01, below the table: after a refusal the old state
unfoldable pub push_state : Stream → List ℕ → List ℕ → Stream
push_state s ms ks = state_after (push_answer s ms ks) (pushed s ms ks) s

-- 01: State, then Tray, fewer places than the n that a reading writes
unfoldable pub read_answer : Stream → List ℕ → ℕ
read_answer s out = first_of (state_test (fit_state s) ∷ tray_test s.held.n (length out) ∷ []) 0

-- 01, below the table: the output row after the call
unfoldable pub read_row : Stream → List ℕ → List ℕ
read_row s out = afterwards (read_answer s out) (reading s.held) out
