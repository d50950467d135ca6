-- The promise of the call (document 02, "Five"): w, b, n, p, the message, the keys end to end, and the output row as it is lent.
use Rattle.std.specs.Prelude.{List, [], ◌∷◌, ℕ, ◌+◌, ◌*◌, length}
use Rattle.answers.specs.Answers.{Test, first_of, afterwards}
use Rattle.answers.specs.Table.{width_test, kept_test, count_test, peers_test, long_test, key_test, tray_test, word_test}
use Rattle.digest_peers.specs.Peers.{peers_rows}

-- the word digest's tests, Peers after Count; there are p keys of t + n words and p rows of n. Those before Word
unfoldable pub peers_tests : ℕ → ℕ → ℕ → ℕ → List ℕ → List ℕ → List ℕ → List Test
peers_tests w b n p ms ks out =
    width_test w
    ∷ kept_test w b
    ∷ count_test n
    ∷ peers_test p
    ∷ long_test (length ms)
    ∷ key_test (p * (length ms + n)) (length ks)
    ∷ tray_test (p * n) (length out)
    ∷ []

-- and then Word, of every key to its last word; 0 for an accepted call
unfoldable pub peers_answer : ℕ → ℕ → ℕ → ℕ → List ℕ → List ℕ → List ℕ → ℕ
peers_answer w b n p ms ks out = first_of (peers_tests w b n p ms ks out) (first_of (word_test w ms ks ∷ []) 0)

-- the output row after the call
unfoldable pub peers_row : ℕ → ℕ → ℕ → ℕ → List ℕ → List ℕ → List ℕ → List ℕ
peers_row w b n p ms ks out = afterwards (peers_answer w b n p ms ks out) (peers_rows w b n p ms ks) out
