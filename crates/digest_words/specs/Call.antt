-- The word digest's promise: w, b, n as in "The sum", the message, the key, and the output row as it is lent.
use Rattle.std.specs.Prelude.{List, [], ◌∷◌, ℕ, ◌+◌, length}
use Rattle.theory_digest.specs.Digest.{digest}
use Rattle.answers.specs.Answers.{Test, first_of, afterwards}
use Rattle.answers.specs.Table.{width_test, kept_test, count_test, long_test, key_test, tray_test, word_test}

-- 01, "then 1 to 7 in order": those before Word, which is made in the walk over the words (02, "Three")
unfoldable pub digest_tests : ℕ → ℕ → ℕ → List ℕ → List ℕ → List ℕ → List Test
digest_tests w b n ms ks out =
    width_test w
    ∷ kept_test w b
    ∷ count_test n
    ∷ long_test (length ms)
    ∷ key_test (length ms + n) (length ks)
    ∷ tray_test n (length out)
    ∷ []

-- those after Width, of t message words, by the number of key words and of places: a digest of bytes has them too
abbrev pub tests_after_width : ℕ → ℕ → ℕ → ℕ → ℕ → ℕ → List Test
tests_after_width w b n t key places = kept_test w b ∷ count_test n ∷ long_test t ∷ key_test (t + n) key ∷ tray_test n places ∷ []

-- and then Word; 0 for an accepted call
unfoldable pub digest_answer : ℕ → ℕ → ℕ → List ℕ → List ℕ → List ℕ → ℕ
digest_answer w b n ms ks out = first_of (digest_tests w b n ms ks out) (first_of (word_test w ms ks ∷ []) 0)

-- the output row after the call
unfoldable pub digest_row : ℕ → ℕ → ℕ → List ℕ → List ℕ → List ℕ → List ℕ
digest_row w b n ms ks out = afterwards (digest_answer w b n ms ks out) (digest w b n ms ks) out
