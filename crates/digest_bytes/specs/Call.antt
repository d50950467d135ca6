-- The byte digest's promise (01, "Bytes"): the digest of the words that the bytes make, answers and rows as for words.
use Rattle.std.specs.Prelude.{List, [], ◌∷◌, ℕ, ◌+◌, length}
use Rattle.theory_digest.specs.Digest.{digest}
use Rattle.answers.specs.Answers.{Test, first_of, afterwards}
use Rattle.answers.specs.Table.{byte_width_test, kept_test, count_test, long_test, key_test, tray_test, word_test}
use Rattle.sum_bytes.specs.Bytes.{words_of}

-- 01, "Bytes": the digest of a message of bytes is that of its closed words
abbrev pub bytes_digest : ℕ → ℕ → ℕ → List ℕ → List ℕ → List ℕ
bytes_digest w b n bytes ks = digest w b n (words_of w bytes) ks

-- 01, "then 1 to 7 in order": those before Word; Long counts words
unfoldable pub bytes_tests : ℕ → ℕ → ℕ → List ℕ → List ℕ → List ℕ → List Test
bytes_tests w b n bytes ks out =
    byte_width_test w
    ∷ kept_test w b
    ∷ count_test n
    ∷ long_test (length (words_of w bytes))
    ∷ key_test (length (words_of w bytes) + n) (length ks)
    ∷ tray_test n (length out)
    ∷ []

-- and then Word; 0 for an accepted call
unfoldable pub bytes_answer : ℕ → ℕ → ℕ → List ℕ → List ℕ → List ℕ → ℕ
bytes_answer w b n bytes ks out = first_of (bytes_tests w b n bytes ks out) (first_of (word_test w (words_of w bytes) ks ∷ []) 0)

-- the output row after the call
unfoldable pub bytes_row : ℕ → ℕ → ℕ → List ℕ → List ℕ → List ℕ → List ℕ
bytes_row w b n bytes ks out = afterwards (bytes_answer w b n bytes ks out) (bytes_digest w b n bytes ks) out
