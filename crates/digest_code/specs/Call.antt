-- The promise of the call (document 02, "Two"): w, d, the message, the key, and the output row as it is lent.
use Rattle.std.specs.Prelude.{List, [], ◌∷◌, ℕ, ◌+◌, ◌/◌, length}
use Rattle.answers.specs.Answers.{Test, first_of, afterwards}
use Rattle.answers.specs.Table.{width_test, long_test, key_test, tray_test, word_test}
use Rattle.digest_code.specs.Digits.{digits_test}
use Rattle.digest_code.specs.Code.{code}

-- the tests in the order of 01's table, Digits between Width and the others; without b and n there is neither Kept nor Count.
-- An accepted call writes a byte for every two digits. Those before Word, which is made in the walk (02, "Three")
unfoldable pub code_tests : ℕ → ℕ → List ℕ → List ℕ → List ℕ → List Test
code_tests w d ms ks out =
    width_test w
    ∷ digits_test w d
    ∷ long_test (length ms)
    ∷ key_test (length ms + 1) (length ks)
    ∷ tray_test ((d + 1) / 2) (length out)
    ∷ []

-- and then Word; 0 for an accepted call
unfoldable pub code_answer : ℕ → ℕ → List ℕ → List ℕ → List ℕ → ℕ
code_answer w d ms ks out = first_of (code_tests w d ms ks out) (first_of (word_test w ms ks ∷ []) 0)

-- the output row after the call
unfoldable pub code_row : ℕ → ℕ → List ℕ → List ℕ → List ℕ → List ℕ
code_row w d ms ks out = afterwards (code_answer w d ms ks out) (code w d ms ks) out
