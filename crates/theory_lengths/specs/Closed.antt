-- Why a message of bytes is closed (document 02, "One"): its words then tell it from every other message, zeros after them or not. Document 02, "Four",
-- counts on it.
use Rattle.std.specs.Prelude.{◌≡◌, ◌≢◌, List, [], ◌∷◌, ℕ, ◌≤◌, length}
use Rattle.theory_lengths.specs.CommonKey.{filled_up}
use Rattle.sum_bytes.specs.Bytes.{in_words, words_of, Bytes}

-- what a way to make words of bytes should do: two different messages make words that stay different when the shorter row
-- is filled up with zero words, to any common length T. For every width of a byte or more
unfoldable pub KeepsApart : (ℕ → List ℕ → List ℕ) → Type 0
KeepsApart words =
    (w T : ℕ) (xs ys : List ℕ)
    → 8 ≤ w
    → Bytes xs
    → Bytes ys
    → xs ≢ ys
    → length (words w xs) ≤ T
    → length (words w ys) ≤ T
    → filled_up T (words w xs) ≢ filled_up T (words w ys)

-- the words of closed messages do
unfoldable pub ClosedApart : Type 0
ClosedApart = KeepsApart words_of

-- without the closing byte they do not: 5 and 5 0, filled up to two words at width 8, to one at width 16
unfoldable pub OpenAlike : Type 0
OpenAlike =
    (filled_up 2 (in_words 8 (5 ∷ [])) ≡ filled_up 2 (in_words 8 (5 ∷ 0 ∷ [])))
    × (filled_up 1 (in_words 16 (5 ∷ [])) ≡ filled_up 1 (in_words 16 (5 ∷ 0 ∷ [])))
    × ¬ KeepsApart in_words
