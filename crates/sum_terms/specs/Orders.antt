-- Parts of a message may be added in any order, and taken off again.
use Rattle.std.specs.Prelude.{true, ◌≡◌, List, ℕ}
use Rattle.theory_counts.specs.Words.{fits}
use Rattle.sum_terms.specs.Sums.{add_sums, subtract_sums}

-- 02, "Ten", "in every order of arrival": of two parts, each under its own key words, either may come first
unfoldable pub EitherOrder : Type 0
EitherOrder = (w : ℕ) (a b ka kb sums : List ℕ) → add_sums w a ka (add_sums w b kb sums) ≡ add_sums w b kb (add_sums w a ka sums)

-- 02, "Eight": words that were taken off and are added again under the same key words leave sums that fit as they were
unfoldable pub AddedAgain : Type 0
AddedAgain = (w : ℕ) (ms ks sums : List ℕ) → fits w sums ≡ true → add_sums w ms ks (subtract_sums w ms ks sums) ≡ sums
