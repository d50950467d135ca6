-- n sums at once: what a message adds to sums that are held already or takes off them, and the range test of the words that it reads.
use Rattle.std.specs.Prelude.{Bool, true, not, ◌&&◌, cond, List, [], ◌∷◌, ◌++◌, ℕ, ◌+◌, ◌-◌, ◌%◌, ◌^◌, leb, length, take, drop}
use Rattle.theory_counts.specs.Words.{fits}
use Rattle.theory_digest.specs.Digest.{whole_sum}
use Rattle.answers.specs.Table.{bad_width, bad_count}

-- 01, "Stream": what a push adds to the held sums, modulo 2^w; each sum has the key from one word further on
unfoldable pub add_sums : ℕ → List ℕ → List ℕ → List ℕ → List ℕ
add_sums w ms ks [] = []
add_sums w ms ks (s ∷ sums) = (s + whole_sum w ms ks) % 2 ^ w ∷ add_sums w ms (drop 1 ks) sums

-- 02, "Eight": what x lacks to the next multiple of 2^w; added, it takes x off modulo 2^w
unfoldable pub lack : ℕ → ℕ → ℕ
lack w x = 2 ^ w - x % 2 ^ w

-- 02, "Eight": the held sums without what a message added, modulo 2^w; each sum has the key from one word further on
unfoldable pub subtract_sums : ℕ → List ℕ → List ℕ → List ℕ → List ℕ
subtract_sums w ms ks [] = []
subtract_sums w ms ks (s ∷ sums) = (s + lack w (whole_sum w ms ks)) % 2 ^ w ∷ subtract_sums w ms (drop 1 ks) sums

-- where the code sums, of t message words and k key words: Width and Count pass, and there are key words for n sums
unfoldable pub summable : ℕ → ℕ → ℕ → ℕ → Bool
summable w n t k = not (bad_width w) && (not (bad_count n) && leb (t + n) k)

-- what the code's sums are for every input: the first n places are added to, or nothing is
unfoldable pub checked_sums : ℕ → ℕ → List ℕ → List ℕ → List ℕ → List ℕ
checked_sums w n ms ks sums = cond (summable w n (length ms) (length ks)) (add_sums w ms ks (take n sums) ++ drop n sums) sums

-- 02, "Eight": the same where it takes off: the first n places are taken from, or nothing is
unfoldable pub checked_less : ℕ → ℕ → List ℕ → List ℕ → List ℕ → List ℕ
checked_less w n ms ks sums = cond (summable w n (length ms) (length ks)) (subtract_sums w ms ks (take n sums) ++ drop n sums) sums

-- the range test of a message where it is asked for; bytes make words that fit, and ask for none
unfoldable pub tests : Bool → ℕ → List ℕ → Bool
tests asked w ms = cond asked (fits w ms) true

-- 02, "Three": whether the words that the sums read fit: the message's, and as many of the key with its last n
unfoldable pub checked_fit : Bool → ℕ → ℕ → List ℕ → List ℕ → Bool
checked_fit asked w n ms ks = summable w n (length ms) (length ks) && (tests asked w ms && fits w (take (length ms + n) ks))
