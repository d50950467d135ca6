-- How many keys give two messages one code (document 02, "Two"), for every width w, every d and every message length t.
use Rattle.std.specs.Prelude.{◌≡◌, Bool, ◌≢◌, List, ℕ, ◌+◌, ◌*◌, ◌-◌, ◌/◌, ◌^◌, ◌≤◌, eqb, length, get_or}
use Rattle.theory_counts.specs.Count.{count, same_row, every}
use Rattle.theory_counts.specs.Words.{Row}
use Rattle.theory_digest.specs.Settings.{InRange}
use Rattle.digest_code.specs.Code.{code}
use Rattle.digest_code.specs.Call.{code_answer, code_row}

-- 02, "Two", with 01's "A count of keys": how many keys of t + 1 words give both messages one code, byte for byte
unfoldable pub keys_that_agree : ℕ → ℕ → ℕ → List ℕ → List ℕ → ℕ
keys_that_agree w d t first second = count w (t + 1) (λ ks. same_row (code w d first ks) (code w d second ks))

-- 02's F: how often 10^d goes into the largest word
unfoldable pub largest_quotient : ℕ → ℕ → ℕ
largest_quotient w d = (2 ^ w - 1) / 10 ^ d

-- 02, "Two": how many keys the document allows
unfoldable pub most_code_keys : ℕ → ℕ → ℕ → ℕ
most_code_keys w d t = (2 * largest_quotient w d + 1) * 2 ^ (w * t + 1)

-- 02, "Two", for two different messages of t words: their codes agree under no more keys than the bound. It asks nothing of w, d and t
unfoldable pub CodeBound : Type 0
CodeBound =
    (w d t : ℕ) (first second : List ℕ) → Row w t first → Row w t second → first ≢ second → keys_that_agree w d t first second ≤ most_code_keys w d t

-- 02, "Two", two digits a byte: two rows agree in the bytes of a code, compared byte by byte
unfoldable pub bytes_agree : ℕ → List ℕ → List ℕ → Bool
bytes_agree d first second = every ((d + 1) / 2) (λ i. eqb (get_or first i 0) (get_or second i 0))

-- 01's "A count of keys": how many keys of t + 1 words make two calls write the same bytes, each into an output of its own
unfoldable pub code_calls_that_agree : ℕ → ℕ → ℕ → List ℕ → List ℕ → List ℕ → List ℕ → ℕ
code_calls_that_agree w d t first second out out' = count w (t + 1) (λ ks. bytes_agree d (code_row w d first ks out) (code_row w d second ks out'))

-- 02, "Two", a false match counted as the agent makes it: two different messages of t words, outputs that have room. The settings are those of the
-- digest of one word with all bits kept, and Digits does not hold
unfoldable pub FalseCodes : Type 0
FalseCodes =
    (w d t : ℕ) (first second out out' : List ℕ)
    → InRange w w 1
    → 1 ≤ d
    → 10 ^ d ≤ 2 ^ w
    → t ≤ 65536
    → (d + 1) / 2 ≤ length out
    → (d + 1) / 2 ≤ length out'
    → Row w t first
    → Row w t second
    → first ≢ second
    → code_calls_that_agree w d t first second out out' ≤ most_code_keys w d t

-- 01, "Numbers the agent sees": under each of these keys the call is accepted
unfoldable pub CodeAccepted : Type 0
CodeAccepted =
    (w d t : ℕ) (ms ks out : List ℕ)
    → InRange w w 1
    → 1 ≤ d
    → 10 ^ d ≤ 2 ^ w
    → t ≤ 65536
    → (d + 1) / 2 ≤ length out
    → Row w t ms
    → Row w (t + 1) ks
    → code_answer w d ms ks out ≡ 0
