-- Two messages of words as the agent compares them, at document 01's ranges: a call of the word digest for each, under one key, and the match of the
-- n words that each wrote.
use Rattle.std.specs.Prelude.{◌≡◌, ◌≢◌, List, ℕ, ◌+◌, ◌≤◌, eqb, length, take}
use Rattle.theory_counts.specs.Count.{count}
use Rattle.theory_counts.specs.Words.{Row}
use Rattle.theory_digest.specs.Settings.{InRange}
use Rattle.digest_words.specs.Call.{digest_answer, digest_row}
use Rattle.digest_match.specs.Match.{match_answer}
use Rattle.theory_digest.specs.Claims.{most_keys}

-- 01, "Match": how many keys of t + n words make the match of what two calls wrote, each into an output of its own, answer 100
unfoldable pub calls_that_match : ℕ → ℕ → ℕ → ℕ → List ℕ → List ℕ → List ℕ → List ℕ → ℕ
calls_that_match w b n t first second out out' =
    count w (t + n) (λ ks. eqb (match_answer n (take n (digest_row w b n first ks out)) (take n (digest_row w b n second ks out'))) 100)

-- demand 3 of the match, a false match counted as the agent makes it: two different messages of t words, outputs that have room
unfoldable pub FalseCalls : Type 0
FalseCalls =
    (w b n t : ℕ) (first second out out' : List ℕ)
    → InRange w b n
    → t ≤ 65536
    → n ≤ length out
    → n ≤ length out'
    → Row w t first
    → Row w t second
    → first ≢ second
    → calls_that_match w b n t first second out out' ≤ most_keys w b n t

-- 01, "Numbers the agent sees": under each of these keys the call is accepted
unfoldable pub WordsAccepted : Type 0
WordsAccepted =
    (w b n t : ℕ) (ms ks out : List ℕ)
    → InRange w b n
    → t ≤ 65536
    → n ≤ length out
    → Row w t ms
    → Row w (t + n) ks
    → digest_answer w b n ms ks out ≡ 0
