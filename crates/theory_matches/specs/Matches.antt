-- How often the match of two different messages' digests answers 100.
use Rattle.std.specs.Prelude.{◌≢◌, List, ℕ, ◌+◌, ◌≤◌, eqb}
use Rattle.theory_digest.specs.Digest.{digest}
use Rattle.theory_counts.specs.Count.{count}
use Rattle.theory_counts.specs.Words.{Row}
use Rattle.digest_match.specs.Match.{match_answer}
use Rattle.theory_digest.specs.Claims.{most_keys}

-- 01, "Match", with "A count of keys": how many keys of t + n words make the match of two messages' digests answer 100
unfoldable pub keys_that_match : ℕ → ℕ → ℕ → ℕ → List ℕ → List ℕ → ℕ
keys_that_match w b n t first second = count w (t + n) (λ ks. eqb (match_answer n (digest w b n first ks) (digest w b n second ks)) 100)

-- demand 3 of the match, a false match counted: two different messages of t words match under at most 2^(w·t + n + n·(w−b)) keys. For every n: where it is
-- not 1 to 8 the match answers 3, never 100
unfoldable pub FalseMatches : Type 0
FalseMatches =
    (w b n t : ℕ) (first second : List ℕ)
    → b ≤ w
    → Row w t first
    → Row w t second
    → first ≢ second
    → keys_that_match w b n t first second ≤ most_keys w b n t
