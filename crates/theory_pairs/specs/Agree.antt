-- What the program counts: at width 7, the two-word keys under which two one-word messages agree, and the bound on their number.
-- d says what the two ends compare: at 0 the one-word digest with all 7 bits kept (document 01), else the code of d digits (document 02, "Two").
use Rattle.std.specs.Prelude.{List, [], ◌∷◌, ℕ, zero, suc, ◌/◌, ◌%◌, ◌≤◌, ◌<◌}
use Rattle.theory_digest.specs.Digest.{digest}
use Rattle.theory_digest.specs.Corollaries.{keys_that_collide}
use Rattle.digest_code.specs.Code.{code}
use Rattle.theory_codes.specs.Claims.{keys_that_agree, most_code_keys}
use Rattle.theory_digest.specs.Claims.{most_keys}

-- the row that an end compares
unfoldable pub compared : ℕ → List ℕ → List ℕ → List ℕ
compared zero ms ks = digest 7 7 1 ms ks
compared (suc d) ms ks = code 7 (suc d) ms ks

-- the keys under which the messages agree, as the claims count them
unfoldable pub agreeing : ℕ → ℕ → ℕ → ℕ
agreeing zero first second = keys_that_collide 7 7 1 1 (first ∷ []) (second ∷ [])
agreeing (suc d) first second = keys_that_agree 7 (suc d) 1 (first ∷ []) (second ∷ [])

-- their bound: `Collisions` of crate theory_digest at w = b = 7 and n = t = 1, and `CodeBound` of crate theory_codes
unfoldable pub bound_of : ℕ → ℕ
bound_of zero = most_keys 7 7 1 1
bound_of (suc d) = most_code_keys 7 (suc d) 1

-- it holds of every pair
unfoldable pub PairsBounded : Type 0
PairsBounded = (d first second : ℕ) → first < second → second < 128 → agreeing d first second ≤ bound_of d

-- the keys in order
abbrev pub key_at : ℕ → List ℕ
key_at i = i / 128 ∷ i % 128 ∷ []
