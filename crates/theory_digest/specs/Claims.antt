-- Demand 3: the counts over all keys (01, "The sum", last paragraph; 003, definition 3 and theorems 1 to 3), for every width w, every b ≤ w kept
-- bits, every n digest words and every message length t.
use Rattle.std.specs.Prelude.{◌≡◌, ◌≢◌, List, ℕ, ◌+◌, ◌*◌, ◌-◌, ◌^◌, ◌≤◌, length, get_or}
use Rattle.theory_digest.specs.Digest.{digest}
use Rattle.theory_counts.specs.Count.{count, same_row, differ_by}
use Rattle.theory_counts.specs.Words.{Row}

-- 003, definition 3: a message other than 0, some word of it is not 0
abbrev pub NonZero : List ℕ → Type 0
NonZero ms = (i : ℕ) × (get_or ms i 0 ≢ 0)

-- 01, "Two digests under one key differ by" and "A count of keys": how many keys of t + n words make the second message's digest differ from the first's by the numbers ds
unfoldable pub keys_that_differ : ℕ → ℕ → ℕ → ℕ → List ℕ → List ℕ → List ℕ → ℕ
keys_that_differ w b n t first second ds = count w (t + n) (λ ks. differ_by b n (digest w b n first ks) (digest w b n second ks) ds)

-- 003, definition 3, distribution, as 01's "A count of keys": how many keys of t + n words give the message the digest ys
unfoldable pub keys_that_give : ℕ → ℕ → ℕ → ℕ → List ℕ → List ℕ → ℕ
keys_that_give w b n t ms ys = count w (t + n) (λ ks. same_row (digest w b n ms ks) ys)

-- 003, theorem 3, with b bits kept: how many keys of t + n words demand 3 allows, 2^n times as many as there are on average
abbrev pub most_keys : ℕ → ℕ → ℕ → ℕ → ℕ
most_keys w b n t = 2 ^ (w * t + n + n * (w - b))

-- 003, theorem 3, collision, for any named differences and b kept bits: two different messages of t words, any n named differences: at most 2^(w·t + n + n·(w−b)) keys give them
unfoldable pub CollisionBoundAt : ℕ → ℕ → ℕ → ℕ → Type 0
CollisionBoundAt w b n t =
    (first second ds : List ℕ)
    → Row w t first
    → Row w t second
    → first ≢ second
    → length ds ≡ n
    → keys_that_differ w b n t first second ds ≤ most_keys w b n t

-- 003, theorem 3, distribution, exactly and for b kept bits: a message of t words, one of which is not 0, and any row of n words below 2^b: exactly 2^(w·t + n·(w−b)) keys give that row
unfoldable pub ExactCountAt : ℕ → ℕ → ℕ → ℕ → Type 0
ExactCountAt w b n t =
    (ms ys : List ℕ) → Row w t ms → NonZero ms → Row b n ys → keys_that_give w b n t ms ys ≡ 2 ^ (w * t + n * (w - b))

-- demand 3, the collision bound
unfoldable pub CollisionBound : Type 0
CollisionBound = (w b n t : ℕ) → b ≤ w → CollisionBoundAt w b n t

-- demand 3, the exact count
unfoldable pub ExactCount : Type 0
ExactCount = (w b n t : ℕ) → b ≤ w → ExactCountAt w b n t
