-- Two messages of different length under one key (document 02, "Four"), of words and over the width. The key is long enough for both, and each
-- message takes as many of its first words as it needs.
use Rattle.std.specs.Prelude.{◌≡◌, ◌≢◌, Bool, List, [], ◌∷◌, ◌++◌, ℕ, ◌+◌, ◌*◌, ◌-◌, ◌^◌, ◌≤◌, length, take, replicate}
use Rattle.theory_digest.specs.Digest.{digest}
use Rattle.theory_counts.specs.Count.{count, differ_by}
use Rattle.theory_counts.specs.Words.{Row}
use Rattle.theory_digest.specs.Claims.{most_keys}

-- 02, "Four", the filling up that unlike lengths are compared by: words with zero words after them, T in all
unfoldable pub filled_up : ℕ → List ℕ → List ℕ
filled_up T ms = ms ++ replicate (T - length ms) 0

-- 02, "Four": how many keys of T + n words pass a test of the two digests, each message under as many first words as it needs
unfoldable pub common_keys : ℕ → ℕ → ℕ → ℕ → List ℕ → List ℕ → (List ℕ → List ℕ → Bool) → ℕ
common_keys w b n T first second test =
    count w (T + n) (λ ks. test (digest w b n first (take (length first + n) ks)) (digest w b n second (take (length second + n) ks)))

-- 02, "Four", with 01's "differ by": how many make the second message's digest differ from the first's by the numbers ds
unfoldable pub common_keys_that_differ : ℕ → ℕ → ℕ → ℕ → List ℕ → List ℕ → List ℕ → ℕ
common_keys_that_differ w b n T first second ds = common_keys w b n T first second (λ x y. differ_by b n x y ds)

-- 02, "Four": the bound for two messages of at most T words, where they are apart in the sense given, and any n named differences
unfoldable pub BoundWhere : (ℕ → List ℕ → List ℕ → Type 0) → Type 0
BoundWhere Apart =
    (w b n T t t' : ℕ) (first second ds : List ℕ)
    → b ≤ w
    → Row w t first
    → Row w t' second
    → t ≤ T
    → t' ≤ T
    → Apart T first second
    → length ds ≡ n
    → common_keys_that_differ w b n T first second ds ≤ most_keys w b n T

-- 02, "Four", for words: it holds of messages that stay different when they are filled up with zero words to T
unfoldable pub CommonKeyBound : Type 0
CommonKeyBound = BoundWhere (λ T first second. filled_up T first ≢ filled_up T second)

-- what it stands on beside demand 3: zero words at a message's end add nothing
unfoldable pub ZeroWordsAddNothing : Type 0
ZeroWordsAddNothing = (w b n z : ℕ) (ms ks : List ℕ) → digest w b n (ms ++ replicate z 0) ks ≡ digest w b n ms ks

-- and the digest of t words reads no more than the first t + n words of a longer key
unfoldable pub ReadsFirstWords : Type 0
ReadsFirstWords = (w b n : ℕ) (ms ks : List ℕ) → digest w b n ms (take (length ms + n) ks) ≡ digest w b n ms ks

-- 01, "Where the paper or the reader slips", last line: 5 and 5 0 agree under every common key
unfoldable pub FiveAgrees : Type 0
FiveAgrees = (w b n : ℕ) (ks : List ℕ) → digest w b n (5 ∷ []) (take (1 + n) ks) ≡ digest w b n (5 ∷ 0 ∷ []) (take (2 + n) ks)

-- so all 2^(w·(T + n)) keys give them no difference
unfoldable pub FiveUnderAllKeys : Type 0
FiveUnderAllKeys = (w b n T : ℕ) → common_keys_that_differ w b n T (5 ∷ []) (5 ∷ 0 ∷ []) (replicate n 0) ≡ 2 ^ (w * (T + n))

-- and of words of different length that are no more than different there is no such bound
unfoldable pub NoBoundForWords : Type 0
NoBoundForWords = ¬ BoundWhere (λ T first second. first ≢ second)
