-- Two messages of bytes of different length under one key (document 02, "Four", which calls them labels); the digest of each is the byte digest's own,
-- `bytes_digest`, which the promise of `digest_bytes` names.
use Rattle.std.specs.Prelude.{◌≡◌, ◌≢◌, Bool, false, List, ℕ, ◌+◌, ◌*◌, ◌^◌, ◌≤◌, eqb, length, take, replicate}
use Rattle.theory_counts.specs.Count.{count, differ_by}
use Rattle.theory_digest.specs.Settings.{InRange}
use Rattle.answers.specs.Table.{bad_byte_width}
use Rattle.sum_bytes.specs.Bytes.{words_of, Bytes}
use Rattle.digest_bytes.specs.Call.{bytes_digest}
use Rattle.digest_match.specs.Match.{match_answer}
use Rattle.theory_digest.specs.Claims.{most_keys}

-- 02, "Four": two different messages of bytes that make at most T words each, closed; the width is 8, 16 or 32
pub record ByteMessages (w T : ℕ) (first second : List ℕ) : Type 0 where
  pub byte_width : bad_byte_width w ≡ false
  pub bytes : Bytes first
  pub bytes' : Bytes second
  pub different : first ≢ second
  pub few : length (words_of w first) ≤ T
  pub few' : length (words_of w second) ≤ T

-- 02, "Four": how many keys of T + n words pass a test of the two digests, each message under as many first words of the key as it needs
unfoldable pub byte_keys : ℕ → ℕ → ℕ → ℕ → List ℕ → List ℕ → (List ℕ → List ℕ → Bool) → ℕ
byte_keys w b n T first second test =
    count w (T + n)
    (λ ks.
    test (bytes_digest w b n first (take (length (words_of w first) + n) ks)) (bytes_digest w b n second (take (length (words_of w second) + n) ks)))

-- 02, "Four", with 01's "differ by": how many make the second message's digest differ from the first's by the numbers ds
unfoldable pub byte_keys_that_differ : ℕ → ℕ → ℕ → ℕ → List ℕ → List ℕ → List ℕ → ℕ
byte_keys_that_differ w b n T first second ds = byte_keys w b n T first second (λ x y. differ_by b n x y ds)

-- 02, "Four": any n named differences
unfoldable pub ByteBoundAt : ℕ → ℕ → ℕ → ℕ → Type 0
ByteBoundAt w b n T =
    (first second ds : List ℕ) → ByteMessages w T first second → length ds ≡ n → byte_keys_that_differ w b n T first second ds ≤ most_keys w b n T

-- 02, "Four", for every b ≤ w, every n and every T
unfoldable pub ByteBound : Type 0
ByteBound = (w b n T : ℕ) → b ≤ w → ByteBoundAt w b n T

-- the same at the ranges of 01, "Settings", and of 02, "Four"
unfoldable pub ByteBoundInRange : Type 0
ByteBoundInRange = (w b n T : ℕ) → InRange w b n → T ≤ 65536 → ByteBoundAt w b n T

-- why 02, "Four", says "different": a message agrees with itself under every one of the 2^(w·(T + n)) keys
unfoldable pub OneByteMessage : Type 0
OneByteMessage = (w b n T : ℕ) (bytes : List ℕ) → byte_keys_that_differ w b n T bytes bytes (replicate n 0) ≡ 2 ^ (w * (T + n))

-- 01, "Match": how many keys make the match of the two digests answer 100
unfoldable pub byte_keys_that_match : ℕ → ℕ → ℕ → ℕ → List ℕ → List ℕ → ℕ
byte_keys_that_match w b n T first second = byte_keys w b n T first second (λ x y. eqb (match_answer n x y) 100)

-- a false match, counted
unfoldable pub FalseByteMatches : Type 0
FalseByteMatches = (w b n T : ℕ) (first second : List ℕ) → b ≤ w → ByteMessages w T first second → byte_keys_that_match w b n T first second ≤ most_keys w b n T
