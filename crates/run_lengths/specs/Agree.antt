-- What the program counts (document 02, "Four"): the keys of three words under which the message of no bytes matches a message of one byte, at width 8
-- with all bits kept, one digest word and T = 2.
use Rattle.std.specs.Prelude.{◌≡◌, List, [], ◌∷◌, ℕ, ◌+◌, ◌%◌, ◌≤◌, ◌<◌, eqb, get_or}
use Rattle.theory_counts.specs.Count.{as_number}
use Rattle.digest_bytes.specs.Call.{bytes_digest}
use Rattle.theory_lengths.specs.ByteMessages.{byte_keys_that_match}
use Rattle.theory_digest.specs.Claims.{most_keys}

-- the claims' own count
unfoldable pub keys_of : ℕ → ℕ
keys_of byte = byte_keys_that_match 8 8 1 2 [] (byte ∷ [])

-- and their bound, which holds of every message
unfoldable pub MatchesBounded : Type 0
MatchesBounded = (byte : ℕ) → byte < 256 → keys_of byte ≤ most_keys 8 8 1 2

-- the one word of a message's digest
unfoldable pub digest_word : List ℕ → List ℕ → ℕ
digest_word message ks = get_or (bytes_digest 8 8 1 message ks) 0 0

-- what the last of three key words adds to the digest of a message of one byte: the digest of no bytes under 0 and that word
unfoldable pub last_word : ℕ → ℕ
last_word k = digest_word [] (0 ∷ k ∷ [])

-- so that 2^16 keys that end in 0 tell the digest under all 2^24
unfoldable pub LastWordAdds : Type 0
LastWordAdds = (byte k₁ k₂ k₃ : ℕ) → digest_word (byte ∷ []) (k₁ ∷ k₂ ∷ k₃ ∷ []) ≡ (digest_word (byte ∷ []) (k₁ ∷ k₂ ∷ 0 ∷ []) + last_word k₃) % 256

-- 1 where the last word k makes the digest the one that is wanted, else 0
unfoldable pub agrees_at : ℕ → ℕ → List ℕ → ℕ → ℕ
agrees_at wanted start lasts k = as_number (eqb wanted ((start + get_or lasts k 0) % 256))
