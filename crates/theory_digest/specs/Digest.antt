-- The digest of source document 003, as document 01 fixes it ("The sum"). A message and a key are lists of words, the first word first.
-- w is the bits in a word, b the low bits kept, n the digest words. A key word past the key's end counts as 0.
use Rattle.std.specs.Prelude.{List, [], ◌∷◌, map, ℕ, zero, suc, ◌+◌, ◌*◌, ◌/◌, ◌%◌, ◌^◌, get_or, drop}

-- 003, equation 2, not yet reduced: the sum over j of m_j·k_j + (m_j·k_{j+1} div 2^w), in whole numbers
unfoldable pub whole_sum : ℕ → List ℕ → List ℕ → ℕ
whole_sum w [] ks = 0
whole_sum w (m ∷ ms) ks = m * get_or ks 0 0 + m * get_or ks 1 0 / 2 ^ w + whole_sum w ms (drop 1 ks)

-- 003, equation 2: the one-word digest, the sum modulo 2^w
unfoldable pub one_word : ℕ → List ℕ → List ℕ → ℕ
one_word w ms ks = whole_sum w ms ks % 2 ^ w

-- 003, section 5.3: n one-word digests, each under the key from one word further on
unfoldable pub full_words : ℕ → ℕ → List ℕ → List ℕ → List ℕ
full_words w zero ms ks = []
full_words w (suc n) ms ks = one_word w ms ks ∷ full_words w n ms (drop 1 ks)

-- 003, equation 5: the low b bits of a word
unfoldable pub kept : ℕ → ℕ → ℕ
kept b d = d % 2 ^ b

-- 01, "The sum": the message's digest under the key, n words with b bits kept
unfoldable pub digest : ℕ → ℕ → ℕ → List ℕ → List ℕ → List ℕ
digest w b n ms ks = map (kept b) (full_words w n ms ks)
