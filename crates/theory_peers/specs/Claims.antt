-- What one peer's key is to another's answer (document 02, "Five"), and what one peer alone is: about the values that the promise names.
use Rattle.std.specs.Prelude.{◌≡◌, true, false, ◌≢◌, ◌⊎◌, List, ℕ, ◌+◌, ◌*◌, ◌^◌, ◌≤◌, ◌<◌, length, get_or}
use Rattle.theory_counts.specs.Words.{fits}
use Rattle.theory_digest.specs.Digest.{digest}
use Rattle.digest_words.specs.Call.{digest_answer, digest_row}
use Rattle.digest_peers.specs.Peers.{row_at}
use Rattle.digest_peers.specs.Call.{peers_answer, peers_row}

-- 02, "Five": after an accepted call row i of the lent output is the digest under key i, and of no other key
unfoldable pub RowAlone : Type 0
RowAlone =
    (w b n p i : ℕ) (ms ks out : List ℕ)
    → i < p
    → peers_answer w b n p ms ks out ≡ 0
    → row_at n i (peers_row w b n p ms ks out) ≡ digest w b n ms (row_at (length ms + n) i ks)

-- for every input, one peer alone is answered and written as the word digest's call is
unfoldable pub OnePeer : Type 0
OnePeer =
    (w b n : ℕ) (ms ks out : List ℕ)
    → (peers_answer w b n 1 ms ks out ≡ digest_answer w b n ms ks out) × (peers_row w b n 1 ms ks out ≡ digest_row w b n ms ks out)

-- 02, "Five": two accepted calls with the same settings and message, whose keys agree in key i and may differ in every other, write
-- one row i. Each has an output of its own
unfoldable pub OtherKeysDoNotReach : Type 0
OtherKeysDoNotReach =
    (w b n p i : ℕ) (ms ks ks' out out' : List ℕ)
    → i < p
    → peers_answer w b n p ms ks out ≡ 0
    → peers_answer w b n p ms ks' out' ≡ 0
    → row_at (length ms + n) i ks ≡ row_at (length ms + n) i ks'
    → row_at n i (peers_row w b n p ms ks out) ≡ row_at n i (peers_row w b n p ms ks' out')

-- word j of key i is 2^w or more, keys having size words. Past the last key such a word makes the slice too long
abbrev pub TooLarge : ℕ → ℕ → ℕ → ℕ → List ℕ → Type 0
TooLarge w size i j ks = 2 ^ w ≤ get_or (row_at size i ks) j 0

-- 02, "Five": such a word in any key refuses the call for all: every row of the lent output is as it was
unfoldable pub AnyKeyRefuses : Type 0
AnyKeyRefuses =
    (w b n p i j : ℕ) (ms ks out : List ℕ)
    → TooLarge w (length ms + n) i j ks
    → (peers_answer w b n p ms ks out ≢ 0) × (peers_row w b n p ms ks out ≡ out)

-- 01's number for it is 7, Word, where the tests before it pass, as they do if a slice of the same length is accepted in its place
unfoldable pub RefusedAsWord : Type 0
RefusedAsWord =
    (w b n p i j : ℕ) (ms ks ks' out : List ℕ)
    → TooLarge w (length ms + n) i j ks
    → length ks ≡ length ks'
    → peers_answer w b n p ms ks' out ≡ 0
    → peers_answer w b n p ms ks out ≡ 7

-- the one way: refused for a word of 2^w or more in some key, where the other slice has none and is accepted
abbrev pub Reached : ℕ → ℕ → List ℕ → ℕ → List ℕ → Type 0
Reached w answer ks answer' ks' = (answer ≡ 7) × (fits w ks ≡ false) × (answer' ≡ 0) × (fits w ks' ≡ true)

-- 02, "Five": in a slice of the right length no key reaches the answer otherwise: two of them are answered alike, or so
unfoldable pub OneWayOnly : Type 0
OneWayOnly =
    (w b n p : ℕ) (ms ks ks' out : List ℕ)
    → length ks ≡ p * (length ms + n)
    → length ks' ≡ p * (length ms + n)
    → (peers_answer w b n p ms ks out ≡ peers_answer w b n p ms ks' out)
    ⊎ (Reached w (peers_answer w b n p ms ks out) ks (peers_answer w b n p ms ks' out) ks'
    ⊎ Reached w (peers_answer w b n p ms ks' out) ks' (peers_answer w b n p ms ks out) ks)

-- 02, "Five": an accepted call with its other keys replaced by any of t + n words below 2^w: it is accepted again, and row i stays
unfoldable pub KeysReplaced : Type 0
KeysReplaced =
    (w b n p i : ℕ) (ms ks ks' out : List ℕ)
    → i < p
    → peers_answer w b n p ms ks out ≡ 0
    → length ks' ≡ p * (length ms + n)
    → fits w ks' ≡ true
    → row_at (length ms + n) i ks ≡ row_at (length ms + n) i ks'
    → (peers_answer w b n p ms ks' out ≡ 0) × (row_at n i (peers_row w b n p ms ks out) ≡ row_at n i (peers_row w b n p ms ks' out))
