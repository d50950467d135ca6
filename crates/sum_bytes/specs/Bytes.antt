-- A message of bytes as words (document 01, "Bytes"; closed as document 02, "One", says). A word of width 8, 16 or 32 has 1, 2 or 4 bytes.
use Rattle.std.specs.Prelude.{◌≡◌, Bool, true, false, not, ◌&&◌, cond, List, [], ◌∷◌, ◌++◌, ℕ, zero, suc, ◌+◌, ◌*◌, ◌-◌, ◌/◌, ◌<◌, length, get_or, drop}
use Rattle.theory_counts.specs.Words.{fits}
use Rattle.answers.specs.Table.{bad_byte_width}
use Rattle.sum_terms.specs.Sums.{checked_sums, checked_fit}

-- 01, "Bytes": "the first byte lowest": the number of the first c bytes. A byte past the end counts as 0, so that a last word is filled up with zero bytes
unfoldable pub little_endian : ℕ → List ℕ → ℕ
little_endian zero xs = 0
little_endian (suc c) xs = get_or xs 0 0 + 256 * little_endian c (drop 1 xs)

-- 01, "Bytes": t words of c bytes
unfoldable pub words_from : ℕ → ℕ → List ℕ → List ℕ
words_from c zero xs = []
words_from c (suc t) xs = little_endian c xs ∷ words_from c t (drop c xs)

-- how many words of c bytes so many bytes fill, the last perhaps not full
unfoldable pub count_of : ℕ → ℕ → ℕ
count_of c bytes = (bytes + (c - 1)) / c

-- 02, "One": a closed message has the byte 0x80 after its last, and that byte alone where it has none. With the zeros that fill its last word
-- this is the field's 10* padding
unfoldable pub closed : List ℕ → List ℕ
closed xs = xs ++ (0x80 ∷ [])

-- 02, "One": bytes as words of width w, the last filled up with zeros
unfoldable pub in_words : ℕ → List ℕ → List ℕ
in_words w xs = words_from (w / 8) (count_of (w / 8) (length xs)) xs

-- 02, "One": the words of these bytes at width w, closed and then filled up
unfoldable pub words_of : ℕ → List ℕ → List ℕ
words_of w xs = in_words w (closed xs)

-- how many they are at a byte width, which Long counts; 0 at any other width
unfoldable pub words_in : ℕ → List ℕ → ℕ
words_in w xs = cond (bad_byte_width w) 0 (length (words_of w xs))

-- 01, "Bytes": the first t words of c bytes of the closed message, added to sums
abbrev pub sums_from : ℕ → ℕ → ℕ → ℕ → List ℕ → List ℕ → List ℕ → List ℕ
sums_from w n c t xs ks sums = checked_sums w n (words_from c t (closed xs)) ks sums

-- 02, "Three": whether the key's words that they read fit
abbrev pub fit_from : ℕ → ℕ → ℕ → ℕ → List ℕ → List ℕ → Bool
fit_from w n c t xs ks = checked_fit false w n (words_from c t (closed xs)) ks

-- 01, "Bytes": what the code's n sums of bytes are: those of the words at a byte width, and at any other as they were
unfoldable pub checked_bytes : ℕ → ℕ → List ℕ → List ℕ → List ℕ → List ℕ
checked_bytes w n xs ks sums = cond (bad_byte_width w) sums (checked_sums w n (words_of w xs) ks sums)

-- 02, "Three": whether the words that they read fit; no words are read at another width
unfoldable pub checked_bytes_fit : ℕ → ℕ → List ℕ → List ℕ → Bool
checked_bytes_fit w n xs ks = not (bad_byte_width w) && checked_fit false w n (words_of w xs) ks

-- a message of bytes, each below 256
abbrev pub Bytes : List ℕ → Type 0
Bytes xs = (i : ℕ) → get_or xs i 0 < 256

-- the words of bytes fit their width, so that the byte digest tests the key's words alone
unfoldable pub BytesFit : Type 0
BytesFit = (w : ℕ) (xs : List ℕ) → bad_byte_width w ≡ false → Bytes xs → fits w (words_of w xs) ≡ true
