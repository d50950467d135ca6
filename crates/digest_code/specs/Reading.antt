-- What is read back from a code: its number, so that two codes are equal exactly where their numbers are.
use Rattle.std.specs.Prelude.{◌≡◌, ◌↔◌, List, [], ◌∷◌, ℕ, ◌+◌, ◌*◌, ◌/◌, ◌%◌, ◌^◌, ◌<◌, length}
use Rattle.digest_code.specs.Code.{code_number, digits, packed, code}

-- the number whose first digits are read already, and whose other digits are those of the bytes
unfoldable pub read_on : ℕ → List ℕ → ℕ
read_on number [] = number
read_on number (byte ∷ bytes) = read_on (number * 100 + byte / 16 * 10 + byte % 16) bytes

-- a number of d digits is read back from its packed digits
unfoldable pub ReadsBack : Type 0
ReadsBack = (d x : ℕ) → x < 10 ^ d → read_on 0 (packed (digits d x)) ≡ x

-- a code is read back as its number
unfoldable pub CodeReadsBack : Type 0
CodeReadsBack = (w d : ℕ) (ms ks : List ℕ) → read_on 0 (code w d ms ks) ≡ code_number w d ms ks

-- two codes are equal exactly where their numbers are
unfoldable pub SameCode : Type 0
SameCode =
    (w d : ℕ) (first second ks ks' : List ℕ) → (code w d first ks ≡ code w d second ks') ↔ (code_number w d first ks ≡ code_number w d second ks')

-- a code has a byte for two digits, and an odd digit has one of its own
unfoldable pub CodeLength : Type 0
CodeLength = (w d : ℕ) (ms ks : List ℕ) → length (code w d ms ks) ≡ (d + 1) / 2
