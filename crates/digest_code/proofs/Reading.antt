-- A code is read back as its number, so two codes are equal exactly where their numbers are.
-- Assumes nothing.
use mathlib.Core.Path.{◌≡◌, refl, sym, ap, ◌∙◌}
use mathlib.Core.List.{List, [], ◌∷◌, ◌++◌}
use Prim.Native.Nat.{ℕ, zero, suc, ◌+◌, ◌*◌, ◌/◌, ◌%◌, ◌^◌, ◌<◌}
use native.Mathlib.Nat.{div-div-eq-div-mul}
use native.Mathlib.Omega.{arith}
use lib.ListN.{length}
use Rattle.digest_code.specs.Code.{code_number, digits, evened, pack_pairs, packed, code}
use Rattle.digest_code.specs.Bytes.{last_byte}
use Rattle.digest_code.specs.Reading.{read_on, ReadsBack, CodeReadsBack, SameCode, CodeLength}
use Rattle.digest_code.proofs.Digits.{packed_one, packed_two, packed_digits, length_bytes, higher, below_ten}

-- one byte more at the end
read_more : (number : ℕ) (bytes : List ℕ) (byte : ℕ) → read_on number (bytes ++ (byte ∷ [])) ≡ read_on number bytes * 100 + byte / 16 * 10 + byte % 16
unfolding read_on
read_more number [] byte = refl
read_more number (b ∷ bytes) byte = read_more (number * 100 + b / 16 * 10 + b % 16) bytes byte

-- the two digits of a byte
high_digit : (high low : ℕ) → low < 16 → (high * 16 + low) / 16 ≡ high
high_digit high low lt = omega arith

low_digit : (high low : ℕ) → low < 16 → (high * 16 + low) % 16 ≡ low
low_digit high low lt = omega arith

-- the last two digits behind the others
last_two : (x : ℕ) → x / 100 * 100 + last_byte x / 16 * 10 + last_byte x % 16 ≡ x
last_two x =
    let low : x % 10 < 16 = omega arith in
    let hundreds : x / 10 / 10 ≡ x / 100 = div-div-eq-div-mul x 10 10 in
    rw (high_digit (x / 10 % 10) (x % 10) low, low_digit (x / 10 % 10) (x % 10) low) (omega arith)

pub reads_back : ReadsBack
unfolding ReadsBack read_on packed evened pack_pairs digits
reads_back zero x lt = omega arith
reads_back (suc zero) x lt = ap (read_on 0) (packed_one x lt) ∙ omega (arith, last_two x)
reads_back (suc (suc d)) x lt =
    ap (read_on 0) (packed_two d x)
    ∙ read_more 0 (packed (digits d (x / 100))) (last_byte x)
    ∙ ap (λ (n : ℕ). n * 100 + last_byte x / 16 * 10 + last_byte x % 16) (reads_back d (x / 100) (higher d x lt))
    ∙ last_two x

pub code_below : (w d : ℕ) (ms ks : List ℕ) → code_number w d ms ks < 10 ^ d
unfolding code_number
code_below w d ms ks = below_ten d _

pub code_reads_back : CodeReadsBack
unfolding CodeReadsBack code ReadsBack
code_reads_back w d ms ks = reads_back d (code_number w d ms ks) (code_below w d ms ks)

pub same_code : SameCode
unfolding SameCode CodeReadsBack code
same_code w d first second ks ks' =
    ((λ e. sym (code_reads_back w d first ks) ∙ ap (read_on 0) e ∙ code_reads_back w d second ks'), λ e. ap (λ (x : ℕ). packed (digits d x)) e)

pub code_length : CodeLength
unfolding CodeLength code
code_length w d ms ks = ap length (packed_digits d (code_number w d ms ks) (code_below w d ms ks)) ∙ length_bytes ((d + 1) / 2) (code_number w d ms ks)
