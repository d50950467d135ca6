-- A message of bytes at a byte width, and what the code answers at any other.
use mathlib.Core.Path.{◌≡◌, refl, sym, ap, ap₂, subst, ◌∙◌}
use mathlib.Core.Bool.{Bool, true, false}
use mathlib.Core.List.{List}
use Prim.Native.Nat.{ℕ, zero, suc, ◌+◌, ◌*◌, ◌/◌, ◌^◌, ◌≤◌, ◌<◌}
use native.Mathlib.Nat.{suc-mul}
use native.Mathlib.Omega.{arith}
use lib.Pow.{pow-add}
use lib.ListN.{length, drop}
use lib.Seq.{get_or-drop}
use borrow.Author.Tests.{lt-ltb}
use Rattle.theory_counts.specs.Words.{fits}
use Rattle.answers.specs.Table.{bad_byte_width}
use Rattle.answers.proofs.Validation.{byte_width_passed}
use Rattle.sum_terms.specs.Sums.{summable, checked_sums, checked_fit}
use Rattle.sum_terms.proofs.Summable.{checked_unfit}
use Rattle.sum_terms.proofs.Each.{checked_still}
use Rattle.sum_bytes.specs.Bytes.{little_endian, words_from, count_of, in_words, closed, words_of, words_in, sums_from, fit_from, checked_bytes, checked_bytes_fit, Bytes, BytesFit}
use Rattle.sum_bytes.proofs.Closing.{closed_length, closed_small}
use Rattle.sum_bytes.proofs.Words.{words_length, count_closed}

-- a byte width is a multiple of 8, with so many bytes in a word
pub byte_width : (w : ℕ) → bad_byte_width w ≡ false → (w / 8 * 8 ≡ w) × (1 ≤ w / 8) × (w ≤ 32)
byte_width w e = byte_width_passed w e (λ v. (v / 8 * 8 ≡ v) × (1 ≤ v / 8) × (v ≤ 32)) (omega arith) (omega arith) (omega arith)

pub byte_range : (w : ℕ) → bad_byte_width w ≡ false → (1 ≤ w) × (w ≤ 32)
byte_range w e = let m = byte_width w e in omega arith

-- bytes are below 256 from every place on
pub bytes_from : (n : ℕ) (xs : List ℕ) → Bytes xs → Bytes (drop n xs)
bytes_from n xs h i = rw (get_or-drop n xs i 0) (h (n + i))

-- a word of c bytes is below 2^(8·c)
little_small : (c : ℕ) (xs : List ℕ) → Bytes xs → little_endian c xs < 2 ^ (c * 8)
unfolding little_endian
little_small zero xs h = omega arith
little_small (suc c) xs h =
    let e : 2 ^ (suc c * 8) ≡ 2 ^ (c * 8) * 256 = ap (λ (n : ℕ). 2 ^ n) (suc-mul c 8) ∙ pow-add 2 (c * 8) 8 in
    omega (arith, h 0, little_small c (drop 1 xs) (bytes_from 1 xs h))

words_small : (c t : ℕ) (xs : List ℕ) → Bytes xs → fits (c * 8) (words_from c t xs) ≡ true
unfolding fits words_from
words_small c zero xs h = refl
words_small c (suc t) xs h = rw (lt-ltb (little_endian c xs) (2 ^ (c * 8)) (little_small c xs h)) (words_small c t (drop c xs) (bytes_from c xs h))

-- what the code answers at a width that is no byte width
module _ (w : ℕ) (bad : bad_byte_width w ≡ true) where
  pub words_elsewhere : (xs : List ℕ) → words_in w xs ≡ 0
  unfolding words_in
  words_elsewhere xs = rw bad

  pub sums_elsewhere : (n : ℕ) (xs ks sums : List ℕ) → (false ≡ checked_bytes_fit w n xs ks) × (sums ≡ checked_bytes w n xs ks sums)
  unfolding checked_bytes checked_bytes_fit
  sums_elsewhere n xs ks sums = rw bad (refl, refl)

-- at a byte width the words of a message fit
pub bytes_fit : BytesFit
unfolding BytesFit words_of in_words
bytes_fit w xs good h =
    subst (λ (v : ℕ). fits v (words_from (w / 8) (count_of (w / 8) (length (closed xs))) (closed xs)) ≡ true)
    (byte_width w good).0
    (words_small (w / 8) (count_of (w / 8) (length (closed xs))) (closed xs) (closed_small xs h))

-- at a byte width: the words of a message, their number and their sums
module _ (w : ℕ) (xs : List ℕ) (good : bad_byte_width w ≡ false) where
  pub words_of_lem : words_of w xs ≡ words_from (w / 8) (length xs / (w / 8) + 1) (closed xs)
  unfolding words_of in_words
  words_of_lem =
      ap (λ (t : ℕ). words_from (w / 8) t (closed xs))
      (ap (count_of (w / 8)) (closed_length xs) ∙ count_closed (w / 8) (length xs / (w / 8)) (length xs) (byte_width w good).1 refl)

  pub words_count : length (words_of w xs) ≡ length xs / (w / 8) + 1
  words_count = ap length words_of_lem ∙ words_length (w / 8) (length xs / (w / 8) + 1) (closed xs)

  pub words_in_lem : words_in w xs ≡ length (words_of w xs)
  unfolding words_in
  words_in_lem = rw good

  pub checked_bytes_lem : (n : ℕ) (ks sums : List ℕ) → checked_bytes w n xs ks sums ≡ checked_sums w n (words_of w xs) ks sums
  unfolding checked_bytes
  checked_bytes_lem n ks sums = rw good

  pub checked_bytes_fit_lem : (n : ℕ) (ks : List ℕ) → checked_bytes_fit w n xs ks ≡ checked_fit false w n (words_of w xs) ks
  unfolding checked_bytes_fit
  checked_bytes_fit_lem n ks = rw good

  -- the code counts the full words and one more: these are the words that it sums, or it sums none
  module _ (c full : ℕ) (size : c ≡ w / 8) (is : full ≡ length xs / c) (n : ℕ) (ks sums : List ℕ) where
    count : full ≡ length xs / (w / 8)
    count = is ∙ ap (λ (k : ℕ). length xs / k) size

    pub bytes_none : summable w n (full + 1) (length ks) ≡ false → (false ≡ checked_bytes_fit w n xs ks) × (sums ≡ checked_bytes w n xs ks sums)
    bytes_none e =
        let words : length (words_of w xs) ≡ full + 1 = words_count ∙ ap (λ (q : ℕ). q + 1) (sym count) in
        let none = ap (λ (t : ℕ). summable w n t (length ks)) words ∙ e in
        (checked_unfit false w n (words_of w xs) ks none ∙ sym (checked_bytes_fit_lem n ks), checked_still w n (words_of w xs) ks sums none ∙ sym (checked_bytes_lem n ks sums))

    pub bytes_whole : {fit : Bool} {after : List ℕ} → (fit ≡ fit_from w n c (full + 1) xs ks) × (after ≡ sums_from w n c (full + 1) xs ks sums)
        → (fit ≡ checked_bytes_fit w n xs ks) × (after ≡ checked_bytes w n xs ks sums)
    bytes_whole h =
        let words : words_from c (full + 1) (closed xs) ≡ words_of w xs = ap₂ (λ (k t : ℕ). words_from k t (closed xs)) size (ap (λ (q : ℕ). q + 1) count) ∙ sym words_of_lem in
        (h.0 ∙ ap (λ (l : List ℕ). checked_fit false w n l ks) words ∙ sym (checked_bytes_fit_lem n ks), h.1 ∙ ap (λ (l : List ℕ). checked_sums w n l ks sums) words ∙ sym (checked_bytes_lem n ks sums))
