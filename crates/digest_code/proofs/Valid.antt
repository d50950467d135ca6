-- What a call has passed, what it answers, and what an accepted one then writes.
-- Assumes nothing.
use mathlib.Core.Path.{◌≡◌, refl, sym, ap, ap₂, ◌∙◌}
use mathlib.Core.Bool.{Bool, true, cond}
use mathlib.Core.List.{List, [], ◌∷◌, ◌++◌}
use Prim.Native.Nat.{ℕ, ◌+◌, ◌/◌, ◌%◌, ◌^◌, min, ◌≤◌, ◌<◌}
use native.Mathlib.Nat.{mod-mod, pow-le-pow_right, zero-lt-suc, zero-add, mod-lt}
use native.Mathlib.Decide.{dec_le}
use native.Mathlib.Omega.{arith}
use lib.Pow.{pow_mono, pow_pos}
use lib.ListN.{length, get_or, drop, replicate}
use Rattle.theory_digest.specs.Digest.{whole_sum, one_word, full_words, kept, digest}
use Rattle.answers.specs.Answers.{first_of, Validates}
use Rattle.answers.specs.Table.{word_test}
use Rattle.answers.proofs.Validation.{refusal_stands, later_stands, word_last, passed, width_passed, key_passed, tray_passed}
use Rattle.digest_code.proofs.Passing.{digits_passed}
use Rattle.sum_terms.specs.Sums.{add_sums, checked_sums, tests, checked_fit}
use Rattle.sum_terms.proofs.Summable.{Sums, checked_fit_all}
use Rattle.sum_terms.proofs.Each.{checked_sums_lem}
use Rattle.digest_code.specs.Code.{code_number, code}
use Rattle.digest_code.specs.Call.{code_answer, code_tests}
use Rattle.digest_code.specs.Reading.{CodeLength}
use Rattle.digest_code.specs.Bytes.{last_bytes}
use Rattle.digest_code.proofs.Digits.{packed_digits}
use Rattle.digest_code.proofs.Reading.{code_below, code_length}

-- what the tests before Word have passed
pub record CodeValid (w d : ℕ) (ms ks out : List ℕ) : Type 0 where
  pub digits : d ≤ 9
  pub room : (d + 1) / 2 ≤ length out
  pub key : length ks ≡ length ms + 1
  pub sums : Sums w 1 (length ms) (length ks)

-- no word's width has room for ten digits
few_digits : (w d : ℕ) → w ≤ 32 → 10 ^ d ≤ 2 ^ w → d ≤ 9
few_digits w d narrow room = go (dec_le 10 d)
  where
    go : Dec (10 ≤ d) → d ≤ 9
    go (yes ten) = absurd (omega (arith, pow_mono narrow, pow-le-pow_right {n = 10} (zero-lt-suc 9) ten))
    go (no few) = omega arith

module _ (w d : ℕ) (ms ks out : List ℕ) where
  code_passed : first_of (code_tests w d ms ks out) 0 ≡ 0 → CodeValid w d ms ks out
  unfolding code_tests
  code_passed e =
      let p₁ = passed 0 _ _ _ e in
      let p₂ = passed 8 _ _ _ p₁.1 in
      let p₄ = passed 4 _ _ _ (passed 3 _ _ _ p₂.1).1 in
      let width = width_passed w p₁.0 in
      let key = key_passed (length ms + 1) (length ks) p₄.0 in
      record {
        digits = few_digits w d width.1 (digits_passed w d p₂.0).1;
        room = tray_passed ((d + 1) / 2) (length out) (passed 5 _ _ _ p₄.1).0;
        key = key;
        sums = record { some_width = width.0; width = width.1; some_words = omega arith; words = omega arith; keys = omega arith };
      }

  code_answer_lem : first_of (code_tests w d ms ks out) (first_of (word_test w ms ks ∷ []) 0) ≡ code_answer w d ms ks out
  unfolding code_answer
  code_answer_lem = refl

  -- r is what the tests before Word gave: a refusal, or a call that the walk answers
  module _ {r : ℕ} (validated : Validates (code_tests w d ms ks out) r) where
    pub code_refused : (r ≡ 0 → ⊥) → r ≡ code_answer w d ms ks out
    code_refused ne = refusal_stands (code_tests w d ms ks out) validated (first_of (word_test w ms ks ∷ []) 0) ne ∙ code_answer_lem

    pub code_walked : r ≡ 0 → CodeValid w d ms ks out
    code_walked e = code_passed (sym (later_stands (code_tests w d ms ks out) validated 0 e))

    pub code_answered : {fit : Bool} → r ≡ 0 → fit ≡ checked_fit true w 1 ms ks → cond fit 0 7 ≡ code_answer w d ms ks out
    unfolding tests
    code_answered e f =
        let p = code_walked e in
        word_last w ms ks (f ∙ checked_fit_all true w 1 ms ks p.sums p.key)
        ∙ later_stands (code_tests w d ms ks out) validated (first_of (word_test w ms ks ∷ []) 0) e
        ∙ code_answer_lem

-- with all bits kept the digest's one word is the one-word sum
pub whole_word : (w : ℕ) (ms ks : List ℕ) → get_or (digest w w 1 ms ks) 0 0 ≡ one_word w ms ks
unfolding digest full_words kept one_word
whole_word w ms ks = mod-mod (whole_sum w ms ks) (2 ^ w)

-- the sum that the walk leaves, from zero on
module _ (w d : ℕ) (ms ks out : List ℕ) (p : CodeValid w d ms ks out) {sums : List ℕ} (walked : sums ≡ checked_sums w 1 ms ks (replicate 8 0)) where
  sum_of : get_or sums 0 0 ≡ one_word w ms ks
  unfolding add_sums one_word
  sum_of =
      ap (λ (l : List ℕ). get_or l 0 0) (walked ∙ checked_sums_lem w 1 ms ks (replicate 8 0) p.sums)
      ∙ ap (λ (x : ℕ). x % 2 ^ w) (zero-add (whole_sum w ms ks))

  pub word_below : get_or sums 0 0 < 2 ^ 32
  unfolding one_word
  word_below = omega (arith, sum_of, mod-lt (whole_sum w ms ks) (pow_pos w), pow_mono p.sums.width)

  pub number_of : {power : ℕ} → power ≡ 10 ^ min d 9 → get_or sums 0 0 % power ≡ code_number w d ms ks
  unfolding code_number
  number_of {power} e =
      let few : min d 9 ≡ d = omega arith in
      ap₂ (λ (x n : ℕ). x % n) (sum_of ∙ sym (whole_word w ms ks)) (e ∙ ap (λ (n : ℕ). 10 ^ n) few)

-- the bytes that the loop leaves in the row
pub code_written : (w d : ℕ) (ms ks old : List ℕ)
    → last_bytes ((d + 1) / 2) (code_number w d ms ks) ++ drop ((d + 1) / 2) old ≡ code w d ms ks ++ drop (length (code w d ms ks)) old
unfolding code CodeLength
code_written w d ms ks old =
    ap₂ (λ (l : List ℕ) (n : ℕ). l ++ drop n old) (sym (packed_digits d (code_number w d ms ks) (code_below w d ms ks))) (sym (code_length w d ms ks))
