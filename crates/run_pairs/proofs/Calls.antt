-- What an end compares, the digest or a code of one or two digits, is one word or one byte; and the bound on the code's count.
use Rattle.std.specs.Prelude.{None, Some}
use Rattle.run_pairs.specs.declared.Compared.{Compared}
use Rattle.run_pairs.specs.declared.Compared.TheVariants.{Digest, OneDigit, TwoDigits}
use Rattle.run_pairs.specs.Number.{number_of, digits_of}
use mathlib.Core.Path.{◌≡◌, refl, sym, ap, ◌∙◌}
use mathlib.Core.Bool.{false}
use mathlib.Core.List.{List, [], ◌∷◌, ◌++◌}
use Prim.Native.Nat.{ℕ, zero, suc, min, ◌+◌, ◌*◌, ◌/◌, ◌%◌, ◌^◌, ◌≤◌, ◌<◌}
use native.Mathlib.Nat.{zero-add, mod-mod}
use native.Mathlib.Omega.{arith}
use borrow.Author.Tests.{lt-ltb}
use lib.ListN.{length, get_or, drop, replicate}
use Rattle.theory_counts.specs.Words.{fits}
use Rattle.theory_digest.specs.Digest.{whole_sum, one_word, full_words, kept, digest}
use Rattle.sum_terms.specs.Sums.{add_sums, summable, checked_sums}
use Rattle.answers.specs.Answers.{first_of}
use Rattle.answers.specs.Table.{bad_width, bad_count, bad_words}
use Rattle.digest_code.specs.Digits.{bad_digits}
use Rattle.answers.proofs.Validation.{words_pass}
use Rattle.answers.proofs.Rows.{accepted_row}
use Rattle.digest_code.specs.Code.{code}
use Rattle.digest_code.specs.Call.{code_answer, code_row, code_tests}
use Rattle.theory_codes.specs.Claims.{largest_quotient, most_code_keys}
use Rattle.digest_code.specs.Reading.{CodeLength}
use Rattle.digest_code.proofs.Reading.{code_length}
use Rattle.theory_pairs.specs.Agree.{compared, bound_of, key_at}
use Rattle.run_pairs.specs.Values.{ValueOf}

-- the digest's word, the first of the sums
module _ {sums : List ℕ} (m key : ℕ) (added : sums ≡ checked_sums 7 1 (m ∷ []) (key_at key) (replicate 8 0)) where
  first_sum : get_or sums 0 0 ≡ one_word 7 (m ∷ []) (key_at key)
  unfolding checked_sums add_sums summable bad_width bad_count one_word
  first_sum = ap (λ (l : List ℕ). get_or l 0 0) added ∙ ap (λ (x : ℕ). x % 128) (zero-add (whole_sum 7 (m ∷ []) (key_at key)))

  pub digest_value : (d : ℕ) → d ≡ 0 → ValueOf d m key (get_or sums 0 0)
  unfolding compared digest full_words kept one_word
  digest_value d e = rw (e, first_sum) (simp mod-mod)

  pub digest_small : get_or sums 0 0 < 128
  unfolding one_word
  digest_small = omega (arith, first_sum)

compared_code : (d : ℕ) (ms ks : List ℕ) → 1 ≤ d → compared d ms ks ≡ code 7 d ms ks
unfolding compared
compared_code zero ms ks some = absurd (omega arith)
compared_code (suc d) ms ks some = refl

-- a row of one byte, whatever follows it
one_byte : (bytes rest : List ℕ) → length bytes ≡ 1 → bytes ≡ get_or (bytes ++ rest) 0 0 ∷ []
one_byte [] rest e = absurd (omega arith)
one_byte (x ∷ []) rest e = refl
one_byte (x ∷ y ∷ bytes) rest e = absurd (omega arith)

-- a code of one or two digits
module _ (m key : ℕ) (hm : m < 128) (hk : key < 16384) where
  words : bad_words 7 (m ∷ []) (key_at key) ≡ false
  unfolding fits
  words =
      words_pass 7 (m ∷ []) (key_at key)
      (rw (lt-ltb m 128 hm))
      (rw (lt-ltb (key / 128) 128 (omega arith), lt-ltb (key % 128) 128 (omega arith)))

  accepted : (d : ℕ) → 1 ≤ d → d ≤ 2 → code_answer 7 d (m ∷ []) (key_at key) (0 ∷ []) ≡ 0
  unfolding code_tests code_answer first_of bad_width bad_digits
  accepted zero some few = absurd (omega arith)
  accepted (suc zero) some few = rw words
  accepted (suc (suc zero)) some few = rw words
  accepted (suc (suc (suc d))) some few = absurd (omega arith)

  pub code_value : (d : ℕ) (row : List ℕ) → 1 ≤ d → d ≤ 2 → row ≡ code_row 7 d (m ∷ []) (key_at key) (0 ∷ []) → ValueOf d m key (get_or row 0 0)
  unfolding code_row CodeLength
  code_value d row some few e =
      let bytes : List ℕ = code 7 d (m ∷ []) (key_at key) in
      let wrote : row ≡ bytes ++ drop (length bytes) (0 ∷ []) = e ∙ accepted_row _ bytes (0 ∷ []) (accepted d some few) in
      let long : length bytes ≡ 1 = code_length 7 d (m ∷ []) (key_at key) ∙ omega arith in
      compared_code d _ _ some ∙ rw wrote (one_byte bytes _ long)

-- the bound, by the power of ten as the code has it
pub bound_of_code : (d p : ℕ) → 1 ≤ d → d ≤ 2 → p ≡ 10 ^ min d 9 → (2 * (127 / p) + 1) * 256 ≡ bound_of d
unfolding bound_of most_code_keys largest_quotient
bound_of_code zero p some few e = absurd (omega arith)
bound_of_code (suc d) p some few e = let small : min (suc d) 9 ≡ suc d = omega arith in rw (e, small)

-- the number of what is compared, by the digits of its code
pub number_none : (what : Compared) → None ≡ digits_of what → number_of what ≡ 0
number_none Digest e = refl
number_none OneDigit e = cc
number_none TwoDigits e = cc

pub number_some : (what : Compared) (d : ℕ) → Some d ≡ digits_of what → (number_of what ≡ d) × (1 ≤ d) × (d ≤ 2)
number_some Digest d e = cc
number_some OneDigit d e = let one : d ≡ 1 = cc in (sym one, omega arith, omega arith)
number_some TwoDigits d e = let two : d ≡ 2 = cc in (sym two, omega arith, omega arith)
