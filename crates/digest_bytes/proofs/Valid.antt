-- What a call of the byte digest answers by its first six tests and the range test of its key's words, and what it has passed that reaches it.
use mathlib.Core.Path.{◌≡◌, sym, ap, ◌∙◌}
use mathlib.Core.Bool.{Bool, false, ◌&&◌, cond}
use mathlib.Core.List.{List, [], ◌∷◌}
use Prim.Native.Nat.{ℕ}
use lib.ListN.{length}
use Rattle.theory_counts.specs.Words.{fits}
use Rattle.answers.specs.Answers.{first_of, Validates}
use Rattle.answers.specs.Table.{bad_byte_width, word_test}
use Rattle.answers.proofs.Validation.{passed, refusal_stands, later_stands, word_last}
use Rattle.sum_terms.specs.Sums.{tests}
use Rattle.sum_terms.proofs.Summable.{checked_fit_all}
use Rattle.sum_bytes.specs.Bytes.{words_of, checked_bytes_fit, Bytes, BytesFit}
use Rattle.sum_bytes.proofs.FromBytes.{byte_range, bytes_fit, checked_bytes_fit_lem}
use Rattle.digest_words.proofs.Valid.{WordsValid, after_width}
use Rattle.digest_bytes.specs.Call.{bytes_answer, bytes_tests}

module _ (w b n : ℕ) (xs ks out : List ℕ) {r : ℕ} (j : Validates (bytes_tests w b n xs ks out) r) where
  pub bytes_refused : (r ≡ 0 → ⊥) → r ≡ bytes_answer w b n xs ks out
  unfolding bytes_answer bytes_tests first_of
  bytes_refused ne = refusal_stands (bytes_tests w b n xs ks out) j (first_of (word_test w (words_of w xs) ks ∷ []) 0) ne

  module _ (none : r ≡ 0) where
    -- the width is one that bytes fill
    pub bytes_passed : (bad_byte_width w ≡ false) × WordsValid w n (length (words_of w xs)) ks out
    unfolding bytes_tests
    bytes_passed =
        let p = passed 0 _ _ _ (sym (later_stands (bytes_tests w b n xs ks out) j 0 none)) in
        (p.0, after_width w b n (length (words_of w xs)) ks out (byte_range w p.0) p.1)

    pub bytes_answered : {fit t : Bool} → Bytes xs → fit ≡ checked_bytes_fit w n xs ks → fit ≡ t → cond t 0 7 ≡ bytes_answer w b n xs ks out
    unfolding bytes_answer bytes_tests first_of tests BytesFit
    bytes_answered small e is =
        let p = bytes_passed in
        let key = checked_bytes_fit_lem w xs p.0 n ks ∙ checked_fit_all false w n (words_of w xs) ks p.1.can p.1.all in
        let both = key ∙ ap (λ (t : Bool). t && fits w ks) (sym (bytes_fit w xs p.0 small)) in
        word_last w (words_of w xs) ks (sym is ∙ e ∙ both) ∙ later_stands (bytes_tests w b n xs ks out) j (first_of (word_test w (words_of w xs) ks ∷ []) 0) none
