-- What a digest call answers by its first six tests and the range test of its words, and what a call has passed that reaches it.
use mathlib.Core.Path.{◌≡◌, sym, ◌∙◌}
use mathlib.Core.Bool.{Bool, true, cond}
use mathlib.Core.List.{List, [], ◌∷◌}
use Prim.Native.Nat.{ℕ, ◌+◌, ◌≤◌}
use native.Mathlib.Omega.{arith}
use lib.ListN.{length}
use Rattle.answers.specs.Answers.{first_of, Validates}
use Rattle.answers.specs.Table.{kept_test, count_test, long_test, key_test, tray_test, word_test}
use Rattle.answers.proofs.Validation.{passed, width_passed, count_passed, key_passed, tray_passed, refusal_stands, later_stands, word_last}
use Rattle.sum_terms.specs.Sums.{checked_fit, tests}
use Rattle.sum_terms.proofs.Summable.{Sums, checked_fit_all}
use Rattle.digest_words.specs.Call.{digest_answer, digest_tests}

pub record WordsValid (w n t : ℕ) (ks out : List ℕ) : Type 0 where
  pub can : Sums w n t (length ks)
  pub all : length ks ≡ t + n
  pub room : n ≤ length out

-- the tests after the width are the same for words and for bytes
pub after_width : (w b n t : ℕ) (ks out : List ℕ) → (1 ≤ w) × (w ≤ 32)
    → first_of (kept_test w b ∷ count_test n ∷ long_test t ∷ key_test (t + n) (length ks) ∷ tray_test n (length out) ∷ []) 0 ≡ 0
    → WordsValid w n t ks out
after_width w b n t ks out width e =
    let p₃ = passed 2 _ _ _ (passed 1 _ _ _ e).1 in
    let p₅ = passed 4 _ _ _ (passed 3 _ _ _ p₃.1).1 in
    let p₆ = passed 5 _ _ _ p₅.1 in
    let words = count_passed n p₃.0 in
    let all = key_passed (t + n) (length ks) p₅.0 in
    record {
      can = record { some_width = width.0; width = width.1; some_words = words.0; words = words.1; keys = omega arith };
      all = all;
      room = tray_passed n (length out) p₆.0;
    }

-- r is what the six tests gave
module _ (w b n : ℕ) (ms ks out : List ℕ) {r : ℕ} (j : Validates (digest_tests w b n ms ks out) r) where
  pub words_refused : (r ≡ 0 → ⊥) → r ≡ digest_answer w b n ms ks out
  unfolding digest_answer digest_tests first_of
  words_refused ne = refusal_stands (digest_tests w b n ms ks out) j (first_of (word_test w ms ks ∷ []) 0) ne

  module _ (none : r ≡ 0) where
    pub words_passed : WordsValid w n (length ms) ks out
    unfolding digest_tests
    words_passed =
        let p = passed 0 _ _ _ (sym (later_stands (digest_tests w b n ms ks out) j 0 none)) in
        after_width w b n (length ms) ks out (width_passed w p.0) p.1

    -- t is whether the words fit
    pub words_answered : {fit t : Bool} → fit ≡ checked_fit true w n ms ks → fit ≡ t → cond t 0 7 ≡ digest_answer w b n ms ks out
    unfolding digest_answer digest_tests first_of tests
    words_answered e is =
        let p = words_passed in
        word_last w ms ks (sym is ∙ e ∙ checked_fit_all true w n ms ks p.can p.all) ∙ later_stands (digest_tests w b n ms ks out) j (first_of (word_test w ms ks ∷ []) 0) none
