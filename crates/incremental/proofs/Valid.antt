-- What an accepted call has passed, and that such an opening passes.
use mathlib.Core.Path.{◌≡◌, sym, ◌∙◌}
use mathlib.Core.Bool.{Bool, true, ◌&&◌, cond}
use mathlib.Core.List.{List, [], ◌∷◌}
use Prim.Native.Nat.{ℕ, suc, ◌+◌, ◌≤◌, ◌<◌}
use lib.ListN.{length, get_or, take, drop}
use borrow.Author.Tests.{not-false}
use Rattle.theory_counts.specs.Words.{fits}
use Rattle.theory_digest.specs.Settings.{InRange}
use Rattle.answers.specs.Answers.{first_of, Validates}
use Rattle.answers.specs.Table.{word_test}
use Rattle.answers.proofs.Validation.{none_holds, passed, in_range, width_passes, kept_passes, count_passes, long_passed, long_passes, length_passed, key_passed, key_passes, place_passed, words_passed, words_pass, later_stands, word_last}
use Rattle.state_sums.specs.State.{settings_tests}
use Rattle.state_sums.proofs.Shared.{Fit, fit}
use Rattle.incremental.specs.declared.Incremental.{Incremental}
use Rattle.incremental.specs.State.{fit_state}
use Rattle.incremental.specs.Calls.{open_tests, open_answer, edit_tests, edit_answer}

-- an opening whose words are still to be tested
pub record Ready (w b n : ℕ) (ms ks : List ℕ) : Type 0 where
  pub settings : InRange w b n
  pub room : length ms ≤ 65536
  pub words : length ks ≡ length ms + n

-- what an accepted opening has passed
pub record Opens (w b n : ℕ) (ms ks : List ℕ) : Type 0 where
  pub settings : InRange w b n
  pub room : length ms ≤ 65536
  pub words : length ks ≡ length ms + n
  pub message : fits w ms ≡ true
  pub key : fits w ks ≡ true

module _ (w b n : ℕ) (ms ks : List ℕ) where
  -- a is what follows the tests
  got_ready : (a : ℕ) → first_of (open_tests w b n ms ks) a ≡ 0 → Ready w b n ms ks × (a ≡ 0)
  unfolding open_tests settings_tests
  got_ready a e =
      let p₁ = passed 0 _ _ _ e in
      let p₂ = passed 1 _ _ _ p₁.1 in
      let p₃ = passed 2 _ _ _ p₂.1 in
      let p₄ = passed 3 _ _ _ p₃.1 in
      let p₅ = passed 4 _ _ _ p₄.1 in (
        record {
          settings = in_range w b n p₁.0 p₂.0 p₃.0;
          room = long_passed 65536 (length ms) p₄.0;
          words = key_passed (length ms + n) (length ks) p₅.0;
        },
        sym (none_holds a) ∙ p₅.1,
      )

  pub opens : open_answer w b n ms ks ≡ 0 → Opens w b n ms ks
  unfolding open_answer
  opens e =
      let p = got_ready (first_of (word_test w ms ks ∷ []) 0) e in
      let words-fit = words_passed w ms ks (passed 6 _ _ _ p.1).0 in
      record { settings = p.0.settings; room = p.0.room; words = p.0.words; message = words-fit.0; key = words-fit.1 }

  pub opening_accepted : Opens w b n ms ks → open_answer w b n ms ks ≡ 0
  unfolding open_answer open_tests settings_tests first_of
  opening_accepted o =
      let r = o.settings in
      rw (
        width_passes w r.some_width r.width,
        kept_passes w b r.some_kept r.kept,
        count_passes n r.some_words r.words,
        long_passes 65536 (length ms) o.room,
        key_passes (length ms + n) (length ks) o.words,
        words_pass w ms ks o.message o.key,
      )

  -- r is what the tests before Word gave
  module _ {r : ℕ} (j : Validates (open_tests w b n ms ks) r) (none : r ≡ 0) where
    pub ready : Ready w b n ms ks
    ready = (got_ready 0 (sym (later_stands (open_tests w b n ms ks) j 0 none))).0

    -- t is whether the words fit
    pub word_tested : {words t : Bool} → words ≡ (fits w ms && fits w ks) → words ≡ t → cond t 0 7 ≡ open_answer w b n ms ks
    unfolding open_answer
    word_tested e is = word_last w ms ks (sym is ∙ e) ∙ later_stands (open_tests w b n ms ks) j (first_of (word_test w ms ks ∷ []) 0) none

-- what an accepted edit has passed
pub record Edits (s : Incremental) (ms ks : List ℕ) (place word : ℕ) : Type 0 where
  pub fit : Fit 65536 s.held
  pub words : length ms ≡ s.held.count
  pub keys : length ks ≡ s.held.count + s.held.n
  pub inside : place < s.held.count
  pub message : fits s.held.width (get_or ms place 0 ∷ word ∷ []) ≡ true
  pub key : fits s.held.width (take (suc s.held.n) (drop place ks)) ≡ true

pub edits : (s : Incremental) (ms ks : List ℕ) (place word : ℕ) → edit_answer s ms ks place word ≡ 0 → Edits s ms ks place word
unfolding edit_answer edit_tests fit_state
edits s ms ks place word e =
    let p₁ = passed 7 _ _ _ e in
    let p₂ = passed 3 _ _ _ p₁.1 in
    let p₃ = passed 4 _ _ _ p₂.1 in
    let p₄ = passed 11 _ _ _ p₃.1 in
    let p₅ = passed 6 _ _ _ p₄.1 in
    let Fit-words = words_passed s.held.width (get_or ms place 0 ∷ word ∷ []) (take (suc s.held.n) (drop place ks)) p₅.0 in
    record {
      fit = fit 65536 s.held (not-false _ p₁.0);
      words = length_passed s.held.count (length ms) p₂.0;
      keys = key_passed (s.held.count + s.held.n) (length ks) p₃.0;
      inside = place_passed s.held.count place p₄.0;
      message = Fit-words.0;
      key = Fit-words.1;
    }
