-- What a fit state and an accepted call have passed, and that such a state and such a push pass.
use mathlib.Core.Path.{◌≡◌, sym, ◌∙◌}
use mathlib.Core.Bool.{Bool, true, ◌&&◌, cond}
use mathlib.Core.List.{List, [], ◌∷◌}
use Prim.Native.Nat.{ℕ, ◌+◌, ◌≤◌}
use lib.ListN.{length}
use borrow.Author.Tests.{not-false}
use Rattle.theory_counts.specs.Words.{fits}
use Rattle.theory_digest.specs.Settings.{InRange}
use Rattle.answers.specs.Answers.{first_of, Validates}
use Rattle.answers.specs.Table.{word_test}
use Rattle.range.specs.States.{fit_row}
use Rattle.theory_counts.proofs.Fits.{both}
use Rattle.answers.proofs.Validation.{none_holds, passed, in_range, long_passed, long_passes, key_passed, key_passes, tray_passed, words_passed, words_pass, later_stands, word_last}
use Rattle.state_sums.specs.State.{settings_tests, fit_sums}
use Rattle.state_sums.proofs.Shared as shared
use Rattle.stream.specs.declared.Stream.{Stream}
use Rattle.stream.specs.State.{fit_state}
use Rattle.stream.specs.Calls.{open_tests, open_answer, push_tests, push_answer, read_answer}

-- what a fit state has passed
pub record Fit (s : Stream) : Type 0 where
  pub held : shared.Fit 65536 s.held
  pub keys : fit_row s.held.width s.held.n s.keys ≡ true

pub fit : (s : Stream) → fit_state s ≡ true → Fit s
unfolding fit_state
fit s e =
    let p = both (fit_sums 65536 s.held) _ e in
    record { held = shared.fit 65536 s.held p.0; keys = p.1 }

pub fit_state_lem : (s : Stream) → Fit s → fit_state s ≡ true
unfolding fit_state
fit_state_lem s h = rw (shared.fit_sums_lem 65536 s.held h.held, h.keys)

-- what an accepted opening has passed
pub record Opens (w b n : ℕ) (ks : List ℕ) : Type 0 where
  pub settings : InRange w b n
  pub words : length ks ≡ n
  pub fit : fits w ks ≡ true

pub opens : (w b n : ℕ) (ks : List ℕ) → open_answer w b n ks ≡ 0 → Opens w b n ks
unfolding open_answer open_tests settings_tests
opens w b n ks e =
    let p₁ = passed 0 _ _ _ e in
    let p₂ = passed 1 _ _ _ p₁.1 in
    let p₃ = passed 2 _ _ _ p₂.1 in
    let p₄ = passed 4 _ _ _ p₃.1 in
    let p₅ = passed 6 _ _ _ (sym (none_holds _) ∙ p₄.1) in
    record {
      settings = in_range w b n p₁.0 p₂.0 p₃.0;
      words = key_passed n (length ks) p₄.0;
      fit = (words_passed w [] ks p₅.0).1;
    }

-- a push whose words are still to be tested
pub record Ready (s : Stream) (ms ks : List ℕ) : Type 0 where
  pub state : Fit s
  pub room : s.held.count + length ms ≤ 65536
  pub words : length ks ≡ length ms

-- what an accepted push has passed
pub record Takes (s : Stream) (ms ks : List ℕ) : Type 0 where
  pub ready : Ready s ms ks
  pub message : fits s.held.width ms ≡ true
  pub key : fits s.held.width ks ≡ true

module _ (s : Stream) (ms ks : List ℕ) where
  -- a is what follows the tests
  got_ready : (a : ℕ) → first_of (push_tests s ms ks) a ≡ 0 → Ready s ms ks × (a ≡ 0)
  unfolding push_tests
  got_ready a e =
      let p₁ = passed 7 _ _ a e in
      let p₂ = passed 3 _ _ a p₁.1 in
      let p₃ = passed 4 _ _ a p₂.1 in (
        record {
          state = fit s (not-false _ p₁.0);
          room = long_passed 65536 (s.held.count + length ms) p₂.0;
          words = key_passed (length ms) (length ks) p₃.0;
        },
        sym (none_holds a) ∙ p₃.1,
      )

  pub takes : push_answer s ms ks ≡ 0 → Takes s ms ks
  unfolding push_answer
  takes e =
      let p = got_ready (first_of (word_test s.held.width ms ks ∷ []) 0) e in
      let words-fit = words_passed s.held.width ms ks (passed 6 _ _ _ p.1).0 in
      record { ready = p.0; message = words-fit.0; key = words-fit.1 }

  -- and a push that passes it all is accepted
  pub taken : Takes s ms ks → push_answer s ms ks ≡ 0
  unfolding push_answer push_tests first_of
  taken h =
      rw (
        fit_state_lem s h.ready.state,
        long_passes 65536 (s.held.count + length ms) h.ready.room,
        key_passes (length ms) (length ks) h.ready.words,
        words_pass s.held.width ms ks h.message h.key,
      )

  -- r is what the tests before Word gave
  module _ {r : ℕ} (j : Validates (push_tests s ms ks) r) (none : r ≡ 0) where
    pub ready : Ready s ms ks
    ready = (got_ready 0 (sym (later_stands (push_tests s ms ks) j 0 none))).0

    -- t is whether the words fit
    pub word_tested : {words t : Bool} → words ≡ (fits s.held.width ms && fits s.held.width ks) → words ≡ t → cond t 0 7 ≡ push_answer s ms ks
    unfolding push_answer
    word_tested e is =
        word_last s.held.width ms ks (sym is ∙ e) ∙ later_stands (push_tests s ms ks) j (first_of (word_test s.held.width ms ks ∷ []) 0) none

-- what an accepted reading has passed
pub reads : (s : Stream) (out : List ℕ) → read_answer s out ≡ 0 → s.held.n ≤ length out
unfolding read_answer
reads s out e = tray_passed s.held.n (length out) (passed 5 _ _ _ (passed 7 _ _ _ e).1).0
