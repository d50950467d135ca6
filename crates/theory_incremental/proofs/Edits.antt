-- Any run of edits: sums that are true of the message stay so, and an opened state shows the edited message.
-- Assumes nothing.
use mathlib.Core.Path.{◌≡◌, refl, sym, ap, ap₂, subst, ◌∙◌}
use mathlib.Core.Bool.{true}
use mathlib.Core.List.{List, [], ◌∷◌, map}
use Prim.Native.Nat.{ℕ, ◌+◌}
use native.Mathlib.Omega.{arith}
use lib.ListN.{length, get_or, set, take, drop, replicate, length-set}
use Rattle.theory_counts.specs.Words.{fits}
use Rattle.theory_digest.specs.Digest.{full_words, kept, digest}
use Rattle.answers.specs.Answers.{first_of, afterwards}
use Rattle.answers.proofs.Validation.{width_passes, kept_passes, count_passes, long_passes, key_passes, words_pass}
use Rattle.answers.proofs.States.{new_state}
use Rattle.range.specs.States.{padded}
use Rattle.range.proofs.States.{padded_held}
use Rattle.sum_terms.proofs.Each.{length_full, sums_zero, sums_fit}
use Rattle.digest_words.specs.Call.{digest_answer, digest_row, digest_tests}
use Rattle.state_sums.specs.State.{held_sums, begun, updated, reading}
use Rattle.state_sums.proofs.Shared as shared
use Rattle.incremental.specs.declared.Incremental.{Incremental}
use Rattle.incremental.specs.State.{fit_state, opened, edited, edit_sums}
use Rattle.incremental.specs.Calls.{open_answer, open_state, edit_answer, edit_state, edit_message, read_answer, read_row}
use Rattle.incremental.proofs.Valid.{Opens, opens, opening_accepted, Edits, edits}
use Rattle.incremental.proofs.Made.{same_state}
use Rattle.theory_incremental.specs.Edits.{Edit, state_after_edits, message_after_edits}
use Rattle.theory_incremental.specs.Claims.{TrueOf, StaysTrue, SameSettings, OnlySums, Shows, EditedReads, TrueReads}
use Rattle.theory_incremental.proofs.Change.{full_edited}
use Rattle.theory_incremental.proofs.Edited.{either_way, Good, in_message, set_fits, second_fits}

-- what holds of a state and its message, and after each accepted edit again, holds after any edits
pub run : (P : Incremental → List ℕ → Type 0) (ks : List ℕ)
    → ((s : Incremental) (ms : List ℕ) (place word : ℕ) → Edits s ms ks place word → P s ms → P (edited s ms ks place word) (set ms place word))
    → (s : Incremental) (ms : List ℕ) (es : List Edit) → P s ms → P (state_after_edits s ms ks es) (message_after_edits s ms ks es)
unfolding state_after_edits message_after_edits edit_state edit_message
run P ks step s ms [] h = h
run P ks step s ms (e ∷ es) h =
    run P ks step (edit_state s ms ks e.place e.word) (edit_message s ms ks e.place e.word) es
    (either_way P (edit_answer s ms ks e.place e.word) (edited s ms ks e.place e.word) s (set ms e.place e.word) ms
    (λ a. step s ms e.place e.word (edits s ms ks e.place e.word a) h)
    (λ ne. h))

-- true sums, one word replaced
pub true_edited : (s : Incremental) (ms ks : List ℕ) (place word : ℕ) → Edits s ms ks place word → TrueOf s ms ks
    → TrueOf (edited s ms ks place word) (set ms place word) ks
unfolding TrueOf edited updated
true_edited s ms ks place word e h =
    let w : ℕ = s.held.width in
    let n : ℕ = s.held.n in
    let held : held_sums s.held ≡ full_words w n ms ks = ap (take n) h ∙ padded_held 8 n (full_words w n ms ks) (length_full w n ms ks) e.fit.settings.words in
    ap (padded 8) (ap (edit_sums w (get_or ms place 0) word (drop place ks)) held ∙ full_edited w n ms ks place word (in_message s ms ks place word e))

pub stays_true : StaysTrue
unfolding StaysTrue
stays_true s ms ks es h = run (λ s ms. TrueOf s ms ks) ks (λ s ms place word e t. true_edited s ms ks place word e t) s ms es h

pub only_sums : OnlySums
unfolding OnlySums edited updated
only_sums s ms ks es =
    run (λ x l. SameSettings x s) ks
    (λ x l place word e h. record { width = h.width; kept = h.kept; n = h.n; count = h.count })
    s ms es (record { width = refl; kept = refl; n = refl; count = refl })

-- an opened state, and one that was edited since, is the opened one of its message
module _ (w b n : ℕ) (ks : List ℕ) where
  pub record Opened (s : Incremental) (ms : List ℕ) : Type 0 where
    pub state : s ≡ opened w b n ms ks
    pub opens : Opens w b n ms ks

  edited_opened : (ms : List ℕ) (place word : ℕ) → Edits (opened w b n ms ks) ms ks place word
      → edited (opened w b n ms ks) ms ks place word ≡ opened w b n (set ms place word) ks
  unfolding edited opened updated begun
  edited_opened ms place word e =
      let held = padded_held 8 n (full_words w n ms ks) (length_full w n ms ks) e.fit.settings.words in
      same_state
      (shared.same_sums (begun w b n 0) (sym (length-set ms place word))
      (ap (padded 8)
      (ap (edit_sums w (get_or ms place 0) word (drop place ks)) held
      ∙ full_edited w n ms ks place word (in_message (opened w b n ms ks) ms ks place word e))))

  opened_edited : (s : Incremental) (ms : List ℕ) (place word : ℕ) → Edits s ms ks place word → Opened s ms
      → Opened (edited s ms ks place word) (set ms place word)
  unfolding opened updated begun
  opened_edited s ms place word e h =
      let o = h.opens in
      let e' : Edits (opened w b n ms ks) ms ks place word = subst (λ (s : Incremental). Edits s ms ks place word) h.state e in
      record {
        state = ap (λ (s : Incremental). edited s ms ks place word) h.state ∙ edited_opened ms place word e';
        opens =
            record {
              settings = o.settings;
              room = omega (arith, length-set ms place word, o.room);
              words = o.words ∙ ap (λ (t : ℕ). t + n) (sym (length-set ms place word));
              message = set_fits w ms place word (second_fits w (get_or ms place 0) word e'.message) o.message;
              key = o.key;
            };
      }

  -- it shows its message
  module _ (ms : List ℕ) (o : Opens w b n ms ks) where
    full_fits : fits w (full_words w n ms ks) ≡ true
    full_fits = ap (fits w) (sym (sums_zero w n ms ks)) ∙ sums_fit w ms ks (replicate n 0)

    begun_good : shared.Good 65536 (begun w b n 0)
    begun_good = shared.begun_good 65536 w b n 0 o.settings (omega arith)

    pub opened_good : Good (opened w b n ms ks)
    unfolding opened begun
    opened_good = shared.updated_good 65536 (begun w b n 0) begun_good (length ms) (full_words w n ms ks) (length_full w n ms ks) o.room full_fits

    opened_words : reading (opened w b n ms ks).held ≡ digest w b n ms ks
    unfolding reading digest opened updated begun
    opened_words = ap (map (kept b)) (padded_held 8 n (full_words w n ms ks) (length_full w n ms ks) o.settings.words)

    -- of both calls only Tray is left to hold
    opened_answer : (out : List ℕ) → read_answer (opened w b n ms ks) out ≡ digest_answer w b n ms ks out
    unfolding read_answer fit_state digest_tests digest_answer first_of opened updated begun
    opened_answer out =
        let r = o.settings in
        rw (
          shared.fit_sums_lem 65536 (opened w b n ms ks).held opened_good.fit,
          width_passes w r.some_width r.width,
          kept_passes w b r.some_kept r.kept,
          count_passes n r.some_words r.words,
          long_passes 65536 (length ms) o.room,
          key_passes (length ms + n) (length ks) o.words,
          words_pass w ms ks o.message o.key,
        )

    opened_row : (out : List ℕ) → read_row (opened w b n ms ks) out ≡ digest_row w b n ms ks out
    unfolding read_row digest_row
    opened_row out = ap₂ (λ (a : ℕ) (l : List ℕ). afterwards a l out) (opened_answer out) opened_words

    opened_shows : Shows w b n (opened w b n ms ks) ms ks
    unfolding open_state
    opened_shows =
        let accepts = opening_accepted w b n ms ks o in
        record { accepts = accepts; state = sym (new_state (open_answer w b n ms ks) _ _ accepts); words = opened_words; answer = opened_answer; row = opened_row }

  shows : (s : Incremental) (ms : List ℕ) → Opened s ms → Shows w b n s ms ks
  shows s ms h = subst (λ (s : Incremental). Shows w b n s ms ks) (sym h.state) (opened_shows ms h.opens)

  -- after any edits of an opened state
  pub edits_opened : (ms : List ℕ) (es : List Edit) → open_answer w b n ms ks ≡ 0
      → Opened (state_after_edits (open_state w b n ms ks) ms ks es) (message_after_edits (open_state w b n ms ks) ms ks es)
  unfolding open_state
  edits_opened ms es a =
      run Opened ks opened_edited (open_state w b n ms ks) ms es (record { state = new_state (open_answer w b n ms ks) _ _ a; opens = opens w b n ms ks a })

pub edited_reads : EditedReads
unfolding EditedReads
edited_reads w b n ms ks es a = shows w b n ks _ _ (edits_opened w b n ks ms es a)

pub true_reads : TrueReads
unfolding TrueReads TrueOf opened updated begun fit_state
true_reads s ms ks fit h words keys message key =
    let a = s.held in
    let f = shared.fit 65536 a fit in
    shows a.width a.kept a.n ks s ms
    (record {
      state = same_state (shared.same_sums a (sym words) h);
      opens = record { settings = f.settings; room = omega (arith, f.count); words = omega arith; message = message; key = key };
    })
