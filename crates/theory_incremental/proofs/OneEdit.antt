-- One edit: it adds the change in the digest, and how far it reaches, what it writes and what it looks at.
-- Assumes nothing.
use mathlib.Core.Path.{◌≡◌, refl, sym, ap, ap₂, ◌∙◌}
use mathlib.Core.Logic.{inl, inr, ⊎_elim}
use mathlib.Core.List.{List}
use Prim.Native.Nat.{ℕ, suc, ◌+◌, ◌*◌, ◌/◌, ◌%◌, ◌^◌, ◌<◌}
use native.Mathlib.Decide.{ℕ_discrete}
use native.Mathlib.Omega.{arith}
use lib.ListN.{length, get_or, set, take, drop, length-set}
use lib.Seq.{set-get_or, get_or-set_same, get_or-set_other, get_or-drop, get_or-take}
use Rattle.theory_digest.specs.Digest.{full_words}
use Rattle.answers.specs.Answers.{none_of}
use Rattle.answers.specs.Table.{bad_width}
use Rattle.answers.proofs.States.{old_state}
use Rattle.sum_terms.specs.Sums.{lack}
use Rattle.state_sums.specs.State.{settings_tests, held_sums, fit_sums, begun, updated}
use Rattle.state_sums.proofs.Shared as shared
use Rattle.incremental.specs.declared.Incremental.{Incremental}
use Rattle.incremental.specs.State.{fit_state, no_incremental, edited, edit_sums}
use Rattle.incremental.specs.Calls.{edit_tests, edit_answer, edit_state, edit_message}
use Rattle.incremental.proofs.Valid.{edits}
use Rattle.incremental.proofs.Made.{same_state}
use Rattle.theory_incremental.specs.Claims.{plus, AddsChange, reach, Reach, SameWord, WritesOnly, OnlyThere, Alike, LooksOnly, ZeroUnfit}
use Rattle.theory_incremental.proofs.Change.{edit_reads, sums_change, share, edit_at, raised}
use Rattle.theory_incremental.proofs.Edited.{either_way, Good, edited_sums, edited_good, edited_same, accepted_state, accepted_message, in_message}

-- an accepted edit of a state with eight places
module _ (s : Incremental) (ms ks : List ℕ) (place word : ℕ) (eight : length s.held.sums ≡ 8) (a : edit_answer s ms ks place word ≡ 0) where
  pub edit_good : Good s
  edit_good = record { fit = (edits s ms ks place word a).fit; eight = eight }

  pub sums_after : held_sums (edit_state s ms ks place word).held ≡ edit_sums s.held.width (get_or ms place 0) word (drop place ks) (held_sums s.held)
  sums_after = ap (λ (x : Incremental). held_sums x.held) (accepted_state s ms ks place word a) ∙ edited_sums s edit_good ms ks place word

pub adds_change : AddsChange
unfolding AddsChange
adds_change s ms ks place word eight a =
    let w : ℕ = s.held.width in
    let n : ℕ = s.held.n in
    ap (λ (l : List ℕ). plus w l (full_words w n ms ks)) (sums_after s ms ks place word eight a)
    ∙ sums_change w n ms ks (held_sums s.held) place word
    (in_message s ms ks place word (edits s ms ks place word a))
    (shared.held_sums_lem 65536 s.held (edit_good s ms ks place word eight a))
    ∙ ap (λ (l : List ℕ). plus w (held_sums s.held) (full_words w n l ks)) (sym (accepted_message s ms ks place word a))

-- one sum after an accepted edit
module _ (s : Incremental) (ms ks : List ℕ) (place word i : ℕ) (eight : length s.held.sums ≡ 8) (a : edit_answer s ms ks place word ≡ 0)
    (lt : i < s.held.n) where
  under : List ℕ
  under = drop i (drop place ks)

  sum_after : get_or (edit_state s ms ks place word).held.sums i 0
      ≡ (get_or s.held.sums i 0 + (lack s.held.width (share s.held.width (get_or ms place 0) under) + share s.held.width word under)) % 2 ^ s.held.width
  unfolding under edited updated
  sum_after =
      let w : ℕ = s.held.width in
      let m : ℕ = get_or ms place 0 in
      let held : List ℕ = held_sums s.held in
      let count : (edit_state s ms ks place word).held.n ≡ s.held.n = ap (λ (x : Incremental). x.held.n) (accepted_state s ms ks place word a) in
      let some : i < length held = omega (arith, shared.held_sums_lem 65536 s.held (edit_good s ms ks place word eight a)) in
      sym (get_or-take (edit_state s ms ks place word).held.n (edit_state s ms ks place word).held.sums i 0 (omega arith))
      ∙ ap (λ (l : List ℕ). get_or l i 0) (sums_after s ms ks place word eight a)
      ∙ edit_at w m word i (drop place ks) held some
      ∙ ap (λ (x : ℕ). (x + (lack w (share w m under) + share w word under)) % 2 ^ w) (get_or-take s.held.n s.held.sums i 0 lt)

share_reach : (w c place i : ℕ) (ks : List ℕ) → share w c (drop i (drop place ks)) ≡ reach w c (get_or ks (place + i) 0) (get_or ks (suc (place + i)) 0)
unfolding reach
share_reach w c place i ks =
    let at : (j : ℕ) → get_or (drop i (drop place ks)) j 0 ≡ get_or ks (place + (i + j)) 0 = λ j. get_or-drop i (drop place ks) j 0 ∙ get_or-drop place ks (i + j) 0 in
    let here : place + (i + 0) ≡ place + i = omega arith in
    let next : place + (i + 1) ≡ suc (place + i) = omega arith in
    ap₂ (λ (k k' : ℕ). c * k + c * k' / 2 ^ w) (at 0 ∙ ap (λ (j : ℕ). get_or ks j 0) here) (at 1 ∙ ap (λ (j : ℕ). get_or ks j 0) next)

pub edit_reach : Reach
unfolding Reach under
edit_reach s ms ks place c i eight a lt =
    let w : ℕ = s.held.width in
    let m : ℕ = get_or ms place 0 in
    let after = sum_after s ms ks place (m + c) i eight a lt in
    let r = share_reach w c place i ks in
    ⊎_elim
    (λ e. inl (after ∙ e ∙ ap (λ (x : ℕ). (get_or s.held.sums i 0 + x) % 2 ^ w) r))
    (λ e. inr (after ∙ e ∙ ap (λ (x : ℕ). (get_or s.held.sums i 0 + suc x) % 2 ^ w) r))
    (raised w m c (drop i (drop place ks)) (get_or s.held.sums i 0))

-- the eight places, after a refusal too
pub edit_eight : (s : Incremental) (ms ks : List ℕ) (place word : ℕ) → length s.held.sums ≡ 8 → length (edit_state s ms ks place word).held.sums ≡ 8
unfolding edit_state
edit_eight s ms ks place word eight =
    either_way (λ (x : Incremental) (l : List ℕ). length x.held.sums ≡ 8) (edit_answer s ms ks place word) (edited s ms ks place word) s ms ms
    (λ a. (edited_good s (edit_good s ms ks place word eight a) ms ks place word).eight)
    (λ ne. eight)

pub same_word : SameWord
unfolding SameWord edit_state edit_message
same_word s ms ks place eight =
    let m : ℕ = get_or ms place 0 in
    either_way (λ (x : Incremental) (l : List ℕ). (x ≡ s) × (l ≡ ms)) (edit_answer s ms ks place m) (edited s ms ks place m) s (set ms place m) ms
    (λ a. (edited_same s (edit_good s ms ks place m eight a) ms ks place, set-get_or ms place 0))
    (λ ne. (refl, refl))

pub only_there : OnlyThere
unfolding OnlyThere edit_message
only_there s ms ks place word =
    let answer : ℕ = edit_answer s ms ks place word in
    either_way (λ (x : Incremental) (l : List ℕ). WritesOnly answer place word ms l) answer s s (set ms place word) ms
    (λ a.
    record {
      long = length-set ms place word;
      others = λ i ne. get_or-set_other ms place i word 0 ne;
      there = λ e. get_or-set_same ms place word 0 (in_message s ms ks place word (edits s ms ks place word a));
      refused = λ ne. absurd (ne a);
    })
    (λ ne. record { long = refl; others = λ i other. refl; there = λ a. absurd (ne a); refused = λ no. refl })

module _ (s : Incremental) (ms ms' ks ks' : List ℕ) (place word : ℕ) (h : Alike s.held.n place ms ms' ks ks') where
  same_edited : Good s → edited s ms ks place word ≡ edited s ms' ks' place word
  unfolding edited
  same_edited good =
      let a = s.held in
      let change : ℕ → List ℕ → List ℕ = λ (old : ℕ) (l : List ℕ). edit_sums a.width old word l (held_sums a) in
      let reads : (old : ℕ) (l : List ℕ) → change old (take (suc a.n) l) ≡ change old l = λ old l.
      ap (λ (n : ℕ). change old (take (suc n) l)) (sym (shared.held_sums_lem 65536 a good)) ∙ edit_reads a.width old word l (held_sums a) in
      same_state
      (ap (updated a a.count)
      (sym (reads (get_or ms place 0) (drop place ks))
      ∙ ap₂ change h.there h.under
      ∙ reads (get_or ms' place 0) (drop place ks')))

  same_answer : edit_answer s ms ks place word ≡ edit_answer s ms' ks' place word
  unfolding edit_answer edit_tests
  same_answer = rw (h.long, h.there, h.words, h.under)

  same_after : length s.held.sums ≡ 8 → edit_state s ms ks place word ≡ edit_state s ms' ks' place word
  unfolding edit_state
  same_after eight = go (ℕ_discrete (edit_answer s ms ks place word) 0)
    where
      go : Dec (edit_answer s ms ks place word ≡ 0) → edit_state s ms ks place word ≡ edit_state s ms' ks' place word
      go (yes a) =
          accepted_state s ms ks place word a
          ∙ same_edited (edit_good s ms ks place word eight a)
          ∙ sym (accepted_state s ms' ks' place word (sym same_answer ∙ a))
      go (no ne) =
          old_state (edit_answer s ms ks place word) _ _ ne
          ∙ sym (old_state (edit_answer s ms' ks' place word) _ _ (λ a. ne (same_answer ∙ a)))

pub looks_only : LooksOnly
unfolding LooksOnly
looks_only s ms ms' ks ks' place word h = (same_answer s ms ms' ks ks' place word h, same_after s ms ms' ks ks' place word h)

pub zero_unfit : ZeroUnfit
unfolding ZeroUnfit fit_state fit_sums settings_tests no_incremental begun none_of bad_width
zero_unfit = refl
