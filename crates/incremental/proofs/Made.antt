-- The states as the code makes them, and the key words that an edit reads.
use mathlib.Core.Path.{◌≡◌, refl, ap, subst, ap₂, ◌∙◌}
use mathlib.Core.List.{List, [], ◌∷◌, ◌++◌}
use Prim.Native.Nat.{ℕ, suc, ◌+◌, ◌-◌, min}
use native.Mathlib.Omega.{arith}
use lib.ListN.{length, get_or, take, drop, replicate, length-take, length-drop}
use Rattle.rows.proofs.Parts.{part_to_end}
use Rattle.theory_digest.specs.Digest.{full_words}
use Rattle.std.specs.Prelude.{Result}
use Rattle.answers.specs.declared.Refusal.{Refusal}
use Rattle.answers.specs.Answers.{Validates}
use Rattle.answers.specs.Refusals.{answer_of}
use Rattle.answers.specs.Table.{word_test}
use Rattle.sum_terms.specs.Sums.{add_sums, subtract_sums, checked_sums, checked_less}
use Rattle.sum_terms.proofs.Summable.{Sums}
use Rattle.sum_terms.proofs.Changes.{first_places, other_places}
use Rattle.sum_terms.proofs.Each.{length_sums, length_full, sums_zero, checked_sums_lem}
use Rattle.sum_terms.proofs.Orders.{length_less, checked_less_lem}
use Rattle.state_sums.specs.declared.Accumulator.{Accumulator}
use Rattle.state_sums.specs.State.{held_sums, begun}
use Rattle.state_sums.proofs.Shared.{Good, held_sums_lem, updated_from, begun_good, begun_held}
use Rattle.incremental.specs.declared.Incremental.{Incremental}
use Rattle.incremental.specs.State.{opened, edit_sums, edited}
use Rattle.incremental.proofs.Valid.{Ready, Edits}

pub same_state : {h h' : Accumulator} → h ≡ h' → ◌≡◌ {A = Incremental} (record { held = h }) (record { held = h' })
same_state e = ap {B = Incremental} (λ (h : Accumulator). record { held = h }) e

-- where an opening sums
pub opening_sums : (w b n : ℕ) (ms ks : List ℕ) → Ready w b n ms ks → Sums w n (length ms) (length ks)
opening_sums w b n ms ks o =
    let r = o.settings in
    record { some_width = r.some_width; width = r.width; some_words = r.some_words; words = r.words; keys = omega (arith, o.words) }

pub opened_from : (w b n : ℕ) (ms ks sums : List ℕ) → Ready w b n ms ks → sums ≡ checked_sums w n ms ks (replicate 8 0)
    → ◌≡◌ {A = Incremental} (record { held = record { width = w; kept = b; n = n; count = length ms; sums = sums } }) (opened w b n ms ks)
unfolding opened begun
opened_from w b n ms ks sums o e =
    let r = o.settings in
    let zeros : take n (replicate {A = ℕ} 8 0) ≡ replicate n 0 = begun_held 65536 w b n 0 r in
    same_state
    (updated_from 65536 (begun w b n 0) (begun_good 65536 w b n 0 r (omega arith)) (length ms) (full_words w n ms ks) (length_full w n ms ks) sums
    (e
    ∙ checked_sums_lem w n ms ks (replicate 8 0) (opening_sums w b n ms ks o)
    ∙ ap (λ (l : List ℕ). l ++ drop n (replicate 8 0)) (ap (add_sums w ms ks) zeros ∙ sums_zero w n ms ks)))

-- as the code makes it: over a begun one
pub opened_over : (w b n : ℕ) (ms ks sums : List ℕ) (held : Accumulator) → Ready w b n ms ks → held ≡ begun w b n (length ms) → sums ≡ checked_sums w n ms ks held.sums
    → ◌≡◌ {A = Incremental} (record { held = record held { sums = sums } }) (opened w b n ms ks)
unfolding begun
opened_over w b n ms ks sums held o made e = rw made (opened_from w b n ms ks sums o (rw made at e))

pub length_edit : (w old word : ℕ) (part sums : List ℕ) → length (edit_sums w old word part sums) ≡ length sums
unfolding edit_sums
length_edit w old word part sums = length_sums w (word ∷ []) _ (subtract_sums w (old ∷ []) part sums) ∙ length_less w (old ∷ []) part sums

-- a word taken off and another added, over the used places alone
corrected : (w n old word : ℕ) (part sums : List ℕ) → Sums w n 1 (length part)
    → checked_sums w n (word ∷ []) part (checked_less w n (old ∷ []) part sums) ≡ edit_sums w old word part (take n sums) ++ drop n sums
unfolding edit_sums
corrected w n old word part sums s =
    let less : List ℕ = subtract_sums w (old ∷ []) part (take n sums) in
    let long : length less ≡ min n (length sums) = length_less w (old ∷ []) part (take n sums) ∙ length-take n sums in
    ap (checked_sums w n (word ∷ []) part) (checked_less_lem w n (old ∷ []) part sums s)
    ∙ checked_sums_lem w n (word ∷ []) part (less ++ drop n sums) s
    ∙ ap₂ (λ (x y : List ℕ). add_sums w (word ∷ []) part x ++ y) (first_places n less sums long) (other_places n less sums long)

module _ (s : Incremental) (ms ks : List ℕ) (place word : ℕ) (p : Edits s ms ks place word) where
  editing_sums : Sums s.held.width s.held.n 1 (length (drop place ks))
  editing_sums =
      let r = p.fit.settings in
      record {
        some_width = r.some_width;
        width = r.width;
        some_words = r.some_words;
        words = r.words;
        keys = omega (arith, length-drop place ks, p.keys, p.inside);
      }

  -- the key comes as the part that the code lends
  pub edited_from : (held : Accumulator)
      → length s.held.sums ≡ 8
      → held ≡ record {
        width = s.held.width;
        kept = s.held.kept;
        n = s.held.n;
        count = s.held.count;
        sums = checked_sums s.held.width s.held.n (word ∷ []) (take (length ks - place) (drop place ks)) (checked_less s.held.width s.held.n (get_or ms place 0 ∷ []) (take (length ks - place) (drop place ks)) s.held.sums);
      }
      → ◌≡◌ {A = Incremental} (record { held = held }) (edited s ms ks place word)
  unfolding edited
  edited_from held eight e =
      let a = s.held in
      let good : Good 65536 a = record { fit = p.fit; eight = eight } in
      let sums = edit_sums a.width (get_or ms place 0) word (drop place ks) (held_sums a) in
      same_state
      (e
      ∙ updated_from 65536 a good a.count sums
      (length_edit a.width (get_or ms place 0) word (drop place ks) (held_sums a) ∙ held_sums_lem 65536 a good)
      _
      (rw (part_to_end (length ks) place ks refl) (corrected a.width a.n (get_or ms place 0) word (drop place ks) a.sums editing_sums)))

-- Word, of the n + 1 key words under the place as the code lends them
pub key_words : (w n place old word : ℕ) (ks : List ℕ) (r : Result Unit Refusal)
    → Validates (word_test w (old ∷ word ∷ []) (take (place + n + 1 - place) (drop place ks)) ∷ []) (answer_of r)
    → Validates (word_test w (old ∷ word ∷ []) (take (suc n) (drop place ks)) ∷ []) (answer_of r)
key_words w n place old word ks r j =
    let count : place + n + 1 - place ≡ suc n = omega arith in
    subst (λ (m : ℕ). Validates (word_test w (old ∷ word ∷ []) (take m (drop place ks)) ∷ []) (answer_of r)) count j
