-- The first test that holds gives the answer: it stops, or it passes. What a test that passes says of the call.
use mathlib.Core.Path.{◌≡◌, refl, sym, ap, subst, ◌∙◌}
use mathlib.Core.Bool.{Bool, true, false, not, ◌&&◌, ◌||◌, cond, true≢false}
use mathlib.Core.List.{List, [], ◌∷◌, ◌++◌}
use Prim.Native.Nat.{ℕ, suc, ◌≤◌, ◌<◌}
use native.Mathlib.Omega.{arith}
use native.Mathlib.Decide.{ℕ_discrete}
use lib.Dec.{ltb, eqb}
use borrow.Author.Tests.{le-ltb, eq-eqb, ne_eqb, ltb-false, leb-false, lt-leb, eqb-true, eqb-false, not-true, not-false}
use Rattle.theory_counts.specs.Words.{fits}
use Rattle.theory_digest.specs.Settings.{InRange}
use Rattle.answers.specs.Answers.{Test, test, first_of, Validates, none_of}
use Rattle.answers.specs.Table.{bad_width, bad_byte_width, bad_kept, bad_count, too_long, bad_length, bad_key, small_tray, bad_rows, bad_words, bad_peers, bad_seed, bad_place, word_test}
use Rattle.theory_counts.proofs.Fits.{both}

-- r is what the row's function answers, x what the tests after it give
module _ (n : ℕ) (ts : List Test) (a : ℕ) {h r : Bool} where
  pub stops : r ≡ h → r ≡ true → first_of (test n h ∷ ts) a ≡ n
  unfolding first_of
  stops e t = rw (sym e ∙ t)

  pub passes : {x : ℕ} → r ≡ h → r ≡ false → first_of ts a ≡ x → first_of (test n h ∷ ts) a ≡ x
  unfolding first_of
  passes e t p = rw (sym e ∙ t) p

  -- a row whose condition is that something does not hold
  pub stops_not : r ≡ h → not r ≡ true → first_of (test n (not h) ∷ ts) a ≡ n
  unfolding first_of
  stops_not e t = rw (ap not (sym e) ∙ t)

  pub passes_not : {x : ℕ} → r ≡ h → not r ≡ false → first_of ts a ≡ x → first_of (test n (not h) ∷ ts) a ≡ x
  unfolding first_of
  passes_not e t p = rw (ap not (sym e) ∙ t) p

pub none_holds : (a : ℕ) → first_of [] a ≡ a
unfolding first_of
none_holds a = refl

-- for the search of a function that validates
pub ruleset validated = (stops, passes, stops_not, passes_not, none_holds)

-- r is what the first tests gave, x the later answer: a refusal stands, else x does
module _ (ts : List Test) {r : ℕ} (j : Validates ts r) (x : ℕ) where
  pub refusal_stands : (r ≡ 0 → ⊥) → r ≡ first_of ts x
  refusal_stands ne = sym (j x ∙ ap (λ (t : Bool). cond t x r) (ne_eqb r 0 ne))

  pub later_stands : r ≡ 0 → x ≡ first_of ts x
  later_stands e = sym (j x ∙ ap (λ (t : Bool). cond t x r) (eq-eqb r 0 e))

-- tests in two lists, one after the other: a refusal by the first stands, else the second decides
pub first_append : (xs ys : List Test) (a : ℕ) → first_of (xs ++ ys) a ≡ first_of xs (first_of ys a)
unfolding first_of
first_append [] ys a = refl
first_append (x ∷ xs) ys a = ap (cond x.holds x.number) (first_append xs ys a)

module _ (xs ys : List Test) {r : ℕ} (j : Validates xs r) where
  pub first_refuses : (r ≡ 0 → ⊥) → Validates (xs ++ ys) r
  first_refuses ne later = first_append xs ys later ∙ sym (refusal_stands xs j (first_of ys later) ne) ∙ sym (rw (ne_eqb r 0 ne))

  pub second_decides : r ≡ 0 → (later : ℕ) {x : ℕ} → first_of ys later ≡ x → first_of (xs ++ ys) later ≡ x
  second_decides e later p = first_append xs ys later ∙ sym (later_stands xs j (first_of ys later) e) ∙ p

-- Word as the last test, by whether the words fit
pub word_last : (w : ℕ) (ms ks : List ℕ) {fit : Bool} → fit ≡ (fits w ms && fits w ks) → cond fit 0 7 ≡ first_of (word_test w ms ks ∷ []) 0
unfolding first_of bad_words
word_last w ms ks {fit} e = rw (← e) (go fit)
  where
    go : (t : Bool) → ◌≡◌ {A = ℕ} (cond t 0 7) (cond (not t) 7 0)
    go true = refl
    go false = refl

-- a test that did not stop an accepted call does not hold; a is what follows the tests
pub passed : (n : ℕ) (h : Bool) (ts : List Test) (a : ℕ) → first_of (test (suc n) h ∷ ts) a ≡ 0 → (h ≡ false) × (first_of ts a ≡ 0)
unfolding first_of
passed n true ts a e = absurd (omega arith)
passed n false ts a e = (refl, e)

pub none_passed : (n : ℕ) (h : Bool) (ts : List Test) → none_of (test n h ∷ ts) ≡ true → (h ≡ false) × (none_of ts ≡ true)
unfolding none_of
none_passed n h ts e = let p = both (not h) (none_of ts) e in (not-true h p.0, p.1)

pub either : (a b : Bool) → (a || b) ≡ false → (a ≡ false) × (b ≡ false)
either true b e = absurd (true≢false e)
either false b e = (refl, e)

pub above : {x : ℕ} → (x ≡ 0 → ⊥) → 1 ≤ x
above ne = omega arith

-- for each row, what a call has passed; and that such a call passes
module _ (w : ℕ) where
  pub width_passed : bad_width w ≡ false → (1 ≤ w) × (w ≤ 32)
  unfolding bad_width
  width_passed e = let p = either (ltb w 1) (ltb 32 w) e in (ltb-false w 1 p.0, ltb-false 32 w p.1)

  pub width_passes : 1 ≤ w → w ≤ 32 → bad_width w ≡ false
  unfolding bad_width
  width_passes h k = rw (le-ltb w 1 h, le-ltb 32 w k)

  -- what holds of each of the three widths that bytes fill holds of a width that passes
  pub byte_width_passed : bad_byte_width w ≡ false → (P : ℕ → Type 0) → P 8 → P 16 → P 32 → P w
  unfolding bad_byte_width
  byte_width_passed e P at8 at16 at32 = go (ℕ_discrete w 8) (ℕ_discrete w 16) (ℕ_discrete w 32)
    where
      go : Dec (w ≡ 8) → Dec (w ≡ 16) → Dec (w ≡ 32) → P w
      go (yes p) q r = subst P (sym p) at8
      go (no p) (yes q) r = subst P (sym q) at16
      go (no p) (no q) (yes r) = subst P (sym r) at32
      go (no p) (no q) (no r) = absurd (true≢false (sym (rw (ne_eqb w 8 p, ne_eqb w 16 q, ne_eqb w 32 r)) ∙ e))

  module _ (b : ℕ) where
    pub kept_passed : bad_kept w b ≡ false → (1 ≤ b) × (b ≤ w)
    unfolding bad_kept
    kept_passed e = let p = either (eqb b 0) (ltb w b) e in (above (eqb-false b 0 p.0), ltb-false w b p.1)

    pub kept_passes : 1 ≤ b → b ≤ w → bad_kept w b ≡ false
    unfolding bad_kept
    kept_passes h k = rw (ne_eqb b 0 (λ e. omega arith), le-ltb w b k)

module _ (n : ℕ) where
  pub count_passed : bad_count n ≡ false → (1 ≤ n) × (n ≤ 8)
  unfolding bad_count
  count_passed e = let p = either (ltb n 1) (ltb 8 n) e in (ltb-false n 1 p.0, ltb-false 8 n p.1)

  pub count_passes : 1 ≤ n → n ≤ 8 → bad_count n ≡ false
  unfolding bad_count
  count_passes h k = rw (le-ltb n 1 h, le-ltb 8 n k)

  pub rows_passed : (x y : ℕ) → bad_rows n x y ≡ false → (x ≡ n) × (y ≡ n)
  unfolding bad_rows
  rows_passed x y e = let p = both (eqb x n) (eqb y n) (not-false _ e) in (eqb-true x n p.0, eqb-true y n p.1)

  pub rows_pass : (x y : ℕ) → x ≡ n → y ≡ n → bad_rows n x y ≡ false
  unfolding bad_rows
  rows_pass x y h k = rw (eq-eqb x n h, eq-eqb y n k)

module _ (p : ℕ) where
  pub peers_passed : bad_peers p ≡ false → (1 ≤ p) × (p ≤ 16)
  unfolding bad_peers
  peers_passed e = let h = either (ltb p 1) (ltb 16 p) e in (ltb-false p 1 h.0, ltb-false 16 p h.1)

  pub peers_pass : 1 ≤ p → p ≤ 16 → bad_peers p ≡ false
  unfolding bad_peers
  peers_pass h k = rw (le-ltb p 1 h, le-ltb 16 p k)

pub seed_passed : (words : ℕ) → bad_seed words ≡ false → (1 ≤ words) × (words ≤ 8)
unfolding bad_seed
seed_passed words e = let p = either (ltb words 1) (ltb 8 words) e in (ltb-false words 1 p.0, ltb-false 8 words p.1)

-- the most, or as many as are asked, against what there is
module _ (a x : ℕ) where
  pub long_passed : too_long a x ≡ false → x ≤ a
  long_passed e = ltb-false a x e

  pub long_passes : x ≤ a → too_long a x ≡ false
  long_passes h = le-ltb a x h

  pub length_passed : bad_length a x ≡ false → x ≡ a
  length_passed e = eqb-true x a (not-false _ e)

  pub length_passes : x ≡ a → bad_length a x ≡ false
  length_passes h = rw (eq-eqb x a h)

  pub key_passed : bad_key a x ≡ false → x ≡ a
  key_passed e = eqb-true x a (not-false _ e)

  pub key_passes : x ≡ a → bad_key a x ≡ false
  key_passes h = rw (eq-eqb x a h)

  pub tray_passed : small_tray a x ≡ false → a ≤ x
  tray_passed e = ltb-false x a e

  pub tray_passes : a ≤ x → small_tray a x ≡ false
  tray_passes h = le-ltb x a h

  pub place_passed : bad_place a x ≡ false → x < a
  place_passed e = leb-false a x e

  pub place_passes : x < a → bad_place a x ≡ false
  place_passes h = lt-leb a x h

module _ (w : ℕ) (ms ks : List ℕ) where
  pub words_passed : bad_words w ms ks ≡ false → (fits w ms ≡ true) × (fits w ks ≡ true)
  unfolding bad_words
  words_passed e = both (fits w ms) (fits w ks) (not-false _ e)

  pub words_pass : fits w ms ≡ true → fits w ks ≡ true → bad_words w ms ks ≡ false
  unfolding bad_words
  words_pass h k = rw (h, k)

-- settings that pass tests 1 to 3 are those in range
pub in_range : (w b n : ℕ) → bad_width w ≡ false → bad_kept w b ≡ false → bad_count n ≡ false → InRange w b n
in_range w b n hw hb hn =
    record {
      some_width = (width_passed w hw).0;
      width = (width_passed w hw).1;
      some_kept = (kept_passed w b hb).0;
      kept = (kept_passed w b hb).1;
      some_words = (count_passed n hn).0;
      words = (count_passed n hn).1;
    }
