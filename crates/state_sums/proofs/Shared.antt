-- The shared part of a state: what a fit one has passed, how it stays fit, and what a reading writes.
use mathlib.Core.Path.{◌≡◌, refl, sym, ap, ◌∙◌}
use mathlib.Core.Bool.{Bool, true, false, not, cond}
use mathlib.Core.List.{List, [], ◌∷◌, ◌++◌}
use Prim.Native.Nat.{ℕ, ◌≤◌}
use native.Mathlib.Omega.{arith}
use native.Mathlib.Decide.{ℕ_discrete}
use lib.Dec.{eqb}
use lib.ListN.{length, take, drop, replicate, length-replicate, length-take, take-append-drop}
use lib.Seq.{length-take-le}
use borrow.Author.Tests.{not-true, eq-eqb, ne_eqb}
use Rattle.rows.specs.Written.{over}
use Rattle.rows.proofs.Written.{over_fits}
use Rattle.theory_counts.specs.Words.{fits}
use Rattle.theory_counts.proofs.Fits.{both, fits_parts, fits_zeros}
use Rattle.theory_digest.specs.Digest.{kept}
use Rattle.theory_digest.specs.Settings.{InRange}
use Rattle.answers.specs.Answers.{test, first_of, Validates, none_of}
use Rattle.answers.specs.Table.{too_long, bad_width, bad_kept, bad_count}
use Rattle.answers.proofs.Validation.{none_passed, in_range, width_passes, kept_passes, count_passes, long_passed, long_passes}
use Rattle.range.specs.States.{fit_row}
use Rattle.range.proofs.States.{held_length, same_zeros, row_parts, zeros_row, padded_length, padded_held, padded_row, padded_over}
use Rattle.sum_terms.proofs.Each.{length_map}
use Rattle.state_sums.specs.declared.Accumulator.{Accumulator}
use Rattle.state_sums.specs.State.{settings_tests, held_sums, fit_sums, begun, updated, reading}

-- the settings' tests as the code makes them: r is the number of the first that refuses, else 0
pub settings_none : (w b n r : ℕ) → Validates (settings_tests w b n) r → none_of (settings_tests w b n) ≡ eqb r 0
unfolding settings_tests none_of first_of
settings_none w b n r j = numbers (bad_width w) (bad_kept w b) (bad_count n) ∙ ap (λ (x : ℕ). eqb x 0) (j 0) ∙ zero (ℕ_discrete r 0)
  where
    numbers : (x y z : Bool) → none_of (test 1 x ∷ test 2 y ∷ test 3 z ∷ []) ≡ eqb (first_of (test 1 x ∷ test 2 y ∷ test 3 z ∷ []) 0) 0
    numbers true y z = refl
    numbers false true z = refl
    numbers false false true = refl
    numbers false false false = refl

    zero : Dec (r ≡ 0) → eqb (cond (eqb r 0) 0 r) 0 ≡ eqb r 0
    zero (yes e) = rw (eq-eqb r 0 e)
    zero (no ne) = rw (ne_eqb r 0 ne) (ne_eqb r 0 ne)

-- what a fit one has passed, and that such a one passes
pub record Fit (most : ℕ) (a : Accumulator) : Type 0 where
  pub settings : InRange a.width a.kept a.n
  pub count : a.count ≤ most
  pub sums : fit_row a.width a.n a.sums ≡ true

module _ (most : ℕ) (a : Accumulator) where
  pub fit : fit_sums most a ≡ true → Fit most a
  unfolding fit_sums settings_tests
  fit e =
      let p = both _ _ e in
      let p₁ = none_passed 1 _ _ p.0 in
      let p₂ = none_passed 2 _ _ p₁.1 in
      let p₃ = none_passed 3 _ _ p₂.1 in
      let q = both (not (too_long most a.count)) _ p.1 in
      record {
        settings = in_range a.width a.kept a.n p₁.0 p₂.0 p₃.0;
        count = long_passed most a.count (not-true _ q.0);
        sums = q.1;
      }

  pub fit_sums_lem : Fit most a → fit_sums most a ≡ true
  unfolding fit_sums settings_tests none_of
  fit_sums_lem h =
      let r = h.settings in
      rw (
        width_passes a.width r.some_width r.width,
        kept_passes a.width a.kept r.some_kept r.kept,
        count_passes a.n r.some_words r.words,
        long_passes most a.count h.count,
        h.sums,
      )

-- a fit one with its eight places
pub record Good (most : ℕ) (a : Accumulator) : Type 0 where
  pub fit : Fit most a
  pub eight : length a.sums ≡ 8

pub same_sums : (a : Accumulator) {count count' : ℕ} {sums sums' : List ℕ} → count ≡ count' → sums ≡ sums'
    → ◌≡◌ {A = Accumulator} (record { width = a.width; kept = a.kept; n = a.n; count = count; sums = sums }) (record { width = a.width; kept = a.kept; n = a.n; count = count'; sums = sums' })
same_sums a e f = cc

module _ (most : ℕ) (a : Accumulator) (good : Good most a) where
  few : a.n ≤ 8
  few = good.fit.settings.words

  pub held_sums_lem : length (held_sums a) ≡ a.n
  held_sums_lem = held_length 8 a.n a.sums few good.eight

  -- an update with the count and the sums that it has
  pub updated_same : updated a a.count (held_sums a) ≡ a
  unfolding updated
  updated_same =
      same_sums a refl
      (sym (padded_over 8 a.n (held_sums a) held_sums_lem few a.sums good.eight (row_parts a.width a.n a.sums good.fit.sums).1)
      ∙ take-append-drop a.n a.sums)

  module _ (count : ℕ) (sums : List ℕ) (len : length sums ≡ a.n) where
    pub updated_held : held_sums (updated a count sums) ≡ sums
    unfolding updated
    updated_held = padded_held 8 a.n sums len few

    pub updated_good : count ≤ most → fits a.width sums ≡ true → Good most (updated a count sums)
    unfolding updated
    updated_good room h =
        record {
          fit = record { settings = good.fit.settings; count = room; sums = padded_row 8 a.n sums len few a.width h };
          eight = padded_length 8 a.n sums len few;
        }

    -- as the code makes it: sums over the used places alone
    pub updated_from : (row : List ℕ) → row ≡ sums ++ drop a.n a.sums
        → ◌≡◌ {A = Accumulator} (record { width = a.width; kept = a.kept; n = a.n; count = count; sums = row }) (updated a count sums)
    unfolding updated
    updated_from row e =
        same_sums a refl (e ∙ padded_over 8 a.n sums len few a.sums good.eight (row_parts a.width a.n a.sums good.fit.sums).1)

-- at opening
module _ (most w b n count : ℕ) (r : InRange w b n) where
  pub begun_good : count ≤ most → Good most (begun w b n count)
  unfolding begun
  begun_good room = record { fit = record { settings = r; count = room; sums = zeros_row w n 8 }; eight = refl }

  pub begun_held : held_sums (begun w b n count) ≡ replicate n 0
  unfolding begun
  begun_held =
      same_zeros (take n (replicate 8 0)) (replicate n 0)
      (length-take-le n (replicate 8 0) r.words ∙ sym (length-replicate n 0))
      (fits_parts 0 n (replicate 8 0) (fits_zeros 0 8)).0
      (fits_zeros 0 n)

-- a reading into a row that has the places
pub read_written : (a : Accumulator) (out row : List ℕ) → a.n ≤ length out → row ≡ over (reading a) out → row ≡ reading a ++ drop (length (reading a)) out
unfolding reading
read_written a out row room e =
    e ∙ over_fits (reading a) out (omega (arith, length_map (kept a.kept) (held_sums a), length-take a.n a.sums))
