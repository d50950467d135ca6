-- Rows of a state: of their places the unused are zero.
use mathlib.Core.Path.{◌≡◌, refl, sym, ap, ap₂, ◌∙◌}
use mathlib.Core.Bool.{true}
use mathlib.Core.List.{List, [], ◌∷◌, ◌++◌}
use Prim.Native.Nat.{ℕ, ◌-◌, ◌≤◌}
use native.Mathlib.Nat.{suc-ne-zero}
use native.Mathlib.Omega.{arith}
use borrow.Author.Tests.{ltb-true}
use lib.Dec.{ltb}
use lib.ListN.{length, take, drop, replicate, length-append, length-drop, length-replicate}
use lib.Seq.{take_at, drop_at, length-take-le}
use Rattle.theory_counts.specs.Words.{fits}
use Rattle.theory_counts.proofs.Fits.{both, fits_parts, fits_zeros}
use Rattle.range.specs.States.{fit_row, padded}

-- the words that a row holds
pub held_length : (size n : ℕ) (row : List ℕ) → n ≤ size → length row ≡ size → length (take n row) ≡ n
held_length size n row few all = length-take-le n row (omega arith)

-- two rows of zeros of one length
pub same_zeros : (xs ys : List ℕ) → length xs ≡ length ys → fits 0 xs ≡ true → fits 0 ys ≡ true → xs ≡ ys
unfolding fits
same_zeros [] [] e hx hy = refl
same_zeros [] (y ∷ ys) e hx hy = absurd (suc-ne-zero (length ys) (sym e))
same_zeros (x ∷ xs) [] e hx hy = absurd (suc-ne-zero (length xs) e)
same_zeros (x ∷ xs) (y ∷ ys) e hx hy =
    let p = both (ltb x 1) (fits 0 xs) hx in
    let q = both (ltb y 1) (fits 0 ys) hy in
    let same : x ≡ y = omega (arith, ltb-true x 1 p.0, ltb-true y 1 q.0) in
    ap₂ (λ (z : ℕ) (zs : List ℕ). z ∷ zs) same (same_zeros xs ys (omega arith) p.1 q.1)

-- the words and the unused places of a row that fits
pub row_parts : (w n : ℕ) (row : List ℕ) → fit_row w n row ≡ true → (fits w (take n row) ≡ true) × (fits 0 (drop n row) ≡ true)
unfolding fit_row
row_parts w n row h = both (fits w (take n row)) (fits 0 (drop n row)) h

pub zeros_row : (w n m : ℕ) → fit_row w n (replicate m 0) ≡ true
unfolding fit_row
zeros_row w n m = rw ((fits_parts w n (replicate m 0) (fits_zeros w m)).0, (fits_parts 0 n (replicate m 0) (fits_zeros 0 m)).1)

module _ (size n : ℕ) (words : List ℕ) (len : length words ≡ n) (few : n ≤ size) where
  unused : List ℕ
  unused = drop (length words) (replicate size 0)

  unused_zero : fits 0 unused ≡ true
  unfolding unused
  unused_zero = (fits_parts 0 (length words) (replicate size 0) (fits_zeros 0 size)).1

  unused_places : length unused ≡ size - length words
  unfolding unused
  unused_places = length-drop (length words) (replicate {A = ℕ} size 0) ∙ ap (λ (m : ℕ). m - length words) (length-replicate size 0)

  pub padded_length : length (padded size words) ≡ size
  unfolding padded unused
  padded_length = length-append words unused ∙ omega (arith, unused_places)

  pub padded_held : take n (padded size words) ≡ words
  unfolding padded unused
  padded_held = take_at words unused n len

  pub padded_row : (w : ℕ) → fits w words ≡ true → fit_row w n (padded size words) ≡ true
  unfolding fit_row padded unused
  padded_row w h = rw (take_at words unused n len, drop_at words unused n len, h) unused_zero

  -- the row that keeps the unused places of a row whose unused places are zero
  pub padded_over : (row : List ℕ) → length row ≡ size → fits 0 (drop n row) ≡ true → words ++ drop n row ≡ padded size words
  unfolding padded unused
  padded_over row all zero =
      ap (λ (l : List ℕ). words ++ l) (same_zeros (drop n row) unused (omega (arith, length-drop n row, unused_places)) zero unused_zero)
