-- The shared part of a state and its words in a row.
use mathlib.Core.Path.{◌≡◌, refl, ap}
use mathlib.Core.List.{List, [], ◌∷◌, ◌++◌}
use Prim.Native.Nat.{ℕ}
use native.Mathlib.Omega.{arith}
use lib.ListN.{length}
use Rattle.state_rows.proofs.Pieces.{piece_here}
use Rattle.state_sums.specs.declared.Accumulator.{Accumulator}
use Rattle.state_sums.specs.Rows.{sums_row, sums_of}

module _ (a : Accumulator) (eight : length a.sums ≡ 8) where
  pub row_length : length (sums_row a) ≡ 12
  unfolding sums_row
  row_length = omega (arith, eight)

  -- it is read as it was written, whatever follows
  pub sums_kept : (rest : List ℕ) → sums_of (sums_row a ++ rest) ≡ a
  unfolding sums_row sums_of
  sums_kept rest =
      ap {B = Accumulator} (λ (l : List ℕ). record { width = a.width; kept = a.kept; n = a.n; count = a.count; sums = l })
      (piece_here (a.width ∷ a.kept ∷ a.n ∷ a.count ∷ []) a.sums rest 8 4 refl eight)
