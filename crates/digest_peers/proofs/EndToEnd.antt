-- Rows that lie end to end: how many words they are, where row i stands, and one row more.
-- Assumes nothing.
use mathlib.Core.Path.{◌≡◌, sym, ap, ap₂, ◌∙◌}
use mathlib.Core.List.{List, ◌++◌, append_assoc}
use Prim.Native.Nat.{ℕ, zero, suc, ◌+◌, ◌*◌, ◌<◌}
use native.Mathlib.Nat.{zero-mul, suc-mul}
use native.Mathlib.Decide.{dec_lt}
use native.Mathlib.Omega.{arith}
use lib.ListN.{length, take, length-append}
use lib.Seq.{take_at, drop_at}
use Rattle.theory_digest.specs.Digest.{digest}
use Rattle.sum_terms.proofs.Each.{length_digest}
use Rattle.digest_peers.specs.Peers.{row_at, peers_rows}

module _ (w b n : ℕ) (ms ks : List ℕ) where
  pub length_rows : (p : ℕ) → length (peers_rows w b n p ms ks) ≡ p * n
  unfolding peers_rows
  length_rows zero = sym (zero-mul n)
  length_rows (suc p) =
      length-append (peers_rows w b n p ms ks) (digest w b n ms (row_at (length ms + n) p ks))
      ∙ ap₂ (λ (x y : ℕ). x + y) (length_rows p) (length_digest w b n ms (row_at (length ms + n) p ks))
      ∙ sym (suc-mul p n)

  -- row i, whatever follows the rows
  pub row_of : (p i : ℕ) (rest : List ℕ) → i < p → row_at n i (peers_rows w b n p ms ks ++ rest) ≡ digest w b n ms (row_at (length ms + n) i ks)
  unfolding peers_rows
  row_of zero i rest lt = absurd (omega arith)
  row_of (suc p) i rest lt =
      ap (row_at n i) (append_assoc (peers_rows w b n p ms ks) (row p) rest)
      ∙ go (λ less. row_of p i (row p ++ rest) less) (dec_lt i p)
    where
      row : ℕ → List ℕ
      row j = digest w b n ms (row_at (length ms + n) j ks)

      go : (i < p → row_at n i (peers_rows w b n p ms ks ++ (row p ++ rest)) ≡ row i) → Dec (i < p) → row_at n i (peers_rows w b n p ms ks ++ (row p ++ rest)) ≡ row i
      go earlier (yes less) = earlier less
      go earlier (no last) =
          let same : p ≡ i = omega arith in
          ap (take n) (drop_at (peers_rows w b n p ms ks) (row p ++ rest) (i * n) (length_rows p ∙ ap (λ (j : ℕ). j * n) same))
          ∙ take_at (row p) rest n (length_digest w b n ms (row_at (length ms + n) p ks))
          ∙ ap row same
