-- The rows that the code writes: their places, one row more, and that they are the digests.
-- Assumes nothing.
use mathlib.Core.Path.{◌≡◌, refl, sym, ap, ap₂, ◌∙◌}
use mathlib.Core.List.{List, [], ◌++◌, append_assoc, map}
use Prim.Native.Nat.{ℕ, zero, suc, ◌+◌, ◌-◌, ◌*◌, ◌%◌, ◌^◌, ◌≤◌, ◌<◌}
use native.Mathlib.Nat.{zero-add, zero-mul, suc-mul}
use native.Mathlib.Numerals.{add-one}
use native.Mathlib.Omega.{arith}
use lib.ListN.{length, get_or, take, drop, replicate, length-append, length-drop, length-replicate, get_or-replicate}
use lib.Seq.{take_at, drop_at, drop-drop, take-add, take_all, length-take-le}
use Rattle.rows.specs.Written.{tabulate}
use Rattle.rows.proofs.Written.{length_tabulate, tabulate_same, tabulate_all}
use Rattle.theory_digest.specs.Digest.{whole_sum, full_words, kept, digest}
use Rattle.theory_digest.proofs.Laws.{sum_reads_first}
use Rattle.sum_terms.proofs.Each.{sum_at_lem, sums_zero, length_full, kept_at, length_digest}
use Rattle.sum_walk.proofs.Apart.{reduced}
use Rattle.sum_peers.specs.Peers.{RowAccumulated, zeros}
use Rattle.digest_peers.specs.Peers.{row_at, peers_rows}
use Rattle.digest_peers.specs.Kept.{kept_row, kept_rows}

module _ (b n : ℕ) (rows : List (List ℕ)) where
  pub length_kept : (q : ℕ) → length (kept_rows b n q rows) ≡ q * n
  unfolding kept_rows
  length_kept zero = sym (zero-mul n)
  length_kept (suc q) =
      length-append (kept_rows b n q rows) (kept_row b n (get_or rows q []))
      ∙ ap₂ (λ (x y : ℕ). x + y) (length_kept q) (length_tabulate _ n)
      ∙ sym (suc-mul q n)

  -- one row more, where the one before it ended
  pub one_more : (q k : ℕ) (old out new : List ℕ) → k ≡ n → out ≡ kept_rows b n q rows ++ drop (q * n) old → new ≡ kept_row b n (get_or rows q [])
      → take (q * n) out ++ (new ++ drop k (drop (q * n) out)) ≡ kept_rows b n (q + 1) rows ++ drop ((q + 1) * n) old
  unfolding kept_rows
  one_more q k old out new all before wrote =
      let front : List ℕ = kept_rows b n q rows in
      let next : (q + 1) * n ≡ q * n + n = ap (λ (j : ℕ). j * n) (add-one q) ∙ suc-mul q n in
      ap₂ (λ (x y : List ℕ). x ++ (new ++ drop k y))
      (ap (take (q * n)) before ∙ take_at front (drop (q * n) old) (q * n) (length_kept q))
      (ap (drop (q * n)) before ∙ drop_at front (drop (q * n) old) (q * n) (length_kept q))
      ∙ ap₂ (λ (x y : List ℕ). front ++ (x ++ y)) wrote (ap (λ (j : ℕ). drop j (drop (q * n) old)) all ∙ drop-drop n (q * n) old ∙ ap (λ (j : ℕ). drop j old) (sym next))
      ∙ sym (append_assoc front (kept_row b n (get_or rows q [])) (drop ((q + 1) * n) old))
      ∙ ap (λ (j : ℕ). kept_rows b n j rows ++ drop ((q + 1) * n) old) (sym (add-one q))

-- a digest word by word
digest_tabulate : (w b n : ℕ) (ms ks : List ℕ) → tabulate (λ i. kept b (whole_sum w ms (drop i ks) % 2 ^ w)) n ≡ digest w b n ms ks
unfolding digest
digest_tabulate w b n ms ks =
    tabulate_same (λ i. kept b (whole_sum w ms (drop i ks) % 2 ^ w)) (λ i. get_or (map (kept b) (full_words w n ms ks)) i 0) n
    (λ i lt.
    ap (kept b) (sym (word i lt))
    ∙ sym (kept_at b n i (full_words w n ms ks) lt)
    ∙ ap (λ (l : List ℕ). get_or (map (kept b) l) i 0) (take_all n (full_words w n ms ks) (omega (arith, length_full w n ms ks))))
    ∙ tabulate_all (map (kept b) (full_words w n ms ks)) n (length_digest w b n ms ks)
  where
    word : (i : ℕ) → i < n → get_or (full_words w n ms ks) i 0 ≡ whole_sum w ms (drop i ks) % 2 ^ w
    word i lt =
        ap (λ (l : List ℕ). get_or l i 0) (sym (sums_zero w n ms ks))
        ∙ sum_at_lem w i ms ks (replicate n 0) (omega (arith, length-replicate {A = ℕ} n 0))
        ∙ ap (λ (x : ℕ). (x + whole_sum w ms (drop i ks)) % 2 ^ w) (get_or-replicate n i 0 0 lt)
        ∙ ap (λ (x : ℕ). x % 2 ^ w) (zero-add (whole_sum w ms (drop i ks)))

-- key words after those that a peer's sums read add nothing
own_key : (w i size : ℕ) (ms ks : List ℕ) → i + length ms < size → i ≤ length ks → whole_sum w ms (drop i (take size ks)) ≡ whole_sum w ms (drop i ks)
own_key w i size ms ks lt le =
    let all : i + (size - i) ≡ size = omega arith in
    ap (λ (m : ℕ). whole_sum w ms (drop i (take m ks))) (sym all)
    ∙ ap (λ (l : List ℕ). whole_sum w ms (drop i l)) (take-add i (size - i) ks)
    ∙ ap (whole_sum w ms) (drop_at (take i ks) (take (size - i) (drop i ks)) i (length-take-le i ks le))
    ∙ sum_reads_first w (size - i) ms (drop i ks) (omega arith)

module _ (w b n : ℕ) (ms ks : List ℕ) (narrow : w ≤ 32) (fewer : b ≤ w) (few : n ≤ 8) where
  -- a peer's row of sums, from zero on, as it is kept: the digest under its key
  row_digest : (q : ℕ) (row : List ℕ) → q * (length ms + n) + (length ms + n) ≤ length ks
      → RowAccumulated w n ms (drop (q * (length ms + n)) ks) (replicate 8 0) row
      → kept_row b n row ≡ digest w b n ms (row_at (length ms + n) q ks)
  unfolding kept
  row_digest q row within accumulated =
      let size : ℕ = length ms + n in
      let own : List ℕ = drop (q * size) ks in
      tabulate_same (λ i. get_or row i 0 % 2 ^ b) (λ i. whole_sum w ms (drop i (take size own)) % 2 ^ w % 2 ^ b) n
      (λ i lt.
      let sum : ℕ = whole_sum w ms (drop i own) in
      ap (λ (x : ℕ). x % 2 ^ b) (accumulated.1 i lt)
      ∙ ap (λ (x : ℕ). (x + sum) % 2 ^ 64 % 2 ^ b) (get_or-replicate 8 i 0 0 (omega arith))
      ∙ ap (λ (x : ℕ). x % 2 ^ 64 % 2 ^ b) (zero-add sum)
      ∙ reduced b 64 sum (omega arith)
      ∙ sym (reduced b w sum fewer)
      ∙ ap (λ (x : ℕ). x % 2 ^ w % 2 ^ b) (sym (own_key w i size ms own (omega arith) (omega (arith, length-drop (q * size) ks)))))
      ∙ digest_tabulate w b n ms (take size own)

  pub rows_digests : (p : ℕ) (rows : List (List ℕ)) → ((q : ℕ) → q < p → q * (length ms + n) + (length ms + n) ≤ length ks) → p ≤ 16
      → ((q : ℕ) → q < p → RowAccumulated w n ms (drop (q * (length ms + n)) ks) (get_or zeros q []) (get_or rows q []))
      → kept_rows b n p rows ≡ peers_rows w b n p ms ks
  unfolding kept_rows peers_rows
  rows_digests zero rows within few-peers accumulated = refl
  rows_digests (suc p) rows within few-peers accumulated =
      ap₂ (λ (x y : List ℕ). x ++ y)
      (rows_digests p rows (λ q lt. within q (omega arith)) (omega arith) (λ q lt. accumulated q (omega arith)))
      (row_digest p (get_or rows p []) (within p (omega arith)) (rw (get_or-replicate 16 p (replicate {A = ℕ} 8 0) [] few-peers) at (accumulated p (omega arith))))
