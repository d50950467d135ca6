-- Rows of sums: one word more, and a message in two parts.
-- Assumes nothing.
use Rattle.std.proofs.Common.{◌≡◌, ℕ, suc, ◌+◌, ◌*◌, ◌%◌, ◌^◌, ◌<◌, ◌≤◌, List, [], ◌∷◌, ◌++◌, length, get_or, take, drop, set, replicate, sym, refl, ap, ◌∙◌, subst, ap₂, le_refl, add_assoc, arith, length-set, get_or-set_other, get_or-set_same, length-take-le, drop-cons, take-add, take-suc, add-one}
use native.Mathlib.Nat.{add-mod, mod-add-mod}
use native.Mathlib.Decide.{ℕ_discrete}
use lib.ListN.{length-replicate, get_or-replicate}
use Rattle.theory_digest.specs.Digest.{whole_sum}
use Rattle.theory_digest.proofs.Laws.{sum_append}
use Rattle.sum_terms.proofs.Each.{drop_swap}
use Rattle.sum_walk.specs.Walk.{added}
use Rattle.sum_walk.proofs.PartialSum.{word_sum}
use Rattle.sum_peers.specs.Peers.{RowAccumulated, RowsAccumulated, zeros}

-- what one word more adds, as the code makes it: modulo 2^64 at each step
pub word_added : (w : ℕ) (ms ks : List ℕ) (j : ℕ) {sum more : ℕ} → j < length ms
    → sum ≡ whole_sum w (take j ms) ks % 2 ^ 64
    → more ≡ added w ks j (get_or ms j 0) % 2 ^ 64
    → (sum + more) % 2 ^ 64 ≡ whole_sum w (take (j + 1) ms) ks % 2 ^ 64
word_added w ms ks j lt e₁ e₂ =
    let m : ℕ = get_or ms j 0 in
    let before : ℕ = whole_sum w (take j ms) ks in
    ap₂ (λ (x y : ℕ). (x + y) % 2 ^ 64) e₁ e₂
    ∙ sym (add-mod before (added w ks j m) (2 ^ 64))
    ∙ ap (λ (x : ℕ). (before + x) % 2 ^ 64) (word_sum w m ks j ∙ ap (λ (k : ℕ). whole_sum w (m ∷ []) (drop k ks)) (sym (length-take-le j ms (omega arith))))
    ∙ ap (λ (x : ℕ). x % 2 ^ 64) (sym (sum_append w (take j ms) (m ∷ []) ks))
    ∙ ap (λ (l : List ℕ). whole_sum w l ks % 2 ^ 64) (sym (take-suc ms j 0 lt) ∙ ap (λ (k : ℕ). take k ms) (sym (add-one j)))

module _ (w n : ℕ) where
  -- no message, from zero on
  accumulated_none : (ks : List ℕ) → n ≤ 8 → RowAccumulated w n [] ks (replicate 8 0) (replicate 8 0)
  unfolding whole_sum
  accumulated_none ks few =
      (length-replicate {A = ℕ} 8 0, λ i lt. rw (get_or-replicate {A = ℕ} 8 i 0 0 (omega arith)) refl, λ i le. refl)

  -- a message in two parts: the second goes on where the first left the key
  pub accumulated_append : (a b ks rest old mid new : List ℕ) → rest ≡ drop (length a) ks
      → RowAccumulated w n a ks old mid
      → RowAccumulated w n b rest mid new
      → RowAccumulated w n (a ++ b) ks old new
  accumulated_append a b ks rest old mid new e first second = (
    second.0,
    λ i lt.
        let x : ℕ = whole_sum w a (drop i ks) in
        let y : ℕ = whole_sum w b (drop (length a) (drop i ks)) in
        let part : drop i rest ≡ drop (length a) (drop i ks) = ap (drop i) e ∙ drop_swap i (length a) ks in
        second.1 i lt
        ∙ ap (λ (l : List ℕ). (get_or mid i 0 + whole_sum w b l) % 2 ^ 64) part
        ∙ ap (λ (z : ℕ). (z + y) % 2 ^ 64) (first.1 i lt)
        ∙ mod-add-mod (get_or old i 0 + x) (2 ^ 64) y
        ∙ ap (λ (z : ℕ). z % 2 ^ 64) (add_assoc (get_or old i 0) x y ∙ ap (λ (z : ℕ). get_or old i 0 + z) (sym (sum_append w a b (drop i ks)))),
    λ i le. second.2 i le ∙ first.2 i le,
  )

  -- the same for every row
  pub all_none : (size : ℕ) (ks : List ℕ) (p : ℕ) → n ≤ 8 → p ≤ 16 → RowsAccumulated w n p size [] ks zeros zeros
  all_none size ks p few peers = (
    length-replicate {A = List ℕ} 16 (replicate 8 0),
    λ q lt. rw (get_or-replicate {A = List ℕ} 16 q (replicate 8 0) [] (omega arith)) (accumulated_none (drop (q * size) ks) few),
    λ q le. refl,
  )

  module _ (size : ℕ) (ms ks : List ℕ) (old : List (List ℕ)) where
    -- rows peer by peer
    pub one_accumulated : (q : ℕ) (part row : List ℕ) (rows : List (List ℕ)) → q < 16 → part ≡ drop (q * size) ks
        → RowsAccumulated w n q size ms ks old rows
        → RowAccumulated w n ms part (get_or rows q []) row
        → RowsAccumulated w n (q + 1) size ms ks old (set rows q row)
    one_accumulated q part row rows lt lent h one = (
      length-set rows q row ∙ h.0,
      λ i less. go i less (ℕ_discrete i q),
      λ i le. get_or-set_other rows q i row [] (λ e. omega arith) ∙ h.2 i (omega arith),
    )
      where
        go : (i : ℕ) → i < q + 1 → Dec (i ≡ q) → RowAccumulated w n ms (drop (i * size) ks) (get_or old i []) (get_or (set rows q row) i [])
        go i less (yes same) =
            subst (λ (j : ℕ). RowAccumulated w n ms (drop (j * size) ks) (get_or old j []) (get_or (set rows q row) j [])) (sym same)
            (rw (get_or-set_same rows q row [] (omega (arith, h.0)), ← lent, ← h.2 q (le_refl q)) one)
        go i less (no other) = rw (get_or-set_other rows q i row [] other) (h.1 i (omega arith))

    -- a message in two parts
    pub all_append : (p : ℕ) (more rest : List ℕ) (mid new : List (List ℕ)) → rest ≡ drop (length ms) ks
        → RowsAccumulated w n p size ms ks old mid
        → RowsAccumulated w n p size more rest mid new
        → RowsAccumulated w n p size (ms ++ more) ks old new
    all_append p more rest mid new e first second = (
      second.0,
      λ q lt. accumulated_append ms more (drop (q * size) ks) (drop (q * size) rest) (get_or old q []) (get_or mid q []) (get_or new q [])
          (ap (drop (q * size)) e ∙ drop_swap (q * size) (length ms) ks)
          (first.1 q lt)
          (second.1 q lt),
      λ q le. second.2 q le ∙ first.2 q le,
    )

-- a message that is not cut into pairs: the two words from j on
module _ (ms : List ℕ) (j : ℕ) (within : j + 1 < length ms) where
  with_two : take (j + 2) ms ≡ take j ms ++ (get_or ms j 0 ∷ get_or ms (j + 1) 0 ∷ [])
  with_two =
      let here = drop-cons ms j 0 (omega arith) ∙ ap (λ (l : List ℕ). get_or ms j 0 ∷ l) (drop-cons ms (suc j) 0 (omega arith)) in
      take-add j 2 ms
      ∙ ap (λ (l : List ℕ). take j ms ++ take 2 l) here
      ∙ ap (λ (k : ℕ). take j ms ++ (get_or ms j 0 ∷ get_or ms k 0 ∷ [])) (sym (add-one j))

  pub pair_added : (w n p size : ℕ) (ks rest : List ℕ) (old mid new : List (List ℕ)) → rest ≡ drop j ks
      → RowsAccumulated w n p size (take j ms) ks old mid
      → RowsAccumulated w n p size (get_or ms j 0 ∷ get_or ms (j + 1) 0 ∷ []) rest mid new
      → RowsAccumulated w n p size (take (j + 2) ms) ks old new
  pair_added w n p size ks rest old mid new after before pair =
      let taken : length (take j ms) ≡ j = length-take-le j ms (omega arith) in
      rw with_two
      (all_append w n size (take j ms) ks old p (get_or ms j 0 ∷ get_or ms (j + 1) 0 ∷ []) rest mid new (after ∙ ap (λ (k : ℕ). drop k ks) (sym taken)) before pair)
