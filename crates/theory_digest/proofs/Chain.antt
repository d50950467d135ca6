-- n equations over a row of key words, each one word further on. If an equation does not see the upper part z of its first word, and summed over
-- its first word and the upper part of its second comes to b·2^l, then over all rows the n equations come to b^n times the rows that stay free.
-- Assumes nothing.
use mathlib.Core.Path.{◌≡◌, refl, sym, ap, ap₂, ◌∙◌}
use mathlib.Core.List.{List, [], ◌∷◌}
use Prim.Native.Nat.{ℕ, suc, ◌+◌, ◌*◌, ◌^◌}
use native.Mathlib.Nat.{mul_comm, one-mul, mul_assoc, pow-zero, pow-succ', zero-add, suc-add}
use lib.ListN.{length, drop}
use Rattle.theory_counts.specs.Count.{sum_to, over_rows}
use Rattle.theory_counts.proofs.Sums.{sum_cong, sum_const, sum_mul, sum_prod, sum_swap}
use Rattle.theory_counts.proofs.Rows.{Relation, rows_cong, rows_rel, rows_mul, rows_sum, rows_one}

-- the product of the equations d₁, d₂, .. at the row, at the row from its second word on, ..
unfoldable pub chain : (ℕ → List ℕ → ℕ) → List ℕ → List ℕ → ℕ
chain e [] ks = 1
chain e (d ∷ ds) ks = chain e ds (drop 1 ks) * e d ks

module _ (w l r : ℕ) (e : ℕ → List ℕ → ℕ) (power : 2 ^ w ≡ 2 ^ l * r)
    (blind : (d z x : ℕ) (ks : List ℕ) → e d ((z * r + x) ∷ ks) ≡ e d (x ∷ ks)) where
  chain_blind : (ds : List ℕ) (z x : ℕ) (ks : List ℕ) → chain e ds ((z * r + x) ∷ ks) ≡ chain e ds (x ∷ ks)
  unfolding chain
  chain_blind [] z x ks = refl
  chain_blind (d ∷ ds) z x ks = ap (λ (n : ℕ). chain e ds ks * n) (blind d z x ks)

  -- a sum over a whole word, by its upper part z and its lower part x
  parts : (f : ℕ → ℕ) → sum_to (2 ^ w) f ≡ sum_to (2 ^ l) (λ z. sum_to r (λ x. f (z * r + x)))
  parts f = ap (λ (n : ℕ). sum_to n f) power ∙ sum_prod (2 ^ l) r f

  -- the later equations see only the lower part of the second word
  lower : (m : ℕ) (ds : List ℕ) → over_rows w (suc m) (chain e ds) ≡ 2 ^ l * sum_to r (λ x. over_rows w m (λ ks. chain e ds (x ∷ ks)))
  unfolding over_rows
  lower m ds =
      parts (λ k. over_rows w m (λ ks. chain e ds (k ∷ ks)))
      ∙ sum_cong (2 ^ l) (λ z. sum_cong r (λ x. rows_cong w m (chain_blind ds z x)))
      ∙ sum_const (2 ^ l) (sum_to r (λ x. over_rows w m (λ ks. chain e ds (x ∷ ks))))

  -- an equation summed over its first word and the upper part of its second, x being the lower part
  weight : ℕ → ℕ → List ℕ → ℕ
  weight d x ks = sum_to (2 ^ w) (λ k. sum_to (2 ^ l) (λ z. e d (k ∷ (z * r + x) ∷ ks)))

  -- the first equation apart, summed first
  first_apart : (m d : ℕ) (ds : List ℕ) → over_rows w (suc (suc m)) (chain e (d ∷ ds)) ≡ sum_to r (λ x. over_rows w m (λ ks. chain e ds (x ∷ ks) * weight d x ks))
  unfolding over_rows chain weight
  first_apart m d ds =
      sum_cong (2 ^ w) (λ k. parts (λ k'. over_rows w m (λ ks. chain e ds (k' ∷ ks) * e d (k ∷ k' ∷ ks))) ∙ sum_cong (2 ^ l) (λ z. sum_cong r (unseen k z)) ∙ sum_swap (2 ^ l) r (cell k))
      ∙ sum_swap (2 ^ w) r (λ k x. sum_to (2 ^ l) (λ z. cell k z x))
      ∙ sum_cong r gathered
    where
      cell : ℕ → ℕ → ℕ → ℕ
      cell k z x = over_rows w m (λ ks. chain e ds (x ∷ ks) * e d (k ∷ (z * r + x) ∷ ks))

      unseen : (k z x : ℕ) → over_rows w m (λ ks. chain e ds ((z * r + x) ∷ ks) * e d (k ∷ (z * r + x) ∷ ks)) ≡ cell k z x
      unseen k z x = rows_cong w m (λ ks. ap (λ (n : ℕ). n * e d (k ∷ (z * r + x) ∷ ks)) (chain_blind ds z x ks))

      gathered : (x : ℕ) → sum_to (2 ^ w) (λ k. sum_to (2 ^ l) (λ z. cell k z x)) ≡ over_rows w m (λ ks. chain e ds (x ∷ ks) * weight d x ks)
      gathered x =
          sum_cong (2 ^ w)
          (λ k. rows_sum w m (2 ^ l) (λ z ks. chain e ds (x ∷ ks) * e d (k ∷ (z * r + x) ∷ ks)) ∙ rows_cong w m (λ ks. sum_mul (2 ^ l) (chain e ds (x ∷ ks)) (λ z. e d (k ∷ (z * r + x) ∷ ks))))
          ∙ rows_sum w m (2 ^ w) (λ k ks. chain e ds (x ∷ ks) * sum_to (2 ^ l) (λ z. e d (k ∷ (z * r + x) ∷ ks)))
          ∙ rows_cong w m (λ ks. sum_mul (2 ^ w) (chain e ds (x ∷ ks)) (λ k. sum_to (2 ^ l) (λ z. e d (k ∷ (z * r + x) ∷ ks))))

  module _ (R : Relation) (b : ℕ)
      (heavy : (d x : ℕ) (ks : List ℕ) → R.rel (sum_to (2 ^ w) (λ k. sum_to (2 ^ l) (λ z. e d (k ∷ (z * r + x) ∷ ks)))) (b * 2 ^ l)) where
    step : (m d : ℕ) (ds : List ℕ) → R.rel (over_rows w (suc (suc m)) (chain e (d ∷ ds))) (b * over_rows w (suc m) (chain e ds))
    unfolding weight
    step m d ds =
        R.trans (R.of_eq (first_apart m d ds))
        (R.trans
        (R.sum r _ _ (λ x. rows_rel R w m _ (λ ks. chain e ds (x ∷ ks) * (b * 2 ^ l)) (λ ks. R.mul (chain e ds (x ∷ ks)) (heavy d x ks))))
        (R.of_eq counted))
      where
        counted : sum_to r (λ x. over_rows w m (λ ks. chain e ds (x ∷ ks) * (b * 2 ^ l))) ≡ b * over_rows w (suc m) (chain e ds)
        counted =
            sum_cong r (λ x. rows_cong w m (λ ks. mul_comm (chain e ds (x ∷ ks)) (b * 2 ^ l)) ∙ rows_mul w m (b * 2 ^ l) (λ ks. chain e ds (x ∷ ks)))
            ∙ sum_mul r (b * 2 ^ l) (λ x. over_rows w m (λ ks. chain e ds (x ∷ ks)))
            ∙ mul_assoc b (2 ^ l) (sum_to r (λ x. over_rows w m (λ ks. chain e ds (x ∷ ks))))
            ∙ ap (λ (n : ℕ). b * n) (sym (lower m ds))

    -- over all rows of n + 1 + j words, n equations come to b^n times the 2^(w·(j + 1)) free rows
    pub chain_total : (j : ℕ) (ds : List ℕ) → R.rel (over_rows w (suc (length ds + j)) (chain e ds)) (b ^ length ds * 2 ^ (w * suc j))
    unfolding chain
    chain_total j [] =
        R.of_eq (ap (λ (n : ℕ). over_rows w (suc n) (λ ks. 1)) (zero-add j) ∙ rows_one w (suc j) ∙ sym (ap (λ (n : ℕ). n * 2 ^ (w * suc j)) (pow-zero b) ∙ one-mul (2 ^ (w * suc j))))
    chain_total j (d ∷ ds) =
        R.trans (R.of_eq (ap (λ (n : ℕ). over_rows w (suc n) (chain e (d ∷ ds))) (suc-add (length ds) j)))
        (R.trans (step (length ds + j) d ds)
        (R.trans (R.mul b (chain_total j ds))
        (R.of_eq (sym (mul_assoc b (b ^ length ds) (2 ^ (w * suc j))) ∙ ap (λ (n : ℕ). n * 2 ^ (w * suc j)) (sym (pow-succ' b (length ds)))))))

-- equations that do not look at the first word: one key word is free
pub chain_free : (w m : ℕ) (e e' : ℕ → List ℕ → ℕ) → ((d : ℕ) (ks : List ℕ) → e d ks ≡ e' d (drop 1 ks))
    → (ds : List ℕ) → over_rows w (suc m) (chain e ds) ≡ 2 ^ w * over_rows w m (chain e' ds)
unfolding over_rows chain
chain_free w m e e' h ds =
    sum_cong (2 ^ w) (λ k. rows_cong w m (λ ks. dropped ds (k ∷ ks)))
    ∙ sum_const (2 ^ w) (over_rows w m (chain e' ds))
  where
    dropped : (ds ks : List ℕ) → chain e ds ks ≡ chain e' ds (drop 1 ks)
    dropped [] ks = refl
    dropped (d ∷ ds) ks = ap₂ (λ (x y : ℕ). x * y) (dropped ds (drop 1 ks)) (h d ks)
