-- The tests inside the two counts as products of equations, one for each digest word.
-- Assumes nothing.
use mathlib.Core.Path.{◌≡◌, refl, sym, ap, ap₂, ◌∙◌}
use mathlib.Core.List.{List, [], ◌∷◌}
use Prim.Native.Nat.{ℕ, zero, suc, ◌+◌, ◌*◌, ◌%◌, ◌^◌, ◌<◌}
use native.Mathlib.Nat.{mod-mod, mod-eq_of_lt, mod-add-mod, suc-ne-zero}
use native.Mathlib.Omega.{arith}
use lib.Dec.{T, eqb}
use lib.Pow.{mod-mod-pow}
use lib.ListN.{length, drop}
use Rattle.theory_counts.specs.Words.{fits}
use Rattle.theory_digest.specs.Digest.{whole_sum, one_word, full_words, kept, digest}
use Rattle.theory_counts.specs.Count.{as_number, same_row, every, differ_by}
use Rattle.theory_counts.proofs.Congruent.{congruent}
use Rattle.theory_digest.proofs.Chain.{chain}
use Rattle.theory_counts.proofs.Tests.{both_number, fits_cons}

-- the first digest word with b bits kept is the whole sum modulo 2^b
pub kept_word : (w j b : ℕ) (ms ks : List ℕ) → w ≡ j + b → kept b (one_word w ms ks) ≡ whole_sum w ms ks % 2 ^ b
unfolding kept one_word
kept_word w j b ms ks wide = ap (λ (n : ℕ). whole_sum w ms ks % 2 ^ n % 2 ^ b) wide ∙ mod-mod-pow (whole_sum w ms ks) j b

-- the equation "the digest word is y"
abbrev pub give : ℕ → ℕ → List ℕ → ℕ → List ℕ → ℕ
give w b ms y ks = congruent (2 ^ b) (whole_sum w ms ks) y

-- the equation "the second's digest word is the first's plus d"
abbrev pub apart : ℕ → ℕ → List ℕ → List ℕ → ℕ → List ℕ → ℕ
apart w b first second d ks = congruent (2 ^ b) (whole_sum w second ks) (whole_sum w first ks + d)

module _ (w j b : ℕ) (wide : w ≡ j + b) where
  pub row_chain : (ms : List ℕ) (n : ℕ) (ys ks : List ℕ) → length ys ≡ n → T (fits b ys) → as_number (same_row (digest w b n ms ks) ys) ≡ chain (give w b ms) ys ks
  unfolding digest full_words same_row chain as_number congruent
  row_chain ms zero [] ks e t = refl
  row_chain ms zero (y ∷ ys) ks e t = absurd (suc-ne-zero (length ys) e)
  row_chain ms (suc n) [] ks e t = absurd (suc-ne-zero n (sym e))
  row_chain ms (suc n) (y ∷ ys) ks e t =
      both_number (eqb (kept b (one_word w ms ks)) y) (same_row (digest w b n ms (drop 1 ks)) ys)
      ∙ ap₂ (λ (x y : ℕ). x * y) (row_chain ms n ys (drop 1 ks) (omega arith) (fits_cons b y ys t).1) (word (fits_cons b y ys t).0)
    where
      word : y < 2 ^ b → as_number (eqb (kept b (one_word w ms ks)) y) ≡ give w b ms y ks
      word lt = ap as_number (ap₂ eqb (kept_word w j b ms ks wide) (sym (mod-eq_of_lt lt)))

  pub differ_chain : (first second : List ℕ) (n : ℕ) (ds ks : List ℕ) → length ds ≡ n
      → as_number (differ_by b n (digest w b n first ks) (digest w b n second ks) ds) ≡ chain (apart w b first second) ds ks
  unfolding digest full_words differ_by every chain as_number congruent
  differ_chain first second zero [] ks e = refl
  differ_chain first second zero (d ∷ ds) ks e = absurd (suc-ne-zero (length ds) e)
  differ_chain first second (suc n) [] ks e = absurd (suc-ne-zero n (sym e))
  differ_chain first second (suc n) (d ∷ ds) ks e =
      both_number (eqb (kept b (one_word w second ks) % 2 ^ b) ((kept b (one_word w first ks) + d) % 2 ^ b))
      (differ_by b n (digest w b n first (drop 1 ks)) (digest w b n second (drop 1 ks)) ds)
      ∙ ap₂ (λ (x y : ℕ). x * y) (differ_chain first second n ds (drop 1 ks) (omega arith)) word
    where
      word : as_number (eqb (kept b (one_word w second ks) % 2 ^ b) ((kept b (one_word w first ks) + d) % 2 ^ b)) ≡ apart w b first second d ks
      word =
          ap as_number
          (ap₂ eqb (ap (λ (n : ℕ). n % 2 ^ b) (kept_word w j b second ks wide) ∙ mod-mod (whole_sum w second ks) (2 ^ b))
          (ap (λ (n : ℕ). (n + d) % 2 ^ b) (kept_word w j b first ks wide) ∙ mod-add-mod (whole_sum w first ks) (2 ^ b) d))
