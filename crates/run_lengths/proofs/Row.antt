-- A row that a closure makes, and a count along a row, by its places.
use mathlib.Core.Path.{◌≡◌, refl, sym, ap, ap₂, subst, ◌∙◌}
use mathlib.Core.Bool.{Bool, true, false, cond}
use mathlib.Core.List.{List}
use mathlib.Core.Logic.{inl, inr}
use Prim.Native.Nat.{ℕ, zero, suc, ◌+◌, ◌≤◌, ◌<◌}
use native.Mathlib.Numerals.{add-one}
use native.Mathlib.Omega.{arith}
use denote.Param.Members.{Mut, Called}
use lib.ListN.{length, get_or, take}
use Rattle.std.proofs.lemmas.Bool.{cases_lt}
use Rattle.std.proofs.lemmas.List.{take_all}
use Rattle.std.proofs.lemmas.List.Sums.{sum_by_more}
use Rattle.std.specs.Array.{IsFromFnResult, IsFromFnResultFrom}
use Rattle.std.specs.List.{count_by}
use Rattle.rows.specs.Written.{tabulate}
use Rattle.rows.proofs.Written.{tabulate_same, tabulate_all}
use Rattle.theory_counts.specs.Count.{sum_to, as_number}

-- what one closure, called at each place, gives
module _ {F : Type 0} (g : Mut F (ℕ × Unit {0}) ℕ) (f : F) (h : ℕ → ℕ) (gives : (i y : ℕ) (q : F) → Called g f (i, tt) y q → (q ≡ f) × (y ≡ h i)) where
  made_from : (ys : List ℕ) (k n : ℕ) (p : F) → p ≡ f → IsFromFnResultFrom g p ys k n → (i : ℕ) → k ≤ i → i < k + n → get_or ys i 0 ≡ h i
  made_from ys k zero p e made i above below = absurd (omega arith)
  made_from ys k (suc n) p e made i above below =
      let call : (made.0 ≡ f) × (made.1 ≡ h k) = gives k made.1 made.0 (subst (λ (r : F). Called g r (k, tt) made.1 made.0) e made.3) in
      elim (cases_lt k i) [
        | inl more ↦ made_from ys (k + 1) n made.0 call.0 made.4 i (omega arith) (omega arith)
        | inr last ↦ let same : k ≡ i = omega arith in subst (λ (j : ℕ). get_or ys j 0 ≡ h j) same (made.2.1 0 ∙ call.1)
      ]

  pub made : (ys : List ℕ) (n : ℕ) → IsFromFnResult g f ys n → ys ≡ tabulate h n
  made ys n r = sym (tabulate_all ys n r.long) ∙ tabulate_same (λ i. get_or ys i 0) h n (λ i less. made_from ys 0 n f refl r.each i (omega arith) (omega arith))

-- a count of the elements that pass, by their places
one_or_none : (b : Bool) → cond b 1 0 ≡ as_number b
unfolding as_number
one_or_none true = refl
one_or_none false = refl

by_places : (p : ℕ → Bool) (xs : List ℕ) (n : ℕ) → n ≤ length xs → count_by p (take n xs) ≡ sum_to n (λ i. as_number (p (get_or xs i 0)))
unfolding sum_to
by_places p xs zero h = refl
by_places p xs (suc n) h =
    (rw add-one at (sum_by_more (λ x. cond (p x) 1 0) xs n 0 (omega arith)))
    ∙ ap₂ ◌+◌ (by_places p xs n (omega arith)) (one_or_none (p (get_or xs n 0)))

pub counted : (p : ℕ → Bool) (xs : List ℕ) (n : ℕ) → length xs ≡ n → count_by p xs ≡ sum_to n (λ i. as_number (p (get_or xs i 0)))
counted p xs n long = ap (count_by p) (sym (take_all n xs (omega arith))) ∙ by_places p xs n (omega arith)
