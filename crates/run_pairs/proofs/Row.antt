-- A row that a closure makes, a count along a row, the row of the pairs' numbers, and its first largest number.
use mathlib.Core.Path.{◌≡◌, refl, ◌∙◌, ap, ap₂, sym, subst, subst⁻¹}
use mathlib.Core.Bool.{Bool, true, false, cond}
use mathlib.Core.List.{List}
use mathlib.Core.Logic.{inl, inr}
use Prim.Native.Nat.{ℕ, zero, suc, ◌+◌, ◌*◌, ◌/◌, ◌%◌, ◌≤◌, ◌<◌}
use native.Mathlib.Numerals.{add-one}
use native.Mathlib.Omega.{arith}
use borrow.Author.Count.{below_more}
use borrow.Author.Tests.{ne_eqb}
use denote.Param.Members.{Mut, Called}
use lib.ListN.{length, get_or, set, take}
use lib.Seq.{get_or-set_same, get_or-set_other}
use Rattle.std.proofs.lemmas.Bool.{cases_lt}
use Rattle.std.proofs.lemmas.List.{take_all}
use Rattle.std.proofs.lemmas.List.Sums.{sum_by_more}
use Rattle.std.specs.Array.{IsFromFnResult, IsFromFnResultFrom}
use Rattle.std.specs.List.{count_by}
use Rattle.theory_counts.specs.Count.{sum_to, as_number}
use Rattle.theory_counts.specs.Largest.{reaches, Largest}
use Rattle.theory_counts.proofs.Sums.{sum_cong_below}
use Rattle.theory_pairs.specs.Search.{is_pair, of_pair, or_zero, cell_at, Filled, First, stands_at, LargestPair}

-- one place more of a row that is written from its front
pub set_more : {A : Type 0} (P : ℕ → A → Type 0) (none : A) (xs : List A) (i : ℕ) (r : A) → i < length xs → P i r
    → ((j : ℕ) → j < i → P j (get_or xs j none))
    → (j : ℕ) → j < i + 1 → P j (get_or (set xs i r) j none)
set_more P none xs i r h here before =
    below_more (λ j. P j (get_or (set xs i r) j none)) i
    (λ j less. subst⁻¹ (P j) (get_or-set_other xs i j r none (λ same. omega arith)) (before j less))
    (subst⁻¹ (P i) (get_or-set_same xs i r none h) here)

-- what one closure, called at each place, gives
module _ {F B : Type 0} (g : Mut F (ℕ × Unit {0}) B) (f : F) (P : ℕ → B → Type 0) (gives : (i : ℕ) (y : B) (q : F) → Called g f (i, tt) y q → (q ≡ f) × P i y) where
  made_from : (ys : List B) (k n : ℕ) (p : F) → p ≡ f → IsFromFnResultFrom g p ys k n → (i : ℕ) (d : B) → k ≤ i → i < k + n → P i (get_or ys i d)
  made_from ys k zero p e made i d above below = absurd (omega arith)
  made_from ys k (suc n) p e made i d above below =
      let call : (made.0 ≡ f) × P k made.1 = gives k made.1 made.0 (subst (λ (h : F). Called g h (k, tt) made.1 made.0) e made.3) in
      elim (cases_lt k i) [
        | inl more ↦ made_from ys (k + 1) n made.0 call.0 made.4 i d (omega arith) (omega arith)
        | inr last ↦ let same : k ≡ i = omega arith in subst (λ (j : ℕ). P j (get_or ys j d)) same (subst⁻¹ (P k) (made.2.1 d) call.1)
      ]

  pub made : (ys : List B) (n : ℕ) → IsFromFnResult g f ys n → (i : ℕ) (d : B) → i < n → P i (get_or ys i d)
  made ys n r i d below = made_from ys 0 n f refl r.each i d (omega arith) (omega arith)

-- a count of the elements that pass, by their places
one_or_none : (b : Bool) → cond b 1 0 ≡ as_number b
unfolding as_number
one_or_none true = refl
one_or_none false = refl

by_places : {X : Type 0} (p : X → Bool) (none : X) (xs : List X) (n : ℕ) → n ≤ length xs
    → count_by p (take n xs) ≡ sum_to n (λ i. as_number (p (get_or xs i none)))
unfolding sum_to
by_places p none xs zero h = refl
by_places p none xs (suc n) h =
    (rw add-one at (sum_by_more (λ x. cond (p x) 1 0) xs n none (omega arith)))
    ∙ ap₂ ◌+◌ (by_places p none xs n (omega arith)) (one_or_none (p (get_or xs n none)))

pub counted : {X : Type 0} (p : X → Bool) (none : X) (xs : List X) (n : ℕ) → length xs ≡ n → count_by p xs ≡ sum_to n (λ i. as_number (p (get_or xs i none)))
counted p none xs n long = ap (count_by p) (sym (take_all n xs (omega arith))) ∙ by_places p none xs n (omega arith)

module _ (f : ℕ → ℕ → ℕ) where
  -- no place but a pair's has a number
  at_none : (i : ℕ) → is_pair i ≡ false → cell_at f i ≡ 0
  unfolding cell_at or_zero
  at_none i e = rw e

  at_some : (i : ℕ) → is_pair i ≡ true → cell_at f i ≡ of_pair f i
  unfolding cell_at or_zero
  at_some i e = rw e

-- the row is filled with g where g is f on all pairs
pub filled_as : (f g : ℕ → ℕ → ℕ) (xs : List ℕ) → ((a b : ℕ) → a < 128 → b < 128 → f a b ≡ g a b) → Filled f xs 16384 → Filled g xs 16384
unfolding cell_at of_pair
filled_as f g xs same filled j h = filled j h ∙ ap (or_zero _) (same (j / 128) (j % 128) (omega arith) (omega arith))

-- the largest number of the filled row, its first place and how often it stands there are what is asked of the pairs
module _ (f : ℕ → ℕ → ℕ) (some : 1 ≤ f 0 1) (xs : List ℕ) (at : ℕ) (filled : Filled f xs 16384) (first : First xs 16384 at) where
  number_of : (i : ℕ) → i < 16384 → is_pair i ≡ true → get_or xs i 0 ≡ of_pair f i
  number_of i h e = filled i h ∙ at_some f i e

  positive : 1 ≤ get_or xs at 0
  unfolding is_pair of_pair
  positive = omega (arith, number_of 1 (omega arith) refl, first.most 1 (omega arith))

  pair : is_pair at ≡ true
  pair = go (is_pair at) refl
    where
      go : (t : Bool) → is_pair at ≡ t → t ≡ true
      go true e = refl
      go false e = absurd (omega (arith, positive, filled at first.within, at_none f at e))

  reaching : (i : ℕ) (t : Bool) → i < 16384 → is_pair i ≡ t → stands_at xs (get_or xs at 0) i ≡ reaches is_pair (of_pair f) (get_or xs at 0) i
  unfolding stands_at reaches
  reaching i true h e = rw (filled i h, at_some f i e, e)
  reaching i false h e = rw (filled i h, at_none f i e, e) (ap as_number (ne_eqb 0 (get_or xs at 0) (λ z. omega (arith, positive))))

  at_place : (pairs : ℕ) → pairs ≡ sum_to 16384 (stands_at xs (get_or xs at 0)) → Largest is_pair (of_pair f) 16384 (get_or xs at 0) at pairs
  at_place pairs e =
      record {
        within = first.within;
        is_named = pair;
        reached = sym (number_of at first.within pair);
        most = λ i h p. omega (arith, number_of i h p, first.most i h);
        before = λ i h p. omega (arith, number_of i (omega (arith, first.within)) p, first.before i h);
        times = e ∙ sum_cong_below 16384 _ _ (λ i h. reaching i _ h refl);
      }

  pub largest_of : (pairs : ℕ) → pairs ≡ sum_to 16384 (stands_at xs (get_or xs at 0)) → LargestPair f (get_or xs at 0) (at / 128) (at % 128) pairs
  largest_of pairs e =
      let place : at / 128 * 128 + at % 128 ≡ at = omega arith in
      (omega arith, rw place (at_place pairs e))
