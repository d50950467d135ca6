-- Sums that each get a number which their own part of the key gives: what adding a message and taking it off have in common.
use mathlib.Core.Path.{◌≡◌, refl, sym, ap, ap₂, ◌∙◌}
use mathlib.Core.Bool.{true}
use mathlib.Core.List.{List, [], ◌∷◌, ◌++◌, append-nil}
use Prim.Native.Nat.{ℕ, zero, suc, ◌+◌, ◌%◌, ◌^◌, min, ◌≤◌, ◌<◌}
use native.Mathlib.Nat.{add_assoc, add_comm, mod-lt, mod-eq_of_lt, mod-add-mod, add-mod-mod, add-zero}
use native.Mathlib.Decide.{dec_le}
use native.Mathlib.Omega.{arith}
use borrow.Author.Tests.{ltb-true, lt-ltb}
use lib.Dec.{ltb}
use lib.Pow.{pow_pos}
use lib.ListN.{length, get_or, set, take, drop, length-take, drop_of_length-le}
use lib.Seq.{take_at, drop_at, take_all, get_or-take}
use Rattle.std.proofs.lemmas.List.{drop_min}
use Rattle.rows.specs.Written.{written}
use Rattle.rows.proofs.Parts.{drop_one}
use Rattle.rows.proofs.Written.{tabulate_same, tabulate_all, written_all, written_here, written_step}
use Rattle.theory_counts.specs.Words.{fits}
use Rattle.theory_counts.proofs.Fits.{both}

-- f gives the number; each next sum has the key from one word further on
unfoldable pub changed : ℕ → (List ℕ → ℕ) → List ℕ → List ℕ → List ℕ
changed w f ks [] = []
changed w f ks (s ∷ sums) = (s + f ks) % 2 ^ w ∷ changed w f (drop 1 ks) sums

-- a sum that is changed twice
twice : (w s x y : ℕ) → ((s + x) % 2 ^ w + y) % 2 ^ w ≡ (s + (x + y)) % 2 ^ w
twice w s x y = mod-add-mod (s + x) (2 ^ w) y ∙ ap (λ (z : ℕ). z % 2 ^ w) (add_assoc s x y)

back : (w s x y : ℕ) → (x + y) % 2 ^ w ≡ 0 → s < 2 ^ w → ((s + x) % 2 ^ w + y) % 2 ^ w ≡ s
back w s x y none lt =
    twice w s x y ∙ sym (add-mod-mod s (x + y) (2 ^ w)) ∙ ap (λ (z : ℕ). (s + z) % 2 ^ w) none ∙ ap (λ (z : ℕ). z % 2 ^ w) (add-zero s) ∙ mod-eq_of_lt lt

-- the first places, and those that are left as they were
module _ (n : ℕ) (new sums : List ℕ) (long : length new ≡ min n (length sums)) where
  pub first_places : take n (new ++ drop n sums) ≡ new
  first_places = go (dec_le n (length sums))
    where
      go : Dec (n ≤ length sums) → take n (new ++ drop n sums) ≡ new
      go (yes few) = take_at new (drop n sums) n (omega arith)
      go (no many) = ap (λ (x : List ℕ). take n (new ++ x)) (drop_of_length-le sums {i = n} (omega arith)) ∙ ap (take n) (append-nil new) ∙ take_all n new (omega arith)

  pub other_places : drop n (new ++ drop n sums) ≡ drop n sums
  other_places = go (dec_le n (length sums))
    where
      go : Dec (n ≤ length sums) → drop n (new ++ drop n sums) ≡ drop n sums
      go (yes few) = drop_at new (drop n sums) n (omega arith)
      go (no many) =
          let none : drop n sums ≡ [] = drop_of_length-le sums {i = n} (omega arith) in
          ap (λ (x : List ℕ). drop n (new ++ x)) none ∙ ap (drop n) (append-nil new) ∙ drop_of_length-le new {i = n} (omega arith) ∙ sym none

-- a row's first k places, which are written as a row of their own
module _ (f : ℕ → ℕ) (old : List ℕ) (k : ℕ) (le : k ≤ length old) where
  -- the place that comes next holds what it held
  pub front_here : (first : List ℕ) (i : ℕ) → i < k → first ≡ written f i (take k old) → get_or first i 0 ≡ get_or old i 0
  front_here first i lt e = written_here f (take k old) first i e ∙ get_or-take k old i 0 lt

  -- the place that a turn writes
  pub front_step : (first : List ℕ) (i v : ℕ) → i < k → v ≡ f i → first ≡ written f i (take k old) → set first i v ≡ written f (i + 1) (take k old)
  front_step first i v lt is e = written_step f (take k old) first i v (omega (arith, length-take k old)) is e

  -- the whole row at the end
  pub front_end : (first : List ℕ) (i : ℕ) → i ≡ k → first ≡ written f i (take k old) → first ++ drop k old ≡ written f k old
  front_end first i end e =
      ap (λ (l : List ℕ). l ++ drop k old) (e ∙ ap (λ (j : ℕ). written f j (take k old)) end ∙ written_all f (take k old) k (omega (arith, length-take k old)))

module _ (w : ℕ) (f : List ℕ → ℕ) where
  pub length_changed : (ks sums : List ℕ) → length (changed w f ks sums) ≡ length sums
  unfolding changed
  length_changed ks [] = refl
  length_changed ks (s ∷ sums) = ap suc (length_changed (drop 1 ks) sums)

  pub changed_at : (i : ℕ) (ks sums : List ℕ) → i < length sums → get_or (changed w f ks sums) i 0 ≡ (get_or sums i 0 + f (drop i ks)) % 2 ^ w
  unfolding changed
  changed_at i ks [] lt = absurd (omega arith)
  changed_at zero ks (s ∷ sums) lt = refl
  changed_at (suc i) ks (s ∷ sums) lt = changed_at i (drop 1 ks) sums (omega arith) ∙ ap (λ (l : List ℕ). (get_or sums i 0 + f l) % 2 ^ w) (drop_one i ks)

  pub changed_fit : (ks sums : List ℕ) → fits w (changed w f ks sums) ≡ true
  unfolding fits changed
  changed_fit ks [] = refl
  changed_fit ks (s ∷ sums) = rw (lt-ltb ((s + f ks) % 2 ^ w) (2 ^ w) (mod-lt (s + f ks) (pow_pos w))) (changed_fit (drop 1 ks) sums)

  -- as a loop writes them, place by place
  pub changed_written : (n : ℕ) (ks sums : List ℕ) → written (λ i. (get_or sums i 0 + f (drop i ks)) % 2 ^ w) (min n (length sums)) sums ≡ changed w f ks (take n sums) ++ drop n sums
  changed_written n ks sums =
      let few : List ℕ = take n sums in
      let end : ℕ = min n (length sums) in
      ap₂ (λ (x y : List ℕ). x ++ y)
      (tabulate_same (λ i. (get_or sums i 0 + f (drop i ks)) % 2 ^ w) (λ i. get_or (changed w f ks few) i 0) end
      (λ i lt. ap (λ (x : ℕ). (x + f (drop i ks)) % 2 ^ w) (sym (get_or-take n sums i 0 (omega arith))) ∙ sym (changed_at i ks few (omega (arith, length-take n sums))))
      ∙ tabulate_all (changed w f ks few) end (length_changed ks few ∙ length-take n sums))
      (drop_min n sums)

  -- a number that two key words give: so many sums read one key word more
  pub changed_reads : ((l : List ℕ) → f (take 2 l) ≡ f l) → (ks sums : List ℕ) → changed w f (take (suc (length sums)) ks) sums ≡ changed w f ks sums
  unfolding changed
  changed_reads two ks [] = refl
  changed_reads two [] (s ∷ sums) = refl
  changed_reads two (k ∷ []) (s ∷ sums) = refl
  changed_reads two (k ∷ k' ∷ ks) (s ∷ sums) =
      ap₂ (λ (x : ℕ) (xs : List ℕ). (s + x) % 2 ^ w ∷ xs)
      (sym (two (k ∷ k' ∷ take (length sums) ks)) ∙ two (k ∷ k' ∷ ks))
      (changed_reads two (k' ∷ ks) sums)

  module _ (g : List ℕ → ℕ) where
    -- two changes under the same key words are one
    pub changed_twice : (ks sums : List ℕ) → changed w f ks (changed w g ks sums) ≡ changed w (λ l. g l + f l) ks sums
    unfolding changed
    changed_twice ks [] = refl
    changed_twice ks (s ∷ sums) = ap₂ (λ (x : ℕ) (xs : List ℕ). x ∷ xs) (twice w s (g ks) (f ks)) (changed_twice (drop 1 ks) sums)

    -- two changes, each under its own key words, in either order
    pub changed_either : (ka kb sums : List ℕ) → changed w f ka (changed w g kb sums) ≡ changed w g kb (changed w f ka sums)
    unfolding changed
    changed_either ka kb [] = refl
    changed_either ka kb (s ∷ sums) =
        ap₂ (λ (x : ℕ) (xs : List ℕ). x ∷ xs)
        (twice w s (g kb) (f ka) ∙ ap (λ (x : ℕ). (s + x) % 2 ^ w) (add_comm (g kb) (f ka)) ∙ sym (twice w s (f ka) (g kb)))
        (changed_either (drop 1 ka) (drop 1 kb) sums)

    -- a change that undoes another
    pub changed_back : ((l : List ℕ) → (g l + f l) % 2 ^ w ≡ 0) → (ks sums : List ℕ) → fits w sums ≡ true → changed w f ks (changed w g ks sums) ≡ sums
    unfolding fits changed
    changed_back none ks [] fit = refl
    changed_back none ks (s ∷ sums) fit =
        let p = both (ltb s (2 ^ w)) (fits w sums) fit in
        ap₂ (λ (x : ℕ) (xs : List ℕ). x ∷ xs) (back w s (g ks) (f ks) (none ks) (ltb-true s (2 ^ w) p.0)) (changed_back none (drop 1 ks) sums p.1)
