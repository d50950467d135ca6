-- Laws of a row that is written from its front: the start, one place more, the end.
use mathlib.Core.Path.{◌≡◌, refl, sym, ap, ap₂, ◌∙◌}
use mathlib.Core.List.{List, [], ◌∷◌, ◌++◌, append-nil}
use Prim.Native.Nat.{ℕ, zero, suc, ◌+◌, min, ◌≤◌, ◌<◌}
use native.Mathlib.Numerals.{add-one}
use native.Mathlib.Nat.{le_of_eq, add-zero}
use native.Mathlib.Decide.{dec_le, dec_lt}
use native.Mathlib.Omega.{arith}
use lib.ListN.{length, get_or, set, take, drop, length-append, length-drop, drop_of_length-le}
use lib.Seq.{drop-cons, set_at, append_snoc, take-suc, take_all, get_or_at, get_or-drop, get_or-append-add}
use Rattle.rows.specs.Written.{tabulate, written, over}

pub length_tabulate : (f : ℕ → ℕ) (n : ℕ) → length (tabulate f n) ≡ n
unfolding tabulate
length_tabulate f zero = refl
length_tabulate f (suc n) = rw (length-append (tabulate f n) (f n ∷ []), length_tabulate f n, add-one)

-- words that are given one by one
pub tabulate_same : (f g : ℕ → ℕ) (n : ℕ) → ((i : ℕ) → i < n → f i ≡ g i) → tabulate f n ≡ tabulate g n
unfolding tabulate
tabulate_same f g zero e = refl
tabulate_same f g (suc n) e = ap₂ (λ (l : List ℕ) (x : ℕ). l ++ (x ∷ [])) (tabulate_same f g n (λ i lt. e i (omega arith))) (e n (omega arith))

-- the words of a list, one by one
pub tabulate_take : (words : List ℕ) (n : ℕ) → n ≤ length words → tabulate (λ i. get_or words i 0) n ≡ take n words
unfolding tabulate
tabulate_take words zero le = refl
tabulate_take words (suc n) le = ap (λ (l : List ℕ). l ++ (get_or words n 0 ∷ [])) (tabulate_take words n (omega arith)) ∙ sym (take-suc words n 0 le)

pub tabulate_all : (words : List ℕ) (n : ℕ) → length words ≡ n → tabulate (λ i. get_or words i 0) n ≡ words
tabulate_all words n e = tabulate_take words n (le_of_eq (sym e)) ∙ take_all n words (le_of_eq e)

module _ (f : ℕ → ℕ) (old : List ℕ) where
  pub written_none : old ≡ written f 0 old
  unfolding tabulate
  written_none = refl

  pub written_length : (i : ℕ) → i ≤ length old → length (written f i old) ≡ length old
  written_length i le = length-append (tabulate f i) (drop i old) ∙ omega (arith, length_tabulate f i, length-drop i old)

  pub written_next : (i : ℕ) → i < length old → set (written f i old) i (f i) ≡ written f (i + 1) old
  unfolding tabulate
  written_next i h =
      rw (drop-cons old i 0, set_at (tabulate f i) (get_or old i 0) (drop (suc i) old) (f i) i (length_tabulate f i), add-one i) (sym (append_snoc (tabulate f i) (f i) (drop (suc i) old)))

  -- the place that a loop's turn writes, and the row's length, from the invariant
  pub written_step : (row : List ℕ) (i v : ℕ) → i < length old → v ≡ f i → row ≡ written f i old → set row i v ≡ written f (i + 1) old
  written_step row i v lt e h = ap₂ (λ (l : List ℕ) (x : ℕ). set l i x) h e ∙ written_next i lt

  pub written_long : (row : List ℕ) (i : ℕ) → i ≤ length old → row ≡ written f i old → length row ≡ length old
  written_long row i le h = ap length h ∙ written_length i le

  pub written_all : (i : ℕ) → length old ≡ i → written f i old ≡ tabulate f i
  written_all i e = rw (drop_of_length-le old {i = i} (omega arith)) (append-nil (tabulate f i))

  -- the place that comes next holds what it held
  pub written_here : (row : List ℕ) (i : ℕ) → row ≡ written f i old → get_or row i 0 ≡ get_or old i 0
  written_here row i h =
      let here : length (tabulate f i) + 0 ≡ i = add-zero _ ∙ length_tabulate f i in
      ap (λ (l : List ℕ). get_or l i 0) h
      ∙ ap (get_d' (written f i old)) (sym here)
      ∙ get_or-append-add (tabulate f i) (drop i old) 0 0
      ∙ get_or-drop i old 0 0
      ∙ ap (get_d' old) (add-zero i)
    where
      get_d' : List ℕ → ℕ → ℕ
      get_d' l j = get_or l j 0

-- a written place holds its word
before_last : (f : ℕ → ℕ) (n i : ℕ) (rest : List ℕ) → i < suc n → (i < n → get_or (tabulate f n ++ (f n ∷ rest)) i 0 ≡ f i) → get_or (tabulate f n ++ (f n ∷ rest)) i 0 ≡ f i
before_last f n i rest lt earlier = go (dec_lt i n)
  where
    go : Dec (i < n) → get_or (tabulate f n ++ (f n ∷ rest)) i 0 ≡ f i
    go (yes l) = earlier l
    go (no l) = let last : n ≡ i = omega arith in get_or_at (tabulate f n) (f n) rest 0 i (length_tabulate f n ∙ last) ∙ ap f last

pub tabulate_at : (f : ℕ → ℕ) (n i : ℕ) (rest : List ℕ) → i < n → get_or (tabulate f n ++ rest) i 0 ≡ f i
unfolding tabulate
tabulate_at f zero i rest lt = absurd (omega arith)
tabulate_at f (suc n) i rest lt =
    ap (λ (l : List ℕ). get_or l i 0) (append_snoc (tabulate f n) (f n) rest)
    ∙ before_last f n i rest lt (λ l. tabulate_at f n i (f n ∷ rest) l)

-- words that all have a place
pub over_fits : (words old : List ℕ) → length words ≤ length old → over words old ≡ words ++ drop (length words) old
unfolding over
over_fits words old le = ap (λ (l : List ℕ). l ++ drop (length words) old) (take_all (length old) words le)

-- as many words as have a place, at once
pub over_taken : (words old : List ℕ) (n : ℕ) → n ≡ min (length words) (length old) → take n words ++ drop n old ≡ over words old
unfolding over
over_taken words old n e = go (dec_le (length words) (length old))
  where
    go : Dec (length words ≤ length old) → take n words ++ drop n old ≡ over words old
    go (yes le) = ap₂ (λ (l r : List ℕ). l ++ r) (take_all n words (omega arith) ∙ sym (take_all (length old) words le)) (ap (λ (i : ℕ). drop i old) (omega arith))
    go (no gt) = ap₂ (λ (l r : List ℕ). l ++ r) (ap (λ (i : ℕ). take i words) (omega arith)) (drop_of_length-le old {i = n} (omega arith) ∙ sym (drop_of_length-le old {i = length words} (omega arith)))

-- the same, written one by one
pub over_written : (words old : List ℕ) (i : ℕ) → i ≡ min (length words) (length old) → written (λ j. get_or words j 0) i old ≡ over words old
over_written words old i e = ap (λ (l : List ℕ). l ++ drop i old) (tabulate_take words i (omega arith)) ∙ over_taken words old i e
