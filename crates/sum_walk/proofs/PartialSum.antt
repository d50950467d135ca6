-- One sum of the walk, by what is left of it.
use Rattle.std.proofs.Common.{◌≡◌, ℕ, ◌+◌, ◌*◌, ◌/◌, ◌%◌, ◌^◌, ◌<◌, List, [], ◌∷◌, length, get_or, drop, sym, ap, ◌∙◌, ap₂, add-zero, add_assoc, zero-add, add-one, get_or-drop, drop-cons, drop-drop}
use native.Mathlib.Nat.{zero-div, mod-add-mod}
use Rattle.theory_digest.specs.Digest.{whole_sum, one_word}
use Rattle.sum_walk.specs.Walk.{together, added, PartialSum}
use Rattle.theory_digest.proofs.Laws.{sum_cons}

-- what one word adds, as a sum over the key
pub word_sum : (w m : ℕ) (ks : List ℕ) (i : ℕ) → added w ks i m ≡ whole_sum w (m ∷ []) (drop i ks)
unfolding whole_sum
word_sum w m ks i =
    ap₂ (λ (x y : ℕ). m * x + m * y / 2 ^ w) (ap (λ (k : ℕ). get_or ks k 0) (sym (add-zero i)) ∙ sym (get_or-drop i ks 0 0)) (sym (get_or-drop i ks 1 0))
    ∙ sym (add-zero _)

module _ (w : ℕ) (ms ks : List ℕ) where
  one_more : (i : ℕ) → i < length ms → whole_sum w (drop i ms) (drop i ks) ≡ added w ks i (get_or ms i 0) + whole_sum w (drop (i + 1) ms) (drop (i + 1) ks)
  one_more i more = simp (drop-cons ms i 0 more, sum_cons, get_or-drop, drop-drop, add-zero, add-one)

  pub partial_start : PartialSum w ms ks (together w 0 0) 0
  unfolding one_word
  partial_start = rw (zero-div (2 ^ w), zero-add (whole_sum w ms ks))

  -- the word m at i is added
  pub partial_step : (i j m sum r : ℕ) → j ≡ i + 1 → i < length ms → m ≡ get_or ms i 0
      → r % 2 ^ w ≡ (sum + added w ks i m) % 2 ^ w
      → PartialSum w ms ks sum i
      → PartialSum w ms ks r j
  partial_step i j m sum r next more word e h =
      let rest = whole_sum w (drop (i + 1) ms) (drop (i + 1) ks) in
      let here : whole_sum w (drop i ms) (drop i ks) ≡ added w ks i m + rest = rw word (one_more i more) in
      rw next
      (sym (mod-add-mod r (2 ^ w) rest)
      ∙ ap (λ (n : ℕ). (n + rest) % 2 ^ w) e
      ∙ mod-add-mod (sum + added w ks i m) (2 ^ w) rest
      ∙ ap (λ (n : ℕ). n % 2 ^ w) (add_assoc sum (added w ks i m) rest ∙ ap (λ (n : ℕ). sum + n) (sym here))
      ∙ h)
