-- A whole message: the words in pairs, then an odd last word and the key's last words.
use Rattle.std.proofs.Common.{◌≡◌, ℕ, suc, Bor, Option, None, Some, ◌+◌, ◌-◌, ◌%◌, ◌^◌, ◌<◌, ◌≤◌, min, Bool, true, false, ◌&&◌, List, [], ◌∷◌, ◌++◌, length, get_or, take, drop, sym, refl, ap, ◌∙◌, ap₂, add_assoc, arith, length-drop, take-append-drop, take-add, drop_at, pow_pos, lt-ltb}
use native.Mathlib.Nat.{add-mod-mod, mod-add-mod}
use lib.Seq.{drop-cons}
use lib.ListN.{drop_of_length-le}
use Rattle.std.specs.Option.{unwrap_or, option_copied, option_to_list}
use Rattle.std.specs.Slice.{IsItemAt}
use Rattle.rows.specs.Written.{tabulate, written}
use Rattle.rows.proofs.Written.{tabulate_at, tabulate_same, length_tabulate}
use Rattle.theory_counts.specs.Words.{fits}
use Rattle.theory_digest.specs.Digest.{whole_sum, one_word}
use Rattle.theory_counts.proofs.Fits.{fits_append}
use Rattle.sum_terms.specs.Sums.{summable, checked_sums, tests, checked_fit}
use Rattle.sum_walk.specs.Walk.{sum_at, PartialSums}
use Rattle.sum_terms.proofs.Summable.{Sums, are_sums, middle, tests_append, checked_fit_lem}
use Rattle.sum_terms.proofs.Each.{drop_swap, sums_written}

-- what the words in pairs leave: an odd last word, or none
pub last_left : (done : ℕ) (ms : List ℕ) (r : Option (Bor ℕ)) → length ms ≤ done + 1 → IsItemAt ms done r → option_to_list (option_copied r) ≡ drop done ms
last_left done ms None few at = sym (drop_of_length-le ms {i = done} at.3)
last_left done ms (Some x) few at =
    ap (λ (m : ℕ). m ∷ []) (at.4 (omega arith) 0) ∙ sym (drop-cons ms done 0 at.3.0 ∙ ap (λ (l : List ℕ). get_or ms done 0 ∷ l) (drop_of_length-le ms {i = suc done} (omega arith)))

module _ (w : ℕ) where
  -- the range test of an odd last word, or of 0 for none
  pub last_tests : (asked : Bool) (last : Option ℕ) → tests asked w (unwrap_or last 0 ∷ []) ≡ tests asked w (option_to_list last)
  unfolding tests fits
  last_tests true None = rw (lt-ltb 0 (2 ^ w) (pow_pos w)) refl
  last_tests false None = refl
  last_tests asked (Some m) = refl

  -- sums that agree modulo 2^w are written alike
  pub totals_same : (n : ℕ) (f g : ℕ → ℕ) (old new : List ℕ) → ((i : ℕ) → i < n → f i % 2 ^ w ≡ g i % 2 ^ w)
      → new ≡ written (λ i. (get_or old i 0 + f i) % 2 ^ w) n old
      → new ≡ written (λ i. (get_or old i 0 + g i) % 2 ^ w) n old
  totals_same n f g old new same wrote =
      wrote
      ∙ ap (λ (l : List ℕ). l ++ drop n old)
      (tabulate_same (λ i. (get_or old i 0 + f i) % 2 ^ w) (λ i. (get_or old i 0 + g i) % 2 ^ w) n
      (λ i lt. sym (add-mod-mod (get_or old i 0) (f i) (2 ^ w)) ∙ ap (λ (x : ℕ). (get_or old i 0 + x) % 2 ^ w) (same i lt) ∙ add-mod-mod (get_or old i 0) (g i) (2 ^ w)))

-- sums that are added to twice
pub added_twice : (w k k' : ℕ) (f g : ℕ → ℕ) (old mid new : List ℕ) → k ≤ length old → k' ≡ k
    → mid ≡ written (λ i. (get_or old i 0 + f i) % 2 ^ w) k old
    → new ≡ written (λ i. (get_or mid i 0 + g i) % 2 ^ w) k' mid
    → new ≡ written (λ i. (get_or old i 0 + (f i + g i)) % 2 ^ w) k old
added_twice w k k' f g old mid new le same first second =
    let F : ℕ → ℕ = λ i. (get_or old i 0 + f i) % 2 ^ w in
    second
    ∙ ap₂ (λ (x y : List ℕ). x ++ y)
    (ap (tabulate (λ i. (get_or mid i 0 + g i) % 2 ^ w)) same
    ∙ tabulate_same (λ i. (get_or mid i 0 + g i) % 2 ^ w) (λ i. (get_or old i 0 + (f i + g i)) % 2 ^ w) k
    (λ i lt.
    ap (λ (x : ℕ). (x + g i) % 2 ^ w) (ap (λ (l : List ℕ). get_or l i 0) first ∙ tabulate_at F k i (drop k old) lt)
    ∙ mod-add-mod (get_or old i 0 + f i) (2 ^ w) (g i)
    ∙ ap (λ (x : ℕ). x % 2 ^ w) (add_assoc (get_or old i 0) (f i) (g i))))
    (ap₂ (λ (m : ℕ) (l : List ℕ). drop m l) same first ∙ drop_at (tabulate F k) (drop k old) k (length_tabulate F k))

module _ (w n : ℕ) (ms ks : List ℕ) (s : Sums w n (length ms) (length ks)) where
  -- there are key words for the words that the walk left
  pub left_sums : (done : ℕ) → done ≤ length ms → summable w n (length (drop done ms)) (length (drop done ks)) ≡ true
  left_sums done le =
      are_sums w n (length (drop done ms)) (length (drop done ks))
      (record { some_width = s.some_width; width = s.width; some_words = s.some_words; words = s.words; keys = omega (arith, s.keys, length-drop done ms, length-drop done ks) })

  -- the sums of the walk and of the words that it left
  pub whole_sums : (low high old new left rest : List ℕ) (done : ℕ) → left ≡ drop done ms → rest ≡ drop done ks → PartialSums w n ms ks low high done
      → new ≡ written (λ i. (get_or old i 0 + (sum_at w low high i + whole_sum w left (drop i rest))) % 2 ^ w) (min n (length old)) old
      → new ≡ checked_sums w n ms ks old
  unfolding one_word
  whole_sums low high old new left rest done el er walked wrote =
      totals_same w (min n (length old)) (λ i. sum_at w low high i + whole_sum w left (drop i rest)) (λ i. whole_sum w ms (drop i ks)) old new
      (λ i lt.
      ap₂ (λ (m k : List ℕ). (sum_at w low high i + whole_sum w m k) % 2 ^ w) el (ap (drop i) er ∙ drop_swap i done ks)
      ∙ walked.2 i (omega arith))
      wrote
      ∙ sums_written w n ms ks old s

  -- the words that the walk tested and those that it left
  module _ (asked : Bool) (done : ℕ) (le : done ≤ length ms) where
    whole_fit : ((tests asked w (take done ms) && fits w (take done ks)) && (tests asked w (drop done ms) && fits w (take (length ms + n - done) (drop done ks))))
        ≡ checked_fit asked w n ms ks
    whole_fit =
        let all : done + (length ms + n - done) ≡ length ms + n = omega arith in
        let rest : ℕ = length ms + n - done in
        middle (tests asked w (take done ms)) (fits w (take done ks)) (tests asked w (drop done ms)) (fits w (take rest (drop done ks)))
        ∙ ap₂ (λ (x y : Bool). x && y)
        (sym (tests_append asked w (take done ms) (drop done ms)) ∙ ap (tests asked w) (take-append-drop done ms))
        (sym (fits_append w (take done ks) (take rest (drop done ks))) ∙ ap (fits w) (sym (take-add done rest ks)) ∙ ap (λ (m : ℕ). fits w (take m ks)) all)
        ∙ sym (checked_fit_lem asked w n ms ks s)

    pub walk_unfit : (tests asked w (take done ms) && fits w (take done ks)) ≡ false → false ≡ checked_fit asked w n ms ks
    walk_unfit unfit = ap (λ (t : Bool). t && (tests asked w (drop done ms) && fits w (take (length ms + n - done) (drop done ks)))) (sym unfit) ∙ whole_fit

    pub walk_fit : (fit : Bool) (left : List ℕ) → left ≡ drop done ms
        → (tests asked w (take done ms) && fits w (take done ks)) ≡ true
        → fit ≡ (tests asked w left && fits w (take (length ms + n - done) (drop done ks)))
        → fit ≡ checked_fit asked w n ms ks
    walk_fit fit left el passed e =
        e
        ∙ ap₂ (λ (t : Bool) (l : List ℕ). t && (tests asked w l && fits w (take (length ms + n - done) (drop done ks)))) (sym passed) el
        ∙ whole_fit
