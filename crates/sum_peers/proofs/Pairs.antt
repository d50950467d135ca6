-- The whole message pair by pair.
-- Assumes nothing.
use Rattle.std.proofs.Common.{◌≡◌, ℕ, zero, suc, ◌+◌, ◌-◌, ◌*◌, ◌/◌, ◌^◌, ◌<◌, ◌≤◌, Bool, ◌&&◌, ltb, List, [], ◌∷◌, ◌++◌, length, get_or, take, drop, sym, refl, ap, ◌∙◌, ap₂, arith, add-one, append-nil, length-append, take_all, take-add, take-suc}
use mathlib.Core.Bool.{and-true}
use Rattle.std.specs.List.{concat}
use Rattle.std.specs.Simd.{first_chunks}
use Rattle.std.proofs.lemmas.List.{take_more, take-append-drop, nil_from_length}
use Rattle.std.proofs.lemmas.List.Folds.{concat-append}
use Rattle.std.specs.Int.Bits.{bit_or}
use Rattle.theory_counts.specs.Words.{fits}
use Rattle.theory_counts.proofs.Fits.{fits_append}
use Rattle.range.proofs.Range.{or_below}
use Rattle.sum_peers.specs.Peers.{RowsAccumulated}
use Rattle.sum_peers.proofs.Accumulation.{all_append}

two_words : (l : List ℕ) → length l ≡ 2 → l ≡ get_or l 0 0 ∷ get_or l 1 0 ∷ []
two_words l two = sym (take_all 2 l (omega arith)) ∙ take-suc l 1 0 (omega arith) ∙ ap (λ (front : List ℕ). front ++ (get_or l 1 0 ∷ [])) (take-suc l 0 0 (omega arith))

-- the pair at j
module _ (pairs : List (List ℕ)) (each : (k : ℕ) → k < length pairs → length (get_or pairs k []) ≡ 2) where
  with_pair : (j : ℕ) → j < length pairs → concat (take (j + 1) pairs) ≡ concat (take j pairs) ++ get_or pairs j []
  with_pair j lt =
      ap concat (take_more pairs j [] lt)
      ∙ concat-append (take j pairs) (get_or pairs j [] ∷ [])
      ∙ ap (λ (l : List ℕ). concat (take j pairs) ++ l) (append-nil (get_or pairs j []))

  pairs_long : (j : ℕ) → j ≤ length pairs → length (concat (take j pairs)) ≡ j * 2
  pairs_long zero le = refl
  pairs_long (suc j) le =
      ap (λ (k : ℕ). length (concat (take k pairs))) (sym (add-one j))
      ∙ ap length (with_pair j (omega arith))
      ∙ length-append (concat (take j pairs)) (get_or pairs j [])
      ∙ omega (arith, pairs_long j (omega arith), each j (omega arith))

  module _ (w n p size : ℕ) (ks : List ℕ) (j : ℕ) (within : j < length pairs) where
    pub pair_added : (old mid new : List (List ℕ))
        → RowsAccumulated w n p size (concat (take j pairs)) ks old mid
        → RowsAccumulated w n p size (get_or pairs j []) (drop (j * 2) ks) mid new
        → RowsAccumulated w n p size (concat (take (j + 1) pairs)) ks old new
    pair_added old mid new before pair =
        rw (with_pair j within)
        (all_append w n size (concat (take j pairs)) ks old p (get_or pairs j []) (drop (j * 2) ks) mid new (ap (λ (k : ℕ). drop k ks) (sym (pairs_long j (omega arith)))) before pair)

  -- the bits of all words so far, joined with the pair's
  pub pair_tested : (w j : ℕ) → j < length pairs → (bits : ℕ) → ltb bits (2 ^ w) ≡ fits w (concat (take j pairs))
      → ltb (bit_or bits (bit_or (get_or (get_or pairs j []) 0 0) (get_or (get_or pairs j []) 1 0))) (2 ^ w) ≡ fits w (concat (take (j + 1) pairs))
  unfolding fits
  pair_tested w j within bits e =
      let pair : List ℕ = get_or pairs j [] in
      let first : ℕ = get_or pair 0 0 in
      let second : ℕ = get_or pair 1 0 in
      or_below w bits (bit_or first second)
      ∙ ap₂ (λ (x y : Bool). x && y) e (or_below w first second ∙ ap (λ (t : Bool). ltb first (2 ^ w) && t) (sym (and-true (ltb second (2 ^ w)))))
      ∙ ap (λ (l : List ℕ). fits w (concat (take j pairs)) && fits w l) (sym (two_words pair (each j within)))
      ∙ sym (fits_append w (concat (take j pairs)) pair)
      ∙ ap (fits w) (sym (with_pair j within))

-- the words in pairs and an odd last one are the message
paired : (k : ℕ) (ms : List ℕ) → concat (first_chunks 2 k ms) ≡ take (k * 2) ms
paired zero ms = refl
paired (suc k) ms =
    let size : 2 + k * 2 ≡ suc k * 2 = omega arith in
    ap (λ (l : List ℕ). take 2 ms ++ l) (paired k (drop 2 ms)) ∙ sym (take-add 2 (k * 2) ms) ∙ ap (λ (j : ℕ). take j ms) size

one_word : (l : List ℕ) → length l ≡ 1 → l ≡ get_or l 0 0 ∷ []
one_word l one = sym (take_all 1 l (omega arith)) ∙ take-suc l 0 0 (omega arith)

module _ (ms : List ℕ) (pairs : List (List ℕ)) (rest : List ℕ) (front : pairs ≡ first_chunks 2 (length ms / 2) ms) (back : rest ≡ drop (length ms / 2 * 2) ms) where
  whole : concat pairs ++ rest ≡ ms
  whole =
      ap₂ (λ (l r : List ℕ). l ++ r) (ap concat front ∙ paired (length ms / 2) ms) back
      ∙ take-append-drop (length ms / 2 * 2) ms

  pub without_last : length rest ≡ 0 → concat pairs ≡ ms
  without_last none = sym (append-nil (concat pairs)) ∙ ap (λ (l : List ℕ). concat pairs ++ l) (sym (nil_from_length rest none)) ∙ whole

  module _ (one : length rest ≡ 1) where
    pub with_last : concat pairs ++ (get_or rest 0 0 ∷ []) ≡ ms
    with_last = ap (λ (l : List ℕ). concat pairs ++ l) (sym (one_word rest one)) ∙ whole

    pub last_at : length (concat pairs) ≡ length ms - 1
    last_at = omega (arith, length-append (concat pairs) rest, ap length whole, one)

    pub last_tested : (w : ℕ) {before last : Bool} → before ≡ fits w (concat pairs) → last ≡ ltb (get_or rest 0 0) (2 ^ w) → (before && last) ≡ fits w ms
    unfolding fits
    last_tested w eb el =
        ap₂ (λ (x y : Bool). x && y) eb (el ∙ sym (and-true (ltb (get_or rest 0 0) (2 ^ w))))
        ∙ sym (fits_append w (concat pairs) (get_or rest 0 0 ∷ []))
        ∙ ap (fits w) with_last
