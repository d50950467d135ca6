-- The walk: one word for n sums, two words of the range test, the whole.
use Rattle.std.proofs.Common.{◌≡◌, ℕ, suc, ◌+◌, ◌-◌, ◌*◌, ◌/◌, ◌%◌, ◌^◌, ◌<◌, ◌≤◌, Bool, true, false, ◌&&◌, ltb, List, [], ◌∷◌, ◌++◌, length, get_or, take, drop, sym, refl, ap, ◌∙◌, ap₂, mod-eq_of_lt, add_comm, add-one, arith, get_or-drop, take-suc, pow_pos, lt-ltb}
use mathlib.Core.Bool.{and-true, and_assoc}
use lib.Bits.{bit_and, bit_or, or_mod, or_shr}
use lib.Seq.{append_snoc}
use Rattle.rows.specs.Written.{written}
use Rattle.rows.proofs.Written.{tabulate_at}
use Rattle.theory_counts.specs.Words.{fits}
use Rattle.theory_counts.proofs.Fits.{fits_append}
use Rattle.range.proofs.Range.{or_below}
use Rattle.sum_terms.specs.Sums.{tests}
use Rattle.sum_walk.specs.Walk.{together, sum_at, added, Accumulated, PartialSums, bits_fit, BitsJoined, SameBits}
use Rattle.sum_walk.proofs.Apart.{both_added}
use Rattle.sum_walk.proofs.PartialSum.{partial_start, partial_step}
use Rattle.sum_terms.proofs.Summable.{middle, tests_append}

-- the two rows as the code writes them for the word m, place by place
module _ (w m : ℕ) (part : List ℕ) where
  unfoldable pub new_low : List ℕ → ℕ → ℕ
  new_low low i = (get_or low i 0 + m * get_or part i 0) % 2 ^ 64

  unfoldable pub new_high : List ℕ → ℕ → ℕ
  new_high high i = (get_or high i 0 + bit_and (m * get_or part (i + 1) 0) (2 ^ 64 - 2 ^ w)) % 2 ^ 64

  pub word_added : (n : ℕ) (low₀ high₀ low high : List ℕ) → w ≤ 32
      → low ≡ written (new_low low₀) n low₀
      → high ≡ written (new_high high₀) n high₀
      → (i : ℕ)
      → i < n
      → sum_at w low high i % 2 ^ w ≡ (sum_at w low₀ high₀ i + added w part i m) % 2 ^ w
  unfolding new_low new_high
  word_added n low₀ high₀ low high narrow el eh i lt =
      ap₂ (λ (x y : ℕ). together w x y % 2 ^ w)
      (ap (λ (l : List ℕ). get_or l i 0) el ∙ tabulate_at (new_low low₀) n i (drop n low₀) lt)
      (ap (λ (l : List ℕ). get_or l i 0) eh ∙ tabulate_at (new_high high₀) n i (drop n high₀) lt)
      ∙ both_added w narrow (get_or low₀ i 0) (get_or high₀ i 0) (m * get_or part i 0) (m * get_or part (i + 1) 0)

-- n sums with the word at j
module _ (w n : ℕ) (ms ks : List ℕ) where
  added_swap : (i j m : ℕ) → added w (drop j ks) i m ≡ added w (drop i ks) j m
  added_swap i j m =
      let next : j + (i + 1) ≡ i + (j + 1) = omega arith in
      ap₂ (λ (x y : ℕ). m * x + m * y / 2 ^ w)
      (get_or-drop j ks i 0 ∙ ap (λ (k : ℕ). get_or ks k 0) (add_comm j i) ∙ sym (get_or-drop i ks j 0))
      (get_or-drop j ks (i + 1) 0 ∙ ap (λ (k : ℕ). get_or ks k 0) next ∙ sym (get_or-drop i ks (j + 1) 0))

  pub walked_start : (low high : List ℕ) → length low ≡ 8 → length high ≡ 8
      → ((i : ℕ) → i < 8 → get_or low i 0 ≡ 0)
      → ((i : ℕ) → i < 8 → get_or high i 0 ≡ 0)
      → n ≤ 8
      → PartialSums w n ms ks low high 0
  walked_start low high el eh zl zh few =
      (el, eh, λ i lt. rw (zl i (omega arith), zh i (omega arith)) (partial_start w ms (drop i ks)))

  pub walked_step : (j m : ℕ) (part low high low' high' : List ℕ)
      → j < length ms
      → m ≡ get_or ms j 0
      → part ≡ drop j ks
      → PartialSums w n ms ks low high j
      → Accumulated w n (λ i. added w part i m) low high low' high'
      → PartialSums w n ms ks low' high' (j + 1)
  walked_step j m part low high low' high' more word lent h g = (
    g.0,
    g.1,
    λ i lt.
        partial_step w ms (drop i ks) j (j + 1) m (sum_at w low high i) (sum_at w low' high' i) refl more word
        (g.2 i lt ∙ ap (λ (x : ℕ). (sum_at w low high i + x) % 2 ^ w) (ap (λ (l : List ℕ). added w l i m) lent ∙ added_swap i j m))
        (h.2 i lt),
  )

-- the range test
module _ (w : ℕ) where
  joined_word : (x m : ℕ) → m < 2 ^ 32 → ltb (bit_or x m % 2 ^ 32) (2 ^ w) ≡ (ltb (x % 2 ^ 32) (2 ^ w) && ltb m (2 ^ w))
  joined_word x m small = ap (λ (n : ℕ). ltb n (2 ^ w)) (or_mod x m 32 ∙ ap (bit_or (x % 2 ^ 32)) (mod-eq_of_lt small)) ∙ or_below w (x % 2 ^ 32) m

  joined_pair : (x k k' : ℕ) → k < 2 ^ 32
      → (ltb (bit_or x (k + 2 ^ 32 * k') % 2 ^ 32) (2 ^ w) && ltb (bit_or x (k + 2 ^ 32 * k') / 2 ^ 32) (2 ^ w))
      ≡ ((ltb (x % 2 ^ 32) (2 ^ w) && ltb (x / 2 ^ 32) (2 ^ w)) && fits w (k ∷ k' ∷ []))
  unfolding fits
  joined_pair x k k' small =
      let lower : (k + 2 ^ 32 * k') % 2 ^ 32 ≡ k = omega arith in
      let upper : (k + 2 ^ 32 * k') / 2 ^ 32 ≡ k' = omega arith in
      ap₂ (λ (n m : ℕ). ltb n (2 ^ w) && ltb m (2 ^ w))
      (or_mod x (k + 2 ^ 32 * k') 32 ∙ ap (bit_or (x % 2 ^ 32)) lower)
      (or_shr x (k + 2 ^ 32 * k') 32 ∙ ap (bit_or (x / 2 ^ 32)) upper)
      ∙ ap₂ (λ (s t : Bool). s && t) (or_below w (x % 2 ^ 32) k) (or_below w (x / 2 ^ 32) k')
      ∙ middle (ltb (x % 2 ^ 32) (2 ^ w)) (ltb k (2 ^ w)) (ltb (x / 2 ^ 32) (2 ^ w)) (ltb k' (2 ^ w))
      ∙ ap (λ (t : Bool). (ltb (x % 2 ^ 32) (2 ^ w) && ltb (x / 2 ^ 32) (2 ^ w)) && (ltb k (2 ^ w) && t)) (sym (and-true (ltb k' (2 ^ w))))

-- the bits of two message words and two key words are joined to those so far
module _ (even odd keys m m' k k' : ℕ) (small : k < 2 ^ 32) where
  abbrev before : ℕ → Bool
  before w = bits_fit w even odd keys

  pub bits_keys : BitsJoined false before (m ∷ m' ∷ []) (k ∷ k' ∷ []) even odd (bit_or keys (k + 2 ^ 32 * k'))
  unfolding bits_fit tests
  bits_keys w =
      ap (λ (t : Bool). (ltb (even % 2 ^ 32) (2 ^ w) && ltb (odd % 2 ^ 32) (2 ^ w)) && t) (joined_pair w keys k k' small)
      ∙ sym (and_assoc (ltb (even % 2 ^ 32) (2 ^ w) && ltb (odd % 2 ^ 32) (2 ^ w)) (ltb (keys % 2 ^ 32) (2 ^ w) && ltb (keys / 2 ^ 32) (2 ^ w)) (fits w (k ∷ k' ∷ [])))

  pub bits_both : m < 2 ^ 32 → m' < 2 ^ 32 → BitsJoined true before (m ∷ m' ∷ []) (k ∷ k' ∷ []) (bit_or even m) (bit_or odd m') (bit_or keys (k + 2 ^ 32 * k'))
  unfolding bits_fit tests fits
  bits_both s s' w =
      let words : Bool = ltb (even % 2 ^ 32) (2 ^ w) && ltb (odd % 2 ^ 32) (2 ^ w) in
      let new : Bool = ltb m (2 ^ w) && (ltb m' (2 ^ w) && true) in
      ap₂ (λ (s t : Bool). s && t)
      (ap₂ (λ (s t : Bool). s && t) (joined_word w even m s) (joined_word w odd m' s')
      ∙ middle (ltb (even % 2 ^ 32) (2 ^ w)) (ltb m (2 ^ w)) (ltb (odd % 2 ^ 32) (2 ^ w)) (ltb m' (2 ^ w))
      ∙ ap (λ (t : Bool). words && (ltb m (2 ^ w) && t)) (sym (and-true (ltb m' (2 ^ w)))))
      (joined_pair w keys k k' small)
      ∙ middle words new (ltb (keys % 2 ^ 32) (2 ^ w) && ltb (keys / 2 ^ 32) (2 ^ w)) (ltb k (2 ^ w) && (ltb k' (2 ^ w) && true))

-- all gathered bits, in one number
pub bits_hold : (even odd keys : ℕ) → SameBits (bit_or (bit_or (bit_or even odd) keys % 2 ^ 32) (keys / 2 ^ 32)) even odd keys
unfolding bits_fit
bits_hold even odd keys w =
    or_below w (bit_or (bit_or even odd) keys % 2 ^ 32) (keys / 2 ^ 32)
    ∙ ap (λ (t : Bool). t && ltb (keys / 2 ^ 32) (2 ^ w))
    (ap (λ (n : ℕ). ltb n (2 ^ w)) (or_mod (bit_or even odd) keys 32 ∙ ap (λ (n : ℕ). bit_or n (keys % 2 ^ 32)) (or_mod even odd 32))
    ∙ or_below w (bit_or (even % 2 ^ 32) (odd % 2 ^ 32)) (keys % 2 ^ 32)
    ∙ ap (λ (t : Bool). t && ltb (keys % 2 ^ 32) (2 ^ w)) (or_below w (even % 2 ^ 32) (odd % 2 ^ 32)))
    ∙ and_assoc (ltb (even % 2 ^ 32) (2 ^ w) && ltb (odd % 2 ^ 32) (2 ^ w)) (ltb (keys % 2 ^ 32) (2 ^ w)) (ltb (keys / 2 ^ 32) (2 ^ w))

-- no bits yet, of no words
pub bits_none : (asked : Bool) (w : ℕ) → bits_fit w 0 0 0 ≡ (tests asked w [] && fits w [])
unfolding bits_fit tests fits
bits_none true w = rw (lt-ltb 0 (2 ^ w) (pow_pos w))
bits_none false w = rw (lt-ltb 0 (2 ^ w) (pow_pos w))

-- two words more of a row
two_more : (xs : List ℕ) (j : ℕ) → j + 1 < length xs → take (j + 2) xs ≡ take j xs ++ (get_or xs j 0 ∷ get_or xs (j + 1) 0 ∷ [])
two_more xs j more =
    let e : j + 2 ≡ suc (suc j) = omega arith in
    ap (λ (k : ℕ). take k xs) e
    ∙ take-suc xs (suc j) 0 (omega arith)
    ∙ ap₂ (λ (l : List ℕ) (x : ℕ). l ++ (x ∷ [])) (take-suc xs j 0 (omega arith)) (ap (λ (k : ℕ). get_or xs k 0) (sym (add-one j)))
    ∙ append_snoc (take j xs) (get_or xs j 0) (get_or xs (j + 1) 0 ∷ [])

pub bits_step : (asked : Bool) (w j even odd keys : ℕ) (before : ℕ → Bool) (ms ks : List ℕ)
    → j + 1 < length ms
    → j + 1 < length ks
    → before w ≡ (tests asked w (take j ms) && fits w (take j ks))
    → BitsJoined asked before (get_or ms j 0 ∷ get_or ms (j + 1) 0 ∷ []) (get_or ks j 0 ∷ get_or ks (j + 1) 0 ∷ []) even odd keys
    → bits_fit w even odd keys ≡ (tests asked w (take (j + 2) ms) && fits w (take (j + 2) ks))
bits_step asked w j even odd keys before ms ks more-ms more-ks h s =
    let two-ms : List ℕ = get_or ms j 0 ∷ get_or ms (j + 1) 0 ∷ [] in
    let two-ks : List ℕ = get_or ks j 0 ∷ get_or ks (j + 1) 0 ∷ [] in
    s w
    ∙ ap (λ (t : Bool). t && (tests asked w two-ms && fits w two-ks)) h
    ∙ middle (tests asked w (take j ms)) (fits w (take j ks)) (tests asked w two-ms) (fits w two-ks)
    ∙ sym
    (ap₂ (λ (s t : Bool). s && t)
    (ap (tests asked w) (two_more ms j more-ms) ∙ tests_append asked w (take j ms) two-ms)
    (ap (fits w) (two_more ks j more-ks) ∙ fits_append w (take j ks) two-ks))
