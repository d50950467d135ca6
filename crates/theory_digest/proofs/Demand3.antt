-- Demand 3: the collision bound and the exact count.
-- Assumes nothing.
use mathlib.Core.Path.{◌≡◌, refl, sym, ap, ap₂, ◌∙◌, fun_ext}
use mathlib.Core.Logic.{◌≢◌, ⊎_elim}
use mathlib.Core.List.{List, [], ◌∷◌}
use Prim.Native.Nat.{ℕ, zero, suc, ◌+◌, ◌*◌, ◌-◌, ◌/◌, ◌^◌, ◌≤◌, ◌<◌}
use native.Mathlib.Nat.{eq-zero-or-pos, zero-mul, zero-div, zero-add, suc-add, add-zero, add_assoc, add_comm, le_of_eq, le_trans, mul-le-mul_left, mul_left_comm, pow-succ', sub-add_cancel, suc-ne-zero}
use native.Mathlib.Decide.{ℕ_discrete, dec_lt}
use native.Mathlib.Omega.{arith}
use lib.Dec.{T}
use lib.Pow.{pow-add, pow_pos}
use lib.ListN.{length, get_or, drop}
use Rattle.theory_counts.specs.Words.{fits}
use Rattle.theory_digest.specs.Digest.{whole_sum}
use Rattle.theory_counts.specs.Count.{over_rows, count}
use Rattle.theory_digest.specs.Claims.{keys_that_differ, keys_that_give, CollisionBoundAt, ExactCountAt, CollisionBound, ExactCount}
use Rattle.theory_counts.proofs.Rows.{Equal, AtMost, rows_cong}
use Rattle.theory_digest.proofs.Chain.{chain, chain_total, chain_free}
use Rattle.theory_digest.proofs.Odd.{OddPart, odd_part, odd_times, power, pow_mul}
use Rattle.theory_counts.proofs.Congruent.{congruent, congruent_cancel, congruent_sym}
use Rattle.theory_digest.proofs.Equation.{give_unseen, give_met, differ_unseen, differ_met}
use Rattle.theory_counts.proofs.Tests.{fits_cons}
use Rattle.theory_digest.proofs.Words.{give, apart, row_chain, differ_chain}

chain_cong : (e e' : ℕ → List ℕ → ℕ) → ((d : ℕ) (ks : List ℕ) → e d ks ≡ e' d ks) → chain e ≡ chain e'
chain_cong e e' h = ap chain (fun_ext (λ d. fun_ext (h d)))

-- a word more of the message, a factor 2^w more
one_more : (w t a : ℕ) → 2 ^ w * (a * 2 ^ (w * t)) ≡ a * 2 ^ (w * suc t)
one_more w t a =
    mul_left_comm (2 ^ w) a (2 ^ (w * t))
    ∙ ap (λ (n : ℕ). a * n) (sym (pow-add 2 w (w * t)) ∙ exponent)
  where
    exponent : 2 ^ (w + w * t) ≡ 2 ^ (w * suc t)
    exponent = let e : w + w * t ≡ w * suc t = omega arith in ap (λ (n : ℕ). 2 ^ n) e

module _ (w j b : ℕ) (wide : w ≡ j + b) where
  -- a message whose first word is not 0
  give_first : (m : ℕ) (ms ys : List ℕ) → 0 < m → m < 2 ^ w
      → over_rows w (suc (length ys + length ms)) (chain (give w b (m ∷ ms)) ys) ≡ (2 ^ j) ^ length ys * 2 ^ (w * suc (length ms))
  give_first m ms ys pos lt =
      let o : OddPart w m = odd_part w m pos lt in
      chain_total w o.l (2 * 2 ^ o.i) (give w b (m ∷ ms)) (power w o.l o.i o.split)
      (give_unseen w j b o.l o.i o.s wide o.split m ms o.product)
      Equal (2 ^ j)
      (give_met w j b o.l o.i o.s wide o.split m ms o.product)
      (length ms) ys

  zero_word : (m : ℕ) (ms ks : List ℕ) → m ≡ 0 → whole_sum w (m ∷ ms) ks ≡ whole_sum w ms (drop 1 ks)
  unfolding whole_sum
  zero_word m ms ks e =
      ap (λ (n : ℕ). n * get_or ks 0 0 + n * get_or ks 1 0 / 2 ^ w + whole_sum w ms (drop 1 ks)) e
      ∙ ap₂ (λ (x y : ℕ). x + y / 2 ^ w + whole_sum w ms (drop 1 ks)) (zero-mul (get_or ks 0 0)) (zero-mul (get_or ks 1 0))
      ∙ ap (λ (x : ℕ). 0 + x + whole_sum w ms (drop 1 ks)) (zero-div (2 ^ w))
      ∙ zero-add (whole_sum w ms (drop 1 ks))

  give_zero : (m : ℕ) (ms ys : List ℕ) → m ≡ 0
      → over_rows w (length ms + length ys) (chain (give w b ms) ys) ≡ (2 ^ j) ^ length ys * 2 ^ (w * length ms)
      → over_rows w (suc (length ms + length ys)) (chain (give w b (m ∷ ms)) ys) ≡ (2 ^ j) ^ length ys * 2 ^ (w * suc (length ms))
  give_zero m ms ys e rest =
      chain_free w (length ms + length ys) (give w b (m ∷ ms)) (give w b ms) (λ y ks. ap (λ (n : ℕ). congruent (2 ^ b) n y) (zero_word m ms ks e)) ys
      ∙ ap (λ (n : ℕ). 2 ^ w * n) rest
      ∙ one_more w (length ms) ((2 ^ j) ^ length ys)

  swapped : (m : ℕ) (ms ys : List ℕ) {r : ℕ}
      → over_rows w (suc (length ys + length ms)) (chain (give w b (m ∷ ms)) ys) ≡ r
      → over_rows w (suc (length ms) + length ys) (chain (give w b (m ∷ ms)) ys) ≡ r
  swapped m ms ys h = ap (λ (n : ℕ). over_rows w n (chain (give w b (m ∷ ms)) ys)) (suc-add (length ms) (length ys) ∙ ap suc (add_comm (length ms) (length ys))) ∙ h

  give_total : (ms : List ℕ) (i : ℕ) → get_or ms i 0 ≢ 0 → T (fits w ms) → (ys : List ℕ)
      → over_rows w (length ms + length ys) (chain (give w b ms) ys) ≡ (2 ^ j) ^ length ys * 2 ^ (w * length ms)
  give_total [] i ne t ys = absurd (ne refl)
  give_total (m ∷ ms) zero ne t ys = swapped m ms ys (give_first m ms ys (omega arith) (fits_cons w m ms t).0)
  give_total (m ∷ ms) (suc i) ne t ys =
      ⊎_elim
      (λ e. ap (λ (n : ℕ). over_rows w n (chain (give w b (m ∷ ms)) ys)) (suc-add (length ms) (length ys)) ∙ give_zero m ms ys e (give_total ms i ne (fits_cons w m ms t).1 ys))
      (λ pos. swapped m ms ys (give_first m ms ys pos (fits_cons w m ms t).0))
      (eq-zero-or-pos m)

  -- two messages whose first words differ, m being the larger
  differ_first : (m m' : ℕ) (ms ms' : List ℕ) (p q : ℕ → ℕ) → m' < m → m < 2 ^ w → (t : ℕ) (ds : List ℕ)
      → over_rows w (suc (length ds + t)) (chain (λ d ks. congruent (2 ^ b) (whole_sum w (m ∷ ms) ks + p d) (whole_sum w (m' ∷ ms') ks + q d)) ds)
      ≤ (2 * 2 ^ j) ^ length ds * 2 ^ (w * suc t)
  differ_first m m' ms ms' p q less lt t ds =
      let o : OddPart w (m - m') = odd_part w (m - m') (omega arith) (omega arith) in
      let e : m ≡ m' + odd_times o.s o.l = omega (arith, o.product) in
      chain_total w o.l (2 * 2 ^ o.i) (λ d ks. congruent (2 ^ b) (whole_sum w (m ∷ ms) ks + p d) (whole_sum w (m' ∷ ms') ks + q d))
      (power w o.l o.i o.split)
      (λ d. differ_unseen w j b o.l o.i o.s wide o.split m m' ms ms' e (p d) (q d))
      AtMost (2 * 2 ^ j)
      (λ d x ks. differ_met w j b o.l o.i o.s wide o.split m m' ms ms' e (p d) (q d) ks x)
      t ds

  -- a first word on which the messages agree cancels
  differ_same : (x y : ℕ) (xs ys : List ℕ) → x ≡ y → (d : ℕ) (ks : List ℕ) → apart w b (x ∷ xs) (y ∷ ys) d ks ≡ apart w b xs ys d (drop 1 ks)
  unfolding whole_sum
  differ_same x y xs ys e d ks =
      ap (λ (n : ℕ). congruent (2 ^ b) (n * get_or ks 0 0 + n * get_or ks 1 0 / 2 ^ w + whole_sum w ys (drop 1 ks)) (part + whole_sum w xs (drop 1 ks) + d)) (sym e)
      ∙ ap (congruent (2 ^ b) (part + whole_sum w ys (drop 1 ks))) (add_assoc part (whole_sum w xs (drop 1 ks)) d)
      ∙ congruent_cancel (2 ^ b) part (whole_sum w ys (drop 1 ks)) (whole_sum w xs (drop 1 ks) + d) (pow_pos b)
    where
      part : ℕ
      part = x * get_or ks 0 0 + x * get_or ks 1 0 / 2 ^ w

  -- two messages of one length whose first words are x and y
  module _ (x y : ℕ) (xs ys ds : List ℕ) (tx : T (fits w (x ∷ xs))) (ty : T (fits w (y ∷ ys))) where
    bound : ℕ
    bound = (2 * 2 ^ j) ^ length ds * 2 ^ (w * suc (length xs))

    keys : ℕ
    keys = over_rows w (suc (length xs) + length ds) (chain (apart w b (x ∷ xs) (y ∷ ys)) ds)

    reordered : (e : ℕ → List ℕ → ℕ) → ((d : ℕ) (ks : List ℕ) → apart w b (x ∷ xs) (y ∷ ys) d ks ≡ e d ks)
        → over_rows w (suc (length ds + length xs)) (chain e ds) ≤ bound → keys ≤ bound
    unfolding keys
    reordered e h less =
        le_trans
        (le_of_eq
        (ap (λ (n : ℕ). over_rows w n (chain (apart w b (x ∷ xs) (y ∷ ys)) ds)) (suc-add (length xs) (length ds) ∙ ap suc (add_comm (length xs) (length ds)))
        ∙ ap (λ (c : List ℕ → List ℕ → ℕ). over_rows w (suc (length ds + length xs)) (c ds)) (chain_cong (apart w b (x ∷ xs) (y ∷ ys)) e h)))
        less

    second_larger : x < y → keys ≤ bound
    unfolding bound
    second_larger lt =
        reordered (λ d ks. congruent (2 ^ b) (whole_sum w (y ∷ ys) ks + 0) (whole_sum w (x ∷ xs) ks + d))
        (λ d ks. ap (λ (n : ℕ). congruent (2 ^ b) n (whole_sum w (x ∷ xs) ks + d)) (sym (add-zero (whole_sum w (y ∷ ys) ks))))
        (differ_first y x ys xs (λ d. 0) (λ d. d) lt (fits_cons w y ys ty).0 (length xs) ds)

    first_larger : y < x → keys ≤ bound
    unfolding bound
    first_larger lt =
        reordered (λ d ks. congruent (2 ^ b) (whole_sum w (x ∷ xs) ks + d) (whole_sum w (y ∷ ys) ks + 0))
        (λ d ks. congruent_sym (2 ^ b) (whole_sum w (y ∷ ys) ks) (whole_sum w (x ∷ xs) ks + d)
        ∙ ap (congruent (2 ^ b) (whole_sum w (x ∷ xs) ks + d)) (sym (add-zero (whole_sum w (y ∷ ys) ks))))
        (differ_first x y xs ys (λ d. d) (λ d. 0) lt (fits_cons w x xs tx).0 (length xs) ds)

    equal_words : x ≡ y → over_rows w (length xs + length ds) (chain (apart w b xs ys) ds) ≤ (2 * 2 ^ j) ^ length ds * 2 ^ (w * length xs) → keys ≤ bound
    unfolding bound keys
    equal_words e rest =
        le_trans
        (le_of_eq
        (ap (λ (n : ℕ). over_rows w n (chain (apart w b (x ∷ xs) (y ∷ ys)) ds)) (suc-add (length xs) (length ds))
        ∙ chain_free w (length xs + length ds) (apart w b (x ∷ xs) (y ∷ ys)) (apart w b xs ys) (differ_same x y xs ys e) ds))
        (le_trans (mul-le-mul_left (2 ^ w) rest) (le_of_eq (one_more w (length xs) ((2 * 2 ^ j) ^ length ds))))

    by_first : Dec (x ≡ y) → Dec (x < y)
        → (x ≡ y → over_rows w (length xs + length ds) (chain (apart w b xs ys) ds) ≤ (2 * 2 ^ j) ^ length ds * 2 ^ (w * length xs))
        → keys ≤ bound
    by_first (yes e) d rest = equal_words e (rest e)
    by_first (no ne) (yes lt) rest = second_larger lt
    by_first (no ne) (no nlt) rest = first_larger (omega arith)

  differ_total : (xs ys : List ℕ) → length ys ≡ length xs → xs ≢ ys → T (fits w xs) → T (fits w ys) → (ds : List ℕ)
      → over_rows w (length xs + length ds) (chain (apart w b xs ys) ds) ≤ (2 * 2 ^ j) ^ length ds * 2 ^ (w * length xs)
  unfolding bound keys
  differ_total [] [] e ne tx ty ds = absurd (ne refl)
  differ_total [] (y ∷ ys) e ne tx ty ds = absurd (suc-ne-zero (length ys) e)
  differ_total (x ∷ xs) [] e ne tx ty ds = absurd (suc-ne-zero (length xs) (sym e))
  differ_total (x ∷ xs) (y ∷ ys) e ne tx ty ds =
      by_first x y xs ys ds tx ty (ℕ_discrete x y) (dec_lt x y)
      (λ p. differ_total xs ys (omega arith) (λ q. ne (ap₂ (λ (z : ℕ) (zs : List ℕ). z ∷ zs) p q)) (fits_cons w x xs tx).1 (fits_cons w y ys ty).1 ds)

-- the two claims' exponents
exact_power : (w t n j : ℕ) → (2 ^ j) ^ n * 2 ^ (w * t) ≡ 2 ^ (w * t + n * j)
exact_power w t n j =
    ap (λ (k : ℕ). k * 2 ^ (w * t)) (pow_mul j n) ∙ sym (pow-add 2 (n * j) (w * t)) ∙ ap (λ (k : ℕ). 2 ^ k) (add_comm (n * j) (w * t))

bound_power : (w t n j : ℕ) → (2 * 2 ^ j) ^ n * 2 ^ (w * t) ≡ 2 ^ (w * t + n + n * j)
bound_power w t n j =
    ap (λ (k : ℕ). k ^ n * 2 ^ (w * t)) (sym (pow-succ' 2 j)) ∙ exact_power w t n (suc j) ∙ ap (λ (k : ℕ). 2 ^ k) exponent
  where
    exponent : w * t + n * suc j ≡ w * t + n + n * j
    exponent = omega arith

pub exact_count : ExactCount
unfolding ExactCount ExactCountAt keys_that_give count
exact_count w b n t le ms ys m (i, ne) y =
    let wide : w ≡ w - b + b = sym (sub-add_cancel le) in
    rows_cong w (t + n) (λ ks. row_chain w (w - b) b wide ms n ys ks y.long y.below)
    ∙ ap₂ (λ (p q : ℕ). over_rows w (p + q) (chain (give w b ms) ys)) (sym m.long) (sym y.long)
    ∙ give_total w (w - b) b wide ms i ne m.below ys
    ∙ ap₂ (λ (p q : ℕ). (2 ^ (w - b)) ^ q * 2 ^ (w * p)) m.long y.long
    ∙ exact_power w t n (w - b)

pub collision_bound : CollisionBound
unfolding CollisionBound CollisionBoundAt keys_that_differ count
collision_bound w b n t le first second ds m m' ne long =
    let wide : w ≡ w - b + b = sym (sub-add_cancel le) in
    le_trans
    (le_of_eq
    (rows_cong w (t + n) (λ ks. differ_chain w (w - b) b wide first second n ds ks long)
    ∙ ap₂ (λ (p q : ℕ). over_rows w (p + q) (chain (apart w b first second) ds)) (sym m.long) (sym long)))
    (le_trans (differ_total w (w - b) b wide first second (m'.long ∙ sym m.long) ne m.below m'.below ds)
    (le_of_eq (ap₂ (λ (p q : ℕ). (2 * 2 ^ (w - b)) ^ q * 2 ^ (w * p)) m.long long ∙ bound_power w t n (w - b))))
