-- The pair 1 and 1 + 2^h: its count, and what follows for the bound.
-- Assumes nothing.
use mathlib.Core.Path.{◌≡◌, refl, sym, ap, ap₂, ◌∙◌}
use mathlib.Core.Logic.{◌≢◌}
use mathlib.Core.List.{List, [], ◌∷◌}
use Prim.Native.Nat.{ℕ, zero, suc, ◌+◌, ◌*◌, ◌-◌, ◌/◌, ◌^◌, ◌≤◌, ◌<◌}
use native.Mathlib.Nat.{one-mul, mul_left_comm, mul-le-mul_left, mul-lt-mul_of_pos_right, div-eq_of_lt, le_refl, le_trans, le_of_eq, pow-suc, sub_self, sub-add_cancel}
use native.Mathlib.Numerals.{add-one}
use native.Mathlib.Omega.{arith}
use lib.Pow.{pow-add, pow_pos, pow_mono}
use lib.ListN.{get_or}
use borrow.Author.Tests.{lt-ltb}
use Rattle.theory_counts.specs.Words.{fits, Row}
use Rattle.theory_digest.specs.Digest.{whole_sum}
use Rattle.theory_counts.specs.Count.{sum_to, over_rows, count}
use Rattle.theory_digest.specs.Claims.{keys_that_differ, CollisionBound, CollisionBoundAt}
use Rattle.theory_digest.specs.TightPair.{pair_keys, PairCount, PairCountKept, PairInBound, half, UpToOnePart, BoundOfPart, WholeBound, NoSmallerBound, ExceededFrom, TwoBits, SevenBits, ThirtyTwoBits}
use Rattle.theory_counts.proofs.Sums.{sum_cong, sum_cong_below, sum_swap}
use Rattle.theory_counts.proofs.Congruent.{congruent, congruent_cancel}
use Rattle.theory_counts.proofs.Rows.{rows_cong}
use Rattle.theory_digest.proofs.Chain.{chain}
use Rattle.theory_digest.proofs.Words.{differ_chain}
use Rattle.theory_digest.proofs.Demand3.{collision_bound}
use Rattle.theory_digest.proofs.PairSums.{all_keys}

-- the count as sums over the two key words
by_words : (w b h : ℕ) → b ≤ w → pair_keys w b h ≡ sum_to (2 ^ w) (λ k. sum_to (2 ^ w) (λ j. congruent (2 ^ b) (k * 2 ^ h + (1 + 2 ^ h) * j / 2 ^ w) 0))
unfolding pair_keys keys_that_differ count over_rows chain whole_sum
by_words w b h le =
    rows_cong w 2 (λ ks. differ_chain w (w - b) b (sym (sub-add_cancel le)) (1 ∷ []) ((1 + 2 ^ h) ∷ []) 1 (0 ∷ []) ks refl)
    ∙ sum_cong (2 ^ w) (λ k. sum_cong_below (2 ^ w) _ _ (word k))
  where
    word : (k j : ℕ) → j < 2 ^ w
        → 1 * congruent (2 ^ b) ((1 + 2 ^ h) * k + (1 + 2 ^ h) * j / 2 ^ w + 0) (1 * k + 1 * j / 2 ^ w + 0 + 0)
        ≡ congruent (2 ^ b) (k * 2 ^ h + (1 + 2 ^ h) * j / 2 ^ w) 0
    word k j lt =
        one-mul _
        ∙ ap₂ (congruent (2 ^ b)) (larger (2 ^ h) ((1 + 2 ^ h) * j / 2 ^ w)) smaller
        ∙ congruent_cancel (2 ^ b) k (k * 2 ^ h + (1 + 2 ^ h) * j / 2 ^ w) 0 (pow_pos b)
      where
        larger : (H u : ℕ) → (1 + H) * k + u + 0 ≡ k + (k * H + u)
        larger H u = omega arith

        none : 1 * j / 2 ^ w ≡ 0
        none = ap (λ (n : ℕ). n / 2 ^ w) (one-mul j) ∙ div-eq_of_lt lt

        smaller : 1 * k + 1 * j / 2 ^ w + 0 + 0 ≡ k + 0
        smaller = ap (λ (n : ℕ). 1 * k + n + 0 + 0) none ∙ omega arith

pub pair_count_kept : PairCountKept
unfolding PairCountKept
pair_count_kept w b h le lt lo hi =
    by_words w b h hi
    ∙ sum_swap (2 ^ w) (2 ^ w) (λ k j. congruent (2 ^ b) (k * 2 ^ h + (1 + 2 ^ h) * j / 2 ^ w) 0)
    ∙ ap (λ (n : ℕ). sum_to (2 ^ w) (λ j. sum_to (2 ^ w) (λ k. congruent n (k * 2 ^ h + (1 + 2 ^ h) * j / 2 ^ w) 0))) (power b lo)
    ∙ all_keys g (2 ^ h) (2 ^ w) fewer wide (2 ^ (w - b)) (2 ^ (b - h)) (pow_pos (b - h)) split
    ∙ mul_left_comm (suc g + g) (2 ^ (w - b)) (2 ^ h)
    ∙ ap (λ (n : ℕ). 2 ^ (w - b) * n) counted
  where
    g : ℕ
    g = 2 ^ (w - h) - 1

    power : (n : ℕ) → h ≤ n → 2 ^ n ≡ 2 ^ (n - h) * 2 ^ h
    power n le = ap (λ (e : ℕ). 2 ^ e) (sym (sub-add_cancel le)) ∙ pow-add 2 (n - h) h

    whole : suc g ≡ 2 ^ (w - h)
    whole = omega (arith, pow_pos (w - h))

    fewer : suc g ≤ 2 ^ h
    fewer = le_trans (le_of_eq whole) (pow_mono (omega arith))

    wide : 2 ^ w ≡ suc g * 2 ^ h
    wide = power w (omega arith) ∙ ap (λ (n : ℕ). n * 2 ^ h) (sym whole)

    split : suc g ≡ 2 ^ (w - b) * 2 ^ (b - h)
    split = whole ∙ ap (λ (e : ℕ). 2 ^ e) (omega arith) ∙ pow-add 2 (w - b) (b - h)

    counted : (suc g + g) * 2 ^ h ≡ 2 ^ (w + 1) - 2 ^ h
    counted =
        let twice : 2 ^ (w + 1) ≡ 2 ^ w * 2 = ap (λ (e : ℕ). 2 ^ e) (add-one w) ∙ pow-suc 2 w in
        omega (arith, wide)

pub pair_count : PairCount
unfolding PairCount PairCountKept
pair_count w h le lt =
    pair_count_kept w w h (omega arith) lt (omega arith) (le_refl w)
    ∙ ap (λ (e : ℕ). 2 ^ e * (2 ^ (w + 1) - 2 ^ h)) (sub_self w)
    ∙ one-mul (2 ^ (w + 1) - 2 ^ h)

pub pair_in_bound : PairInBound
unfolding PairInBound fits
pair_in_bound w h le lt = (
  record { long = refl; below = rw (lt-ltb 1 (2 ^ w) (omega (arith, fits_width))) tt },
  record { long = refl; below = rw (lt-ltb (1 + 2 ^ h) (2 ^ w) fits_width) tt },
  λ e. let z : 1 ≡ 1 + 2 ^ h = ap (λ (l : List ℕ). get_or l 0 0) e in omega (arith, pow_pos h),
)
  where
    fits_width : 1 + 2 ^ h < 2 ^ w
    fits_width =
        let two : 2 ^ 1 ≤ 2 ^ h = pow_mono {i = 1} (omega arith) in
        let twice : 2 ^ suc h ≤ 2 ^ w = pow_mono lt in
        omega (arith, pow-suc 2 h)

-- half a width from 2 on is such an h
half_enough : (w : ℕ) → w ≤ 2 * half w
unfolding half
half_enough w = omega arith

half_below : (w : ℕ) → 2 ≤ w → half w < w
unfolding half
half_below w le = omega arith

-- what the pair leaves of the bound
left_over : (w : ℕ) → 2 ≤ w → pair_keys w w (half w) + 2 ^ half w ≡ 2 ^ (w + 1)
unfolding PairCount
left_over w le =
    let count : pair_keys w w (half w) ≡ 2 ^ (w + 1) - 2 ^ half w = pair_count w (half w) (half_enough w) (half_below w le) in
    let less : 2 ^ half w ≤ 2 ^ (w + 1) = pow_mono (omega (arith, half_below w le)) in
    omega arith

-- in parts of the bound
parts : (w : ℕ) → 2 ^ half w * 2 ^ (w / 2 + 1) ≡ 2 ^ (w + 1)
unfolding half
parts w = sym (pow-add 2 ((w + 1) / 2) (w / 2 + 1)) ∙ ap (λ (e : ℕ). 2 ^ e) (omega arith)

pub up_to_one_part : UpToOnePart
unfolding UpToOnePart
up_to_one_part w le =
    let rest : 2 ^ (w + 1) - pair_keys w w (half w) ≡ 2 ^ half w = omega (arith, left_over w le) in
    ap (λ (n : ℕ). n * 2 ^ (w / 2 + 1)) rest ∙ parts w

pub whole_bound : WholeBound
unfolding WholeBound BoundOfPart CollisionBound CollisionBoundAt
whole_bound w b n t first second ds le m m' ne e =
    le_trans (le_of_eq (one-mul _)) (le_trans (collision_bound w b n t le first second ds m m' ne e) (le_of_eq (sym (one-mul _))))

below_power : (n : ℕ) → n < 2 ^ n
below_power zero = omega arith
below_power (suc n) = omega (arith, below_power n, pow-suc 2 n)

-- there are more such parts than the width has bits
width_below : (w : ℕ) → w < 2 ^ (w / 2 + 1)
width_below w =
    let few : w / 2 < 2 ^ (w / 2) = below_power (w / 2) in
    let twice : 2 ^ (w / 2 + 1) ≡ 2 ^ (w / 2) * 2 = ap (λ (e : ℕ). 2 ^ e) (add-one (w / 2)) ∙ pow-suc 2 (w / 2) in
    omega arith

pub exceeded_from : ExceededFrom
unfolding ExceededFrom
exceeded_from p q w lt le two =
    let whole : q * (pair_keys w w (half w) + 2 ^ half w) ≡ q * 2 ^ (w + 1) = ap (λ (n : ℕ). q * n) (left_over w two) in
    let rest : q * 2 ^ half w < 2 ^ (w / 2 + 1) * 2 ^ half w = mul-lt-mul_of_pos_right (omega (arith, width_below w)) (pow_pos (half w)) in
    let more : 2 ^ (w + 1) * suc p ≤ 2 ^ (w + 1) * q = mul-le-mul_left (2 ^ (w + 1)) lt in
    omega (arith, parts w)

pub no_smaller_bound : NoSmallerBound
unfolding NoSmallerBound BoundOfPart ExceededFrom PairInBound pair_keys
no_smaller_bound p q lt bound =
    let w : ℕ = q + 2 in
    let pair : Row w 1 (1 ∷ []) × Row w 1 ((1 + 2 ^ half w) ∷ []) × ((1 ∷ []) ≢ ((1 + 2 ^ half w) ∷ [])) = pair_in_bound w (half w) (half_enough w) (half_below w (omega arith)) in
    let most : q * pair_keys w w (half w) ≤ p * 2 ^ (w * 1 + 1 + 1 * (w - w)) = bound w w 1 1 (1 ∷ []) ((1 + 2 ^ half w) ∷ []) (0 ∷ []) (le_refl w) pair.0 pair.1 pair.2 refl in
    let exponent : p * 2 ^ (w * 1 + 1 + 1 * (w - w)) ≡ p * 2 ^ (w + 1) = ap (λ (e : ℕ). p * 2 ^ e) (omega arith) in
    let passed : p * 2 ^ (w + 1) < q * pair_keys w w (half w) = exceeded_from p q w (omega arith) (omega arith) (omega arith) in
    omega arith

pub two_bits : TwoBits
unfolding TwoBits PairCount pair_keys
two_bits = pair_count 2 1 (omega arith) (omega arith)

pub seven_bits : SevenBits
unfolding SevenBits PairCount pair_keys
seven_bits = pair_count 7 4 (omega arith) (omega arith)

pub thirty_two_bits : ThirtyTwoBits
unfolding ThirtyTwoBits PairCount pair_keys
thirty_two_bits = pair_count 32 16 (omega arith) (omega arith)
