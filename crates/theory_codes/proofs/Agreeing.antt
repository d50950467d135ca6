-- How many keys give two messages one code. Under such a key the two digests differ, modulo 2^w, by one of 2F + 1 multiples of 10^d.
-- Assumes nothing.
use mathlib.Core.Path.{◌≡◌, refl, sym, ap, subst, ◌∙◌}
use mathlib.Core.Bool.{Bool, true, false, ◌&&◌}
use mathlib.Core.List.{List, [], ◌∷◌}
use Prim.Native.Nat.{ℕ, zero, suc, ◌+◌, ◌*◌, ◌-◌, ◌/◌, ◌%◌, ◌^◌, ◌≤◌, ◌<◌, zero-le}
use native.Mathlib.Nat.{le_refl, le_of_eq, le_trans, mod-lt, add-mod_right, div-add-mod', div-mul-le_self, le-div_iff_mul-le, one-le-pow, add-mul}
use native.Mathlib.Decide.{dec_lt}
use native.Mathlib.Omega.{arith}
use lib.Dec.{T}
use lib.Pow.{pow_pos}
use lib.ListN.{get_or}
use borrow.Author.Tests.{eq-eqb}
use Rattle.theory_digest.specs.Digest.{whole_sum, digest, one_word}
use Rattle.theory_counts.specs.Count.{sum_to, as_number, count, same_row, every, differ_by}
use Rattle.theory_digest.specs.Claims.{keys_that_differ, CollisionBound, CollisionBoundAt}
use Rattle.theory_counts.specs.Tests.{RowTest}
use Rattle.theory_counts.proofs.Sums.{sum_le, sum_const}
use Rattle.theory_counts.proofs.Rows.{rows_rel, rows_sum, AtMost}
use Rattle.theory_digest.proofs.Demand3.{collision_bound}
use Rattle.theory_counts.proofs.Tests.{row_test}
use Rattle.digest_code.specs.Code.{code_number, code}
use Rattle.digest_code.specs.Reading.{SameCode}
use Rattle.theory_codes.specs.Claims.{keys_that_agree, largest_quotient, most_code_keys, CodeBound}
use Rattle.digest_code.proofs.Valid.{whole_word}
use Rattle.digest_code.proofs.Reading.{same_code}

-- tests one of which holds
one_more : (n : ℕ) (p : ℕ → Bool) (j : ℕ) → j < suc n → p j ≡ true → (j < n → 1 ≤ sum_to n (λ i. as_number (p i))) → Dec (j < n)
    → 1 ≤ sum_to n (λ i. as_number (p i)) + as_number (p n)
unfolding as_number
one_more n p j lt e before (yes less) = omega (arith, before less)
one_more n p j lt e before (no last) =
    let same : n ≡ j = omega arith in
    let one : as_number (p n) ≡ 1 = ap (λ (i : ℕ). as_number (p i)) same ∙ ap as_number e in
    omega arith

one_of : (n : ℕ) (p : ℕ → Bool) (j : ℕ) → j < n → p j ≡ true → 1 ≤ sum_to n (λ i. as_number (p i))
unfolding sum_to
one_of zero p j lt e = absurd (omega arith)
one_of (suc n) p j lt e = one_more n p j lt e (λ less. one_of n p j less e) (dec_lt j n)

module _ (w d : ℕ) where
  -- the named differences: from -F times 10^d to F times 10^d, modulo 2^w
  abbrev multiple : ℕ → ℕ
  multiple j = j * 10 ^ d + (2 ^ w - largest_quotient w d * 10 ^ d)

  quotient : (z : ℕ) → z < 2 ^ w → z / 10 ^ d ≤ largest_quotient w d
  unfolding largest_quotient
  quotient z lt = (le-div_iff_mul-le (one-le-pow d 10 (omega arith))).1 (omega (arith, div-mul-le_self z (10 ^ d)))

  -- two numbers below 2^w with one remainder modulo 10^d
  module _ (x y : ℕ) (hx : x < 2 ^ w) (hy : y < 2 ^ w) (same : x % 10 ^ d ≡ y % 10 ^ d) where
    abbrev which : ℕ
    which = largest_quotient w d + y / 10 ^ d - x / 10 ^ d

    within : which < 2 * largest_quotient w d + 1
    within = omega (arith, quotient x hx, quotient y hy)

    apart : x + multiple which ≡ y + 2 ^ w
    unfolding largest_quotient
    apart =
        let p : ℕ = 10 ^ d in
        let f : ℕ = (2 ^ w - 1) / p in
        let e : which + x / p ≡ f + y / p = omega (arith, quotient x hx) in
        let g : which * p + x / p * p ≡ f * p + y / p * p = sym (add-mul which (x / p) p) ∙ ap (λ (n : ℕ). n * p) e ∙ add-mul f (y / p) p in
        omega (arith, div-add-mod' x p, div-add-mod' y p, div-mul-le_self (2 ^ w - 1) p, pow_pos w)

    named : y % 2 ^ w ≡ (x + multiple which) % 2 ^ w
    named = sym (ap (λ (n : ℕ). n % 2 ^ w) apart ∙ add-mod_right y (2 ^ w))

-- one key: where the codes agree, some named difference of the digests holds
module _ (w d : ℕ) (first second ks : List ℕ) where
  abbrev differs : ℕ → Bool
  differs j = differ_by w 1 (digest w w 1 first ks) (digest w w 1 second ks) (multiple w d j ∷ [])

  below : (ms : List ℕ) → get_or (digest w w 1 ms ks) 0 0 < 2 ^ w
  unfolding one_word
  below ms = subst (λ (x : ℕ). x < 2 ^ w) (sym (whole_word w ms ks)) (mod-lt (whole_sum w ms ks) (pow_pos w))

  some_multiple : code w d first ks ≡ code w d second ks → 1 ≤ sum_to (2 * largest_quotient w d + 1) (λ j. as_number (differs j))
  unfolding differ_by every SameCode code_number
  some_multiple e =
      let x : ℕ = get_or (digest w w 1 first ks) 0 0 in
      let y : ℕ = get_or (digest w w 1 second ks) 0 0 in
      let same : x % 10 ^ d ≡ y % 10 ^ d = (same_code w d first second ks ks).0 e in
      one_of (2 * largest_quotient w d + 1) differs (which w d x y (below first) (below second) same) (within w d x y (below first) (below second) same)
      (ap (λ (b : Bool). b && true) (eq-eqb _ _ (named w d x y (below first) (below second) same)))

  one_key : as_number (same_row (code w d first ks) (code w d second ks)) ≤ sum_to (2 * largest_quotient w d + 1) (λ j. as_number (differs j))
  unfolding RowTest as_number
  one_key = go (same_row (code w d first ks) (code w d second ks)) refl
    where
      go : (b : Bool) → same_row (code w d first ks) (code w d second ks) ≡ b → as_number b ≤ sum_to (2 * largest_quotient w d + 1) (λ j. as_number (differs j))
      go true e = some_multiple ((row_test (code w d first ks) (code w d second ks)).0 (subst T (sym e) tt))
      go false e = zero-le

pub code_bound : CodeBound
unfolding CodeBound keys_that_agree most_code_keys count CollisionBound CollisionBoundAt keys_that_differ
code_bound w d t first second m m' ne =
    le_trans
    (rows_rel AtMost w (t + 1) _ (λ ks. sum_to (2 * largest_quotient w d + 1) (λ j. as_number (differs w d first second ks j))) (λ ks. one_key w d first second ks))
    (le_trans
    (le_of_eq (sym (rows_sum w (t + 1) (2 * largest_quotient w d + 1) (λ j ks. as_number (differs w d first second ks j)))))
    (le_trans
    (sum_le (2 * largest_quotient w d + 1) (λ j. collision_bound w w 1 t (le_refl w) first second (multiple w d j ∷ []) m m' ne refl))
    (le_of_eq (sum_const (2 * largest_quotient w d + 1) (2 ^ (w * t + 1 + 1 * (w - w))) ∙ ap (λ (e : ℕ). (2 * largest_quotient w d + 1) * 2 ^ e) exponent))))
  where
    exponent : w * t + 1 + 1 * (w - w) ≡ w * t + 1
    exponent = omega arith
