-- n sums of several parts: the parts in another order, and parts that are taken off again.
use mathlib.Core.Path.{◌≡◌, refl, sym, ap, ◌∙◌}
use mathlib.Core.Bool.{true, false}
use mathlib.Core.List.{List, [], ◌∷◌, ◌++◌}
use Prim.Native.Nat.{ℕ, ◌+◌, ◌-◌, ◌*◌, ◌/◌, ◌%◌, ◌^◌, min}
use native.Mathlib.Nat.{add_comm, mod-lt, mul-mod_left, add-mod_right, div-add-mod'}
use native.Mathlib.Omega.{arith}
use lib.Pow.{pow_pos}
use lib.ListN.{length, get_or, take, drop}
use Rattle.rows.specs.Written.{written}
use Rattle.theory_counts.specs.Words.{fits}
use Rattle.theory_digest.specs.Digest.{whole_sum}
use Rattle.sum_terms.specs.Sums.{add_sums, lack, subtract_sums, summable, checked_less}
use Rattle.sum_terms.specs.Orders.{EitherOrder, AddedAgain}
use Rattle.sum_terms.proofs.Summable.{Sums, are_sums}
use Rattle.sum_terms.proofs.Changes.{changed, length_changed, changed_fit, changed_written, changed_either, changed_back}
use Rattle.sum_terms.proofs.Each.{sums_changed}

-- what x lacks makes a multiple of 2^w with it
pub lack_fills : (w x : ℕ) → (x + lack w x) % 2 ^ w ≡ 0
unfolding lack
lack_fills w x =
    let q : ℕ = x / 2 ^ w * 2 ^ w in
    let whole : x + (2 ^ w - x % 2 ^ w) ≡ q + 2 ^ w = omega (arith, div-add-mod' x (2 ^ w), mod-lt x (pow_pos w)) in
    ap (λ (y : ℕ). y % 2 ^ w) whole ∙ add-mod_right q (2 ^ w) ∙ mul-mod_left (x / 2 ^ w) (2 ^ w)

lack_first : (w x : ℕ) → (lack w x + x) % 2 ^ w ≡ 0
lack_first w x = ap (λ (y : ℕ). y % 2 ^ w) (add_comm (lack w x) x) ∙ lack_fills w x

-- what takes a message off
abbrev pub lacking : ℕ → List ℕ → List ℕ → ℕ
lacking w ms ks = lack w (whole_sum w ms ks)

pub less_changed : (w : ℕ) (ms ks sums : List ℕ) → subtract_sums w ms ks sums ≡ changed w (lacking w ms) ks sums
unfolding subtract_sums changed
less_changed w ms ks [] = refl
less_changed w ms ks (s ∷ sums) = ap (λ (xs : List ℕ). (s + lacking w ms ks) % 2 ^ w ∷ xs) (less_changed w ms (drop 1 ks) sums)

-- two parts in either order, each added or taken off
module _ (w : ℕ) (a b ka kb sums : List ℕ) where
  pub sums_commute : add_sums w a ka (add_sums w b kb sums) ≡ add_sums w b kb (add_sums w a ka sums)
  sums_commute = simp sums_changed (changed_either w (whole_sum w a) (whole_sum w b) ka kb sums)

  pub less_commute : subtract_sums w a ka (add_sums w b kb sums) ≡ add_sums w b kb (subtract_sums w a ka sums)
  less_commute = simp (sums_changed, less_changed) (changed_either w (lacking w a) (whole_sum w b) ka kb sums)

  pub less_commute_less : subtract_sums w a ka (subtract_sums w b kb sums) ≡ subtract_sums w b kb (subtract_sums w a ka sums)
  less_commute_less = simp less_changed (changed_either w (lacking w a) (lacking w b) ka kb sums)

module _ (w : ℕ) (ms ks sums : List ℕ) where
  pub length_less : length (subtract_sums w ms ks sums) ≡ length sums
  length_less = rw less_changed (length_changed w (lacking w ms) ks sums)

  pub less_fit : fits w (subtract_sums w ms ks sums) ≡ true
  less_fit = rw less_changed (changed_fit w (lacking w ms) ks sums)

  -- taken off and added back, and the other way round
  pub added_back : fits w sums ≡ true → add_sums w ms ks (subtract_sums w ms ks sums) ≡ sums
  added_back fit = simp (sums_changed, less_changed) (changed_back w (whole_sum w ms) (lacking w ms) (λ l. lack_first w (whole_sum w ms l)) ks sums fit)

  pub taken_off : fits w sums ≡ true → subtract_sums w ms ks (add_sums w ms ks sums) ≡ sums
  taken_off fit = simp (sums_changed, less_changed) (changed_back w (lacking w ms) (whole_sum w ms) (λ l. lack_fills w (whole_sum w ms l)) ks sums fit)

pub either_order : EitherOrder
unfolding EitherOrder
either_order = sums_commute

pub added_again : AddedAgain
unfolding AddedAgain
added_again = added_back

-- the code's n sums where it takes nothing off
pub less_still : (w n : ℕ) (ms ks sums : List ℕ) → summable w n (length ms) (length ks) ≡ false → sums ≡ checked_less w n ms ks sums
unfolding checked_less
less_still w n ms ks sums e = rw e

-- and where it takes off
pub checked_less_lem : (w n : ℕ) (ms ks sums : List ℕ) → Sums w n (length ms) (length ks) → checked_less w n ms ks sums ≡ subtract_sums w ms ks (take n sums) ++ drop n sums
unfolding checked_less
checked_less_lem w n ms ks sums s = rw (are_sums w n (length ms) (length ks) s)

-- as the loop writes them, place by place
pub less_written : (w n : ℕ) (ms ks sums : List ℕ) → Sums w n (length ms) (length ks)
    → written (λ i. (get_or sums i 0 + lack w (whole_sum w ms (drop i ks))) % 2 ^ w) (min n (length sums)) sums ≡ checked_less w n ms ks sums
less_written w n ms ks sums s =
    changed_written w (lacking w ms) n ks sums
    ∙ ap (λ (l : List ℕ). l ++ drop n sums) (sym (less_changed w ms ks (take n sums)))
    ∙ sym (checked_less_lem w n ms ks sums s)
