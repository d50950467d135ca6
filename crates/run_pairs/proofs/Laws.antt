-- The count over the keys in order, by turns of a loop and by the table; it is at least 1 and at most the claims' bound.
use mathlib.Core.Path.{◌≡◌, refl, sym, ap, ◌∙◌}
use mathlib.Core.Bool.{and-true}
use mathlib.Core.List.{List, [], ◌∷◌, head-eq_of_cons-eq}
use Prim.Native.Nat.{ℕ, zero, suc, ◌+◌, ◌*◌, ◌/◌, ◌%◌, ◌≤◌, ◌<◌}
use native.Mathlib.Nat.{le_refl, mul-zero}
use native.Mathlib.Omega.{arith}
use borrow.Author.Tests.{lt-ltb}
use Rattle.theory_counts.specs.Count.{sum_to, count, over_rows, as_number, same_row}
use Rattle.theory_counts.specs.Words.{fits, Row}
use Rattle.theory_digest.specs.Digest.{whole_sum, one_word, full_words, kept, digest}
use Rattle.theory_digest.specs.Corollaries.{keys_that_collide, Collisions}
use Rattle.theory_counts.specs.Tests.{RowTest}
use Rattle.theory_counts.proofs.Sums.{sum_cong, sum_cong_below, sum_first, sum_prod}
use Rattle.theory_counts.proofs.Tests.{holds, row_test}
use Rattle.theory_digest.proofs.Corollaries.{collisions}
use Rattle.digest_code.specs.Code.{code_number, code}
use Rattle.theory_codes.specs.Claims.{keys_that_agree, CodeBound}
use Rattle.theory_codes.proofs.Agreeing.{code_bound}
use Rattle.theory_pairs.specs.Agree.{compared, agreeing, bound_of, PairsBounded, key_at}
use Rattle.run_pairs.specs.Values.{AllValued, same_at, agreeing_in}

-- the two parts of a place
pub quotient : (a b : ℕ) → b < 128 → (a * 128 + b) / 128 ≡ a
quotient a b h = omega arith

pub remainder : (a b : ℕ) → b < 128 → (a * 128 + b) % 128 ≡ b
remainder a b h = omega arith

-- 1 where the two messages agree under the key, else 0
agree_under : ℕ → ℕ → ℕ → List ℕ → ℕ
agree_under d first second ks = as_number (same_row (compared d (first ∷ []) ks) (compared d (second ∷ []) ks))

-- one count for the digest and the code, by the row that is compared
by_rows : (d first second : ℕ) → agreeing d first second ≡ over_rows 7 2 (agree_under d first second)
unfolding agree_under agreeing compared keys_that_collide keys_that_agree count
by_rows zero first second = refl
by_rows (suc d) first second = refl

-- a sum over the keys of two words takes them in order
in_order : (f : List ℕ → ℕ) → over_rows 7 2 f ≡ sum_to 16384 (λ i. f (key_at i))
unfolding over_rows
in_order f =
    sym
    (sum_prod 128 128 (λ i. f (key_at i))
    ∙ sum_cong 128 (λ k. sum_cong_below 128 _ _ (λ next h. rw (quotient k next h, remainder k next h))))

by_keys : (d first second : ℕ) → agreeing d first second ≡ sum_to 16384 (λ i. agree_under d first second (key_at i))
by_keys d first second = by_rows d first second ∙ in_order (agree_under d first second)

-- the table gives the counts
pub by_values : (d : ℕ) (rows : List (List ℕ)) → AllValued d rows 128 → (first second : ℕ) → first < 128 → second < 128
    → agreeing d first second ≡ agreeing_in rows first second
unfolding agree_under same_at same_row
by_values d rows valued first second hf hs =
    by_keys d first second
    ∙ sum_cong_below 16384 _ _ (λ i h. rw (valued first hf i h, valued second hs i h) (ap as_number (and-true _)))

-- the key of two zeros gives every message the digest 0, so each pair agrees under some key
zero_digest : (m : ℕ) → digest 7 7 1 (m ∷ []) (0 ∷ 0 ∷ []) ≡ 0 ∷ []
unfolding digest full_words kept one_word whole_sum
zero_digest m = simp mul-zero

zero_key : (d first second : ℕ) → compared d (first ∷ []) (0 ∷ 0 ∷ []) ≡ compared d (second ∷ []) (0 ∷ 0 ∷ [])
unfolding compared code code_number
zero_key zero first second = zero_digest first ∙ sym (zero_digest second)
zero_key (suc d) first second = rw (zero_digest first, zero_digest second)

pub some_key : (d first second : ℕ) → 1 ≤ agreeing d first second
unfolding agree_under RowTest as_number
some_key d first second =
    let a : List ℕ = compared d (first ∷ []) (key_at 0) in
    let b : List ℕ = compared d (second ∷ []) (key_at 0) in
    let one : agree_under d first second (key_at 0) ≡ 1 = ap as_number (holds (same_row a b) ((row_test a b).1 (zero_key d first second))) in
    omega (arith, by_keys d first second, sum_first 16383 (λ i. agree_under d first second (key_at i)))

-- the claims' bound holds of every pair
one_word_row : (m : ℕ) → m < 128 → Row 7 1 (m ∷ [])
unfolding fits
one_word_row m h = record { long = refl; below = rw (lt-ltb m 128 h) tt }

other_row : (first second : ℕ) → first < second → first ∷ [] ≡ second ∷ [] → ⊥
other_row first second less e = omega (arith, head-eq_of_cons-eq e)

pub bounded : PairsBounded
unfolding PairsBounded agreeing bound_of Collisions CodeBound
bounded zero first second less small =
    collisions 7 7 1 1 (first ∷ []) (second ∷ []) (le_refl 7) (one_word_row first (omega arith)) (one_word_row second small) (other_row first second less)
bounded (suc d) first second less small =
    code_bound 7 (suc d) 1 (first ∷ []) (second ∷ []) (one_word_row first (omega arith)) (one_word_row second small) (other_row first second less)
