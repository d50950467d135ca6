-- Two messages of different length under one key: filled up with zero words they are messages of one length with the same digests.
-- Assumes nothing.
use mathlib.Core.Path.{◌≡◌, refl, sym, ap, ap₂, ◌∙◌}
use mathlib.Core.Bool.{Bool}
use mathlib.Core.List.{List, [], ◌∷◌, ◌++◌, map}
use Prim.Native.Nat.{ℕ, zero, suc, ◌+◌, ◌-◌, ◌%◌, ◌^◌, ◌≤◌}
use native.Mathlib.Nat.{add-suc, le_of_eq, le_trans}
use native.Mathlib.Omega.{arith}
use lib.ListN.{length, take, drop, replicate, length-append, length-replicate}
use Rattle.theory_counts.specs.Words.{fits, Row}
use Rattle.theory_digest.specs.Digest.{one_word, full_words, kept, digest}
use Rattle.theory_counts.specs.Count.{as_number, count, same_row, differ_by}
use Rattle.theory_digest.specs.Claims.{keys_that_differ, CollisionBound, CollisionBoundAt}
use Rattle.theory_counts.specs.Tests.{RowTest}
use Rattle.theory_digest.specs.Corollaries.{ZeroDifferences}
use Rattle.theory_lengths.specs.CommonKey.{filled_up, common_keys, common_keys_that_differ, BoundWhere, CommonKeyBound, ZeroWordsAddNothing, ReadsFirstWords, FiveAgrees, FiveUnderAllKeys, NoBoundForWords}
use Rattle.theory_counts.proofs.Rows.{rows_cong, rows_one}
use Rattle.theory_counts.proofs.Fits.{fits_append, fits_zeros}
use Rattle.theory_digest.proofs.Laws.{sum_zeros_after, sum_reads_first}
use Rattle.theory_counts.proofs.Tests.{holds, row_test}
use Rattle.theory_digest.proofs.Demand3.{collision_bound}
use Rattle.theory_digest.proofs.Corollaries.{zero_differences}

full_zeros : (w n z : ℕ) (ms ks : List ℕ) → full_words w n (ms ++ replicate z 0) ks ≡ full_words w n ms ks
unfolding full_words one_word
full_zeros w zero z ms ks = refl
full_zeros w (suc n) z ms ks = ap₂ (λ (x : ℕ) (l : List ℕ). x % 2 ^ w ∷ l) (sum_zeros_after w z ms ks) (full_zeros w n z ms (drop 1 ks))

pub zero_words : ZeroWordsAddNothing
unfolding ZeroWordsAddNothing digest
zero_words w b n z ms ks = ap (map (kept b)) (full_zeros w n z ms ks)

drop_take : (m : ℕ) (ks : List ℕ) → drop 1 (take (suc m) ks) ≡ take m (drop 1 ks)
drop_take zero [] = refl
drop_take (suc m) [] = refl
drop_take m (k ∷ ks) = refl

full_first : (w n : ℕ) (ms ks : List ℕ) → full_words w n ms (take (length ms + n) ks) ≡ full_words w n ms ks
unfolding full_words one_word
full_first w zero ms ks = refl
full_first w (suc n) ms ks =
    ap₂ (λ (x : ℕ) (l : List ℕ). x % 2 ^ w ∷ l)
    (sum_reads_first w (length ms + suc n) ms ks (omega arith))
    (ap (λ (m : ℕ). full_words w n ms (drop 1 (take m ks))) (add-suc (length ms) n)
    ∙ ap (full_words w n ms) (drop_take (length ms + n) ks)
    ∙ full_first w n ms (drop 1 ks))

pub reads_first_words : ReadsFirstWords
unfolding ReadsFirstWords digest
reads_first_words w b n ms ks = ap (map (kept b)) (full_first w n ms ks)

-- under its first words of a key a message has the digest that it has, filled up, under the whole
pub as_filled : (w b n m : ℕ) (ms ks : List ℕ) → digest w b n ms (take (length ms + n) ks) ≡ digest w b n (filled_up m ms) ks
unfolding filled_up ReadsFirstWords ZeroWordsAddNothing
as_filled w b n m ms ks = reads_first_words w b n ms ks ∙ sym (zero_words w b n (m - length ms) ms ks)

-- so each count of common keys, whatever is tested, is one of two messages of one length
pub count_filled : (w b n m : ℕ) (first second : List ℕ) (test : List ℕ → List ℕ → Bool)
    → common_keys w b n m first second test ≡ count w (m + n) (λ ks. test (digest w b n (filled_up m first) ks) (digest w b n (filled_up m second) ks))
unfolding common_keys count
count_filled w b n m first second test =
    rows_cong w (m + n) (λ ks. ap₂ (λ (x y : List ℕ). as_number (test x y)) (as_filled w b n m first ks) (as_filled w b n m second ks))

pub filled_row : (w m t : ℕ) (ms : List ℕ) → t ≤ m → Row w t ms → Row w m (filled_up m ms)
unfolding filled_up
filled_row w m t ms le r =
    record {
      long = length-append ms (replicate (m - length ms) 0) ∙ omega (arith, length-replicate {A = ℕ} (m - length ms) 0);
      below = rw (fits_append w ms (replicate (m - length ms) 0), holds (fits w ms) r.below, fits_zeros w (m - length ms)) tt;
    }

pub common_key_bound : CommonKeyBound
unfolding CommonKeyBound BoundWhere common_keys_that_differ CollisionBound CollisionBoundAt keys_that_differ
common_key_bound w b n m t t' first second ds le r r' few few' apart long =
    le_trans
    (le_of_eq (count_filled w b n m first second (λ x y. differ_by b n x y ds)))
    (collision_bound w b n m le (filled_up m first) (filled_up m second) ds (filled_row w m t first few r) (filled_row w m t' second few' r') apart long)

pub five_agrees : FiveAgrees
unfolding FiveAgrees ReadsFirstWords ZeroWordsAddNothing
five_agrees w b n ks = reads_first_words w b n (5 ∷ []) ks ∙ sym (zero_words w b n 1 (5 ∷ []) ks) ∙ sym (reads_first_words w b n (5 ∷ 0 ∷ []) ks)

-- a digest differs from itself by zeros
pub none_between : (w b n : ℕ) (ms ks : List ℕ) → as_number (differ_by b n (digest w b n ms ks) (digest w b n ms ks) (replicate n 0)) ≡ 1
unfolding RowTest ZeroDifferences as_number
none_between w b n ms ks =
    ap as_number (zero_differences w b n ms ms ks ∙ holds (same_row (digest w b n ms ks) (digest w b n ms ks)) ((row_test (digest w b n ms ks) (digest w b n ms ks)).1 refl))

pub five_under_all_keys : FiveUnderAllKeys
unfolding FiveUnderAllKeys FiveAgrees common_keys_that_differ common_keys count
five_under_all_keys w b n m =
    rows_cong w (m + n)
    (λ ks. ap (λ (x : List ℕ). as_number (differ_by b n x (digest w b n (5 ∷ 0 ∷ []) (take (2 + n) ks)) (replicate n 0))) (five_agrees w b n ks)
    ∙ none_between w b n (5 ∷ 0 ∷ []) (take (2 + n) ks))
    ∙ rows_one w (m + n)

pub no_bound_for_words : NoBoundForWords
unfolding NoBoundForWords BoundWhere FiveUnderAllKeys fits
no_bound_for_words law =
    let many : common_keys_that_differ 3 3 1 2 (5 ∷ []) (5 ∷ 0 ∷ []) (0 ∷ []) ≤ 128 =
    law 3 3 1 2 1 2 (5 ∷ []) (5 ∷ 0 ∷ []) (0 ∷ []) (omega arith) (record { long = refl; below = tt }) (record { long = refl; below = tt }) (omega arith) (omega arith) (λ e. omega (arith, ap length e)) refl in
    omega (arith, five_under_all_keys 3 3 1 2)
