-- n sums: their number, each of them, a message in two parts, key words that no sum reads, and the words that are kept of them.
use mathlib.Core.Path.{◌≡◌, refl, sym, ap, ap₂, ◌∙◌}
use mathlib.Core.Bool.{true, false}
use mathlib.Core.List.{List, [], ◌∷◌, ◌++◌, map}
use Prim.Native.Nat.{ℕ, zero, suc, ◌+◌, ◌%◌, ◌^◌, min, ◌≤◌, ◌<◌}
use native.Mathlib.Nat.{zero-add, add-zero, zero-mod, add_assoc, mod-eq_of_lt, mod-add-mod}
use native.Mathlib.Omega.{arith}
use borrow.Author.Tests.{ltb-true}
use lib.Dec.{ltb}
use lib.ListN.{length, get_or, take, drop, replicate, length-take, get_or-map}
use lib.Seq.{take-append-le, drop-drop, get_or-take}
use Rattle.std.proofs.lemmas.List.{take-replicate}
use Rattle.rows.specs.Written.{written, over}
use Rattle.rows.proofs.Written.{over_fits}
use Rattle.theory_counts.specs.Words.{fits}
use Rattle.theory_digest.specs.Digest.{whole_sum, one_word, full_words, kept, digest}
use Rattle.theory_counts.proofs.Fits.{both}
use Rattle.theory_digest.proofs.Laws.{sum_append, sum_reads}
use Rattle.sum_terms.specs.Sums.{add_sums, summable, checked_sums}
use Rattle.sum_terms.proofs.Summable.{Sums, are_sums, first_sums, second_sums}
use Rattle.sum_terms.proofs.Changes.{changed, first_places, other_places, length_changed, changed_at, changed_fit, changed_written}

pub sums_changed : (w : ℕ) (ms ks sums : List ℕ) → add_sums w ms ks sums ≡ changed w (whole_sum w ms) ks sums
unfolding add_sums changed
sums_changed w ms ks [] = refl
sums_changed w ms ks (s ∷ sums) = ap (λ (xs : List ℕ). (s + whole_sum w ms ks) % 2 ^ w ∷ xs) (sums_changed w ms (drop 1 ks) sums)

pub length_sums : (w : ℕ) (ms ks sums : List ℕ) → length (add_sums w ms ks sums) ≡ length sums
length_sums w ms ks sums = rw sums_changed (length_changed w (whole_sum w ms) ks sums)

pub drop_swap : (i j : ℕ) (ks : List ℕ) → drop i (drop j ks) ≡ drop j (drop i ks)
drop_swap i j ks =
    let e : j + i ≡ i + j = omega arith in
    drop-drop i j ks ∙ ap (λ (n : ℕ). drop n ks) e ∙ sym (drop-drop j i ks)

-- each sum has the key from its own place on
pub sum_at_lem : (w i : ℕ) (ms ks sums : List ℕ) → i < length sums → get_or (add_sums w ms ks sums) i 0 ≡ (get_or sums i 0 + whole_sum w ms (drop i ks)) % 2 ^ w
sum_at_lem w i ms ks sums lt = rw sums_changed (changed_at w (whole_sum w ms) i ks sums lt)

-- key words after those that the message reaches add nothing
pub sum_more : (w : ℕ) (ms ks more : List ℕ) → length ms < length ks → whole_sum w ms (ks ++ more) ≡ whole_sum w ms ks
sum_more w ms ks more lt =
    sym (sum_reads w ms (ks ++ more))
    ∙ ap (whole_sum w ms) (take-append-le (suc (length ms)) ks more lt)
    ∙ sum_reads w ms ks

pub sums_more : (w : ℕ) (ms ks more sums : List ℕ) → length ms + length sums ≤ length ks → add_sums w ms (ks ++ more) sums ≡ add_sums w ms ks sums
unfolding add_sums
sums_more w ms ks more [] le = refl
sums_more w ms [] more (s ∷ sums) le = absurd (omega arith)
sums_more w ms (k ∷ ks) more (s ∷ sums) le =
    ap₂ (λ (x : ℕ) (xs : List ℕ). (s + x) % 2 ^ w ∷ xs) (sum_more w ms (k ∷ ks) more (omega arith)) (sums_more w ms ks more sums (omega arith))

-- a message in two parts: the second goes on where the first left the key
pub sums_append : (w : ℕ) (a b ks sums : List ℕ) → add_sums w b (drop (length a) ks) (add_sums w a ks sums) ≡ add_sums w (a ++ b) ks sums
unfolding add_sums
sums_append w a b ks [] = refl
sums_append w a b ks (s ∷ sums) =
    ap₂ (λ (x : ℕ) (xs : List ℕ). x ∷ xs)
    (mod-add-mod (s + whole_sum w a ks) (2 ^ w) (whole_sum w b (drop (length a) ks))
    ∙ ap (λ (x : ℕ). x % 2 ^ w) (add_assoc s (whole_sum w a ks) (whole_sum w b (drop (length a) ks)) ∙ ap (λ (x : ℕ). s + x) (sym (sum_append w a b ks))))
    (ap (λ (l : List ℕ). add_sums w b l (add_sums w a (drop 1 ks) sums)) (drop_swap 1 (length a) ks)
    ∙ sums_append w a b (drop 1 ks) sums)

-- from zero on the sums are the full-width digest words
pub sums_zero : (w n : ℕ) (ms ks : List ℕ) → add_sums w ms ks (replicate n 0) ≡ full_words w n ms ks
unfolding add_sums full_words one_word
sums_zero w zero ms ks = refl
sums_zero w (suc n) ms ks = ap₂ (λ (x : ℕ) (xs : List ℕ). x % 2 ^ w ∷ xs) (zero-add (whole_sum w ms ks)) (sums_zero w n ms (drop 1 ks))

-- sums that were added to fit
pub sums_fit : (w : ℕ) (ms ks sums : List ℕ) → fits w (add_sums w ms ks sums) ≡ true
sums_fit w ms ks sums = rw sums_changed (changed_fit w (whole_sum w ms) ks sums)

-- no message adds nothing to sums that fit
pub sums_none : (w : ℕ) (ks sums : List ℕ) → fits w sums ≡ true → add_sums w [] ks sums ≡ sums
unfolding fits add_sums whole_sum
sums_none w ks [] h = refl
sums_none w ks (s ∷ sums) h =
    let p = both (ltb s (2 ^ w)) (fits w sums) h in
    ap₂ (λ (x : ℕ) (xs : List ℕ). x ∷ xs)
    (ap (λ (x : ℕ). x % 2 ^ w) (add-zero s) ∙ mod-eq_of_lt (ltb-true s (2 ^ w) p.0))
    (sums_none w (drop 1 ks) sums p.1)

-- the code's n sums where it adds nothing
pub checked_still : (w n : ℕ) (ms ks sums : List ℕ) → summable w n (length ms) (length ks) ≡ false → sums ≡ checked_sums w n ms ks sums
unfolding checked_sums
checked_still w n ms ks sums e = rw e

-- and where it adds
pub checked_sums_lem : (w n : ℕ) (ms ks sums : List ℕ) → Sums w n (length ms) (length ks) → checked_sums w n ms ks sums ≡ add_sums w ms ks (take n sums) ++ drop n sums
unfolding checked_sums
checked_sums_lem w n ms ks sums s = rw (are_sums w n (length ms) (length ks) s)

-- the sums that were added to, and those that were not
module _ (w n : ℕ) (ms ks sums : List ℕ) where
  long : length (add_sums w ms ks (take n sums)) ≡ min n (length sums)
  long = length_sums w ms ks (take n sums) ∙ length-take n sums

  first : take n (add_sums w ms ks (take n sums) ++ drop n sums) ≡ add_sums w ms ks (take n sums)
  first = first_places n (add_sums w ms ks (take n sums)) sums long

  rest : drop n (add_sums w ms ks (take n sums) ++ drop n sums) ≡ drop n sums
  rest = other_places n (add_sums w ms ks (take n sums)) sums long

pub checked_append : (w n : ℕ) (a b ks sums : List ℕ) → Sums w n (length (a ++ b)) (length ks)
    → checked_sums w n b (drop (length a) ks) (checked_sums w n a ks sums) ≡ checked_sums w n (a ++ b) ks sums
checked_append w n a b ks sums s =
    ap (checked_sums w n b (drop (length a) ks)) (checked_sums_lem w n a ks sums (first_sums w n a b ks s))
    ∙ checked_sums_lem w n b (drop (length a) ks) (add_sums w a ks (take n sums) ++ drop n sums) (second_sums w n a b ks s)
    ∙ ap₂ (λ (x y : List ℕ). add_sums w b (drop (length a) ks) x ++ y) (first w n a ks sums) (rest w n a ks sums)
    ∙ ap (λ (x : List ℕ). x ++ drop n sums) (sums_append w a b ks (take n sums))
    ∙ sym (checked_sums_lem w n (a ++ b) ks sums s)

-- sums that begin at zero are the digest's full-width words
pub checked_zero : (w n : ℕ) (ms ks : List ℕ) → Sums w n (length ms) (length ks) → take n (checked_sums w n ms ks (replicate 8 0)) ≡ full_words w n ms ks
checked_zero w n ms ks s =
    ap (take n) (checked_sums_lem w n ms ks (replicate 8 0) s)
    ∙ first w n ms ks (replicate 8 0)
    ∙ ap (add_sums w ms ks) (take-replicate n 8 0 s.words)
    ∙ sums_zero w n ms ks

-- the words that are kept of the sums
pub length_map : (f : ℕ → ℕ) (words : List ℕ) → length (map f words) ≡ length words
length_map f [] = refl
length_map f (x ∷ words) = ap suc (length_map f words)

pub kept_at : (b n i : ℕ) (words : List ℕ) → i < n → get_or (map (kept b) (take n words)) i 0 ≡ kept b (get_or words i 0)
unfolding kept
kept_at b n i words lt =
    ap (get_or (map (kept b) (take n words)) i) (sym (zero-mod (2 ^ b)))
    ∙ get_or-map (kept b) (take n words) i 0
    ∙ ap (kept b) (get_or-take n words i 0 lt)

pub length_full : (w n : ℕ) (ms ks : List ℕ) → length (full_words w n ms ks) ≡ n
unfolding full_words
length_full w zero ms ks = refl
length_full w (suc n) ms ks = ap suc (length_full w n ms (drop 1 ks))

pub length_digest : (w b n : ℕ) (ms ks : List ℕ) → length (digest w b n ms ks) ≡ n
unfolding digest
length_digest w b n ms ks = length_map (kept b) (full_words w n ms ks) ∙ length_full w n ms ks

-- the digest, as the sums from zero are written
pub digest_written : (w b n : ℕ) (ms ks sums old : List ℕ) → Sums w n (length ms) (length ks) → n ≤ length old → sums ≡ checked_sums w n ms ks (replicate 8 0)
    → over (map (kept b) (take n sums)) old ≡ digest w b n ms ks ++ drop (length (digest w b n ms ks)) old
unfolding digest
digest_written w b n ms ks sums old s room e =
    let same : map (kept b) (take n sums) ≡ digest w b n ms ks = ap (λ (l : List ℕ). map (kept b) (take n l)) e ∙ ap (map (kept b)) (checked_zero w n ms ks s) in
    ap (λ (l : List ℕ). over l old) same ∙ over_fits (digest w b n ms ks) old (omega (arith, length_digest w b n ms ks))

-- the sums as the loop writes them, place by place
pub sums_written : (w n : ℕ) (ms ks sums : List ℕ) → Sums w n (length ms) (length ks)
    → written (λ i. (get_or sums i 0 + whole_sum w ms (drop i ks)) % 2 ^ w) (min n (length sums)) sums ≡ checked_sums w n ms ks sums
sums_written w n ms ks sums s =
    changed_written w (whole_sum w ms) n ks sums
    ∙ ap (λ (l : List ℕ). l ++ drop n sums) (sym (sums_changed w ms ks (take n sums)))
    ∙ sym (checked_sums_lem w n ms ks sums s)
