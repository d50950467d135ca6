-- Where the code sums: what it has passed, the parts of a message that it sums, and the range test of their words.
use mathlib.Core.Path.{◌≡◌, refl, sym, ap, ap₂, ◌∙◌}
use mathlib.Core.Bool.{Bool, true, false, not, ◌&&◌, and_assoc}
use mathlib.Core.List.{List, ◌++◌}
use Prim.Native.Nat.{ℕ, ◌+◌, ◌-◌, ◌≤◌}
use native.Mathlib.Decide.{dec_le}
use native.Mathlib.Omega.{arith}
use borrow.Author.Tests.{leb-true, le-leb, lt-leb, not-true}
use lib.Dec.{leb}
use lib.ListN.{length, take, drop, length-append, length-drop, take-append-drop}
use lib.Seq.{take-take, take_all, take-add}
use Rattle.theory_counts.specs.Words.{fits}
use Rattle.theory_counts.proofs.Fits.{both, fits_append}
use Rattle.answers.specs.Table.{bad_width, bad_count}
use Rattle.answers.proofs.Validation.{width_passed, width_passes, count_passed, count_passes}
use Rattle.sum_terms.specs.Sums.{summable, tests, checked_fit}

-- a width and a number of sums in range, and key words for t message words
pub record Sums (w n t k : ℕ) : Type 0 where
  pub some_width : 1 ≤ w
  pub width : w ≤ 32
  pub some_words : 1 ≤ n
  pub words : n ≤ 8
  pub keys : t + n ≤ k

module _ (w n t k : ℕ) where
  pub sums_are : summable w n t k ≡ true → Sums w n t k
  unfolding summable
  sums_are e =
      let p = both (not (bad_width w)) (not (bad_count n) && leb (t + n) k) e in
      let q = both (not (bad_count n)) (leb (t + n) k) p.1 in
      let width = width_passed w (not-true _ p.0) in
      let words = count_passed n (not-true _ q.0) in
      record { some_width = width.0; width = width.1; some_words = words.0; words = words.1; keys = leb-true (t + n) k q.1 }

  pub are_sums : Sums w n t k → summable w n t k ≡ true
  unfolding summable
  are_sums s = rw (width_passes w s.some_width s.width, count_passes n s.some_words s.words, le-leb (t + n) k s.keys)

-- the key's words counted without the last n, as the code does
pub without_last : (t n k : ℕ) → n ≤ k → leb t (k - n) ≡ leb (t + n) k
without_last t n k le = go (dec_le (t + n) k)
  where
    go : Dec (t + n ≤ k) → leb t (k - n) ≡ leb (t + n) k
    go (yes h) = le-leb t (k - n) (omega arith) ∙ sym (le-leb (t + n) k h)
    go (no h) = lt-leb t (k - n) (omega arith) ∙ sym (lt-leb (t + n) k (omega arith))

-- a message in two parts: the sums of both, where those of the whole are
module _ (w n : ℕ) (a b ks : List ℕ) where
  pub first_sums : Sums w n (length (a ++ b)) (length ks) → Sums w n (length a) (length ks)
  first_sums s = record { some_width = s.some_width; width = s.width; some_words = s.some_words; words = s.words; keys = omega (arith, s.keys, length-append a b) }

  pub second_sums : Sums w n (length (a ++ b)) (length ks) → Sums w n (length b) (length (drop (length a) ks))
  second_sums s =
      record { some_width = s.some_width; width = s.width; some_words = s.some_words; words = s.words; keys = omega (arith, s.keys, length-append a b, length-drop (length a) ks) }

-- the key's words that the first part reads and those that the second does
twice : (x y : Bool) → (x && (x && y)) ≡ (x && y)
twice true y = refl
twice false y = refl

fits_front : (w m n : ℕ) (ks : List ℕ) → m ≤ n → (fits w (take m ks) && fits w (take n ks)) ≡ fits w (take n ks)
fits_front w m n ks le =
    let all : List ℕ = take n ks in
    let parts : fits w all ≡ (fits w (take m ks) && fits w (drop m all)) =
    ap (fits w) (sym (take-append-drop m all)) ∙ fits_append w (take m all) (drop m all) ∙ ap (λ (l : List ℕ). fits w l && fits w (drop m all)) (take-take m n ks le) in
    ap (λ (t : Bool). fits w (take m ks) && t) parts ∙ twice (fits w (take m ks)) (fits w (drop m all)) ∙ sym parts

fits_seam : (w n a b : ℕ) (ks : List ℕ) → (fits w (take (a + n) ks) && fits w (take (b + n) (drop a ks))) ≡ fits w (take (a + b + n) ks)
fits_seam w n a b ks =
    let after : List ℕ = drop a ks in
    let order : a + b + n ≡ a + (b + n) = omega arith in
    ap (λ (t : Bool). t && fits w (take (b + n) after)) (ap (fits w) (take-add a n ks) ∙ fits_append w (take a ks) (take n after))
    ∙ and_assoc (fits w (take a ks)) (fits w (take n after)) (fits w (take (b + n) after))
    ∙ ap (λ (t : Bool). fits w (take a ks) && t) (fits_front w n (b + n) after (omega arith))
    ∙ sym (ap (λ (m : ℕ). fits w (take m ks)) order ∙ ap (fits w) (take-add a (b + n) ks) ∙ fits_append w (take a ks) (take (b + n) after))

pub tests_append : (asked : Bool) (w : ℕ) (a b : List ℕ) → tests asked w (a ++ b) ≡ (tests asked w a && tests asked w b)
unfolding tests
tests_append true w a b = fits_append w a b
tests_append false w a b = refl

-- the range test where the code sums
pub checked_fit_lem : (asked : Bool) (w n : ℕ) (ms ks : List ℕ) → Sums w n (length ms) (length ks) → checked_fit asked w n ms ks ≡ (tests asked w ms && fits w (take (length ms + n) ks))
unfolding checked_fit
checked_fit_lem asked w n ms ks s = rw (are_sums w n (length ms) (length ks) s)

pub checked_unfit : (asked : Bool) (w n : ℕ) (ms ks : List ℕ) → summable w n (length ms) (length ks) ≡ false → false ≡ checked_fit asked w n ms ks
unfolding checked_fit
checked_unfit asked w n ms ks e = rw e

-- of a key that has no more words than are read
pub checked_fit_all : (asked : Bool) (w n : ℕ) (ms ks : List ℕ) → Sums w n (length ms) (length ks) → length ks ≡ length ms + n → checked_fit asked w n ms ks ≡ (tests asked w ms && fits w ks)
checked_fit_all asked w n ms ks s e = checked_fit_lem asked w n ms ks s ∙ ap (λ (l : List ℕ). tests asked w ms && fits w l) (take_all (length ms + n) ks (omega arith))

pub middle : (p q r s : Bool) → ((p && q) && (r && s)) ≡ ((p && r) && (q && s))
middle true true r s = refl
middle true false true s = refl
middle true false false s = refl
middle false q r s = refl

pub checked_fit_append : (asked : Bool) (w n : ℕ) (a b ks : List ℕ) → Sums w n (length (a ++ b)) (length ks)
    → (checked_fit asked w n a ks && checked_fit asked w n b (drop (length a) ks)) ≡ checked_fit asked w n (a ++ b) ks
checked_fit_append asked w n a b ks s =
    ap₂ (λ (x y : Bool). x && y) (checked_fit_lem asked w n a ks (first_sums w n a b ks s)) (checked_fit_lem asked w n b (drop (length a) ks) (second_sums w n a b ks s))
    ∙ middle (tests asked w a) (fits w (take (length a + n) ks)) (tests asked w b) (fits w (take (length b + n) (drop (length a) ks)))
    ∙ ap₂ (λ (x y : Bool). x && y) (sym (tests_append asked w a b)) (fits_seam w n (length a) (length b) ks ∙ ap (λ (m : ℕ). fits w (take (m + n) ks)) (sym (length-append a b)))
    ∙ sym (checked_fit_lem asked w n (a ++ b) ks s)
