-- Words made of bytes: each of them, their number, words in two parts, and words written one by one.
use mathlib.Core.Path.{◌≡◌, refl, sym, ap, ap₂, ◌∙◌}
use mathlib.Core.List.{List, [], ◌∷◌, ◌++◌}
use Prim.Native.Nat.{ℕ, zero, suc, ◌+◌, ◌*◌, ◌/◌, ◌%◌, ◌-◌, ◌≤◌, ◌<◌}
use native.Mathlib.Nat.{zero-add, add-zero, add_assoc, suc-add, zero-mul, suc-mul, div-add-mod', mod-lt, div-eq_of_lt-le}
use native.Mathlib.Numerals.{add-one}
use native.Mathlib.Omega.{arith}
use lib.ListN.{length, take, drop, replicate, length-drop}
use lib.Seq.{get_or-drop, drop-drop, drop-nil, drop-append-le, length-take-le}
use Rattle.std.proofs.lemmas.List.{take-append-drop, drop-replicate}
use Rattle.std.specs.Int.{w32, from_le_bytes}
use Rattle.rows.specs.Written.{tabulate, written}
use Rattle.rows.proofs.Written.{written_all}
use Rattle.sum_bytes.specs.Bytes.{little_endian, words_from, count_of}

-- the four bytes of a word, as std reads them
pub little_four : (xs : List ℕ) → from_le_bytes w32 xs ≡ little_endian 4 xs
unfolding little_endian
little_four xs = simp (get_or-drop, drop-drop, add-zero, add_assoc) (omega arith)

-- bytes past the end add nothing
little_none : (c : ℕ) → little_endian c [] ≡ 0
unfolding little_endian
little_none zero = refl
little_none (suc c) = omega (arith, little_none c)

pub little_filled : (c d : ℕ) (xs : List ℕ) → length xs ≤ c → c ≤ d → little_endian d xs ≡ little_endian c xs
unfolding little_endian
little_filled c d [] le more = little_none d ∙ sym (little_none c)
little_filled zero d (x ∷ xs) le more = absurd (omega arith)
little_filled (suc c) zero (x ∷ xs) le more = absurd (omega arith)
little_filled (suc c) (suc d) (x ∷ xs) le more = ap (λ (n : ℕ). x + 256 * n) (little_filled c d xs (omega arith) (omega arith))

-- no bytes make zero words
pub words_none : (c t : ℕ) → words_from c t [] ≡ replicate t 0
unfolding words_from
words_none c zero = refl
words_none c (suc t) = ap₂ (λ (x : ℕ) (l : List ℕ). x ∷ l) (little_none c) (ap (words_from c t) (drop-nil c) ∙ words_none c t)

-- zeros after the bytes add nothing
zeros_none : (d k : ℕ) → little_endian d (replicate k 0) ≡ 0
unfolding little_endian
zeros_none zero k = refl
zeros_none (suc d) zero = little_none (suc d)
zeros_none (suc d) (suc k) = omega (arith, zeros_none d k)

little_zeros : (d k : ℕ) (xs : List ℕ) → little_endian d (xs ++ replicate k 0) ≡ little_endian d xs
unfolding little_endian
little_zeros zero k xs = refl
little_zeros (suc d) k [] = zeros_none (suc d) k ∙ sym (little_none (suc d))
little_zeros (suc d) k (x ∷ xs) = ap (λ (n : ℕ). x + 256 * n) (little_zeros d k xs)

-- bytes after those of the words change nothing
little_front : (c : ℕ) (xs ys : List ℕ) → c ≤ length xs → little_endian c (xs ++ ys) ≡ little_endian c xs
unfolding little_endian
little_front zero xs ys le = refl
little_front (suc c) [] ys le = absurd (omega arith)
little_front (suc c) (x ∷ xs) ys le = ap (λ (n : ℕ). x + 256 * n) (little_front c xs ys (omega arith))

-- the first bytes, over four zeros
pub little_loaded : (c : ℕ) (xs : List ℕ) → c ≤ 4 → c ≤ length xs → little_endian 4 (take c xs ++ drop c (replicate 4 0)) ≡ little_endian c xs
little_loaded c xs small there =
    let long : length (take c xs) ≡ c = length-take-le c xs there in
    ap (λ (l : List ℕ). little_endian 4 (take c xs ++ l)) (drop-replicate c 4 0)
    ∙ little_zeros 4 (4 - c) (take c xs)
    ∙ little_filled c 4 (take c xs) (omega arith) small
    ∙ sym (little_front c (take c xs) (drop c xs) (omega arith))
    ∙ ap (little_endian c) (take-append-drop c xs)

pub words_front : (c t : ℕ) (xs ys : List ℕ) → t * c ≤ length xs → words_from c t (xs ++ ys) ≡ words_from c t xs
unfolding words_from
words_front c zero xs ys le = refl
words_front c (suc t) xs ys le =
    let room : c + t * c ≤ length xs = omega (arith, suc-mul t c) in
    ap₂ (λ (x : ℕ) (l : List ℕ). x ∷ l)
    (little_front c xs ys (omega arith))
    (ap (words_from c t) (drop-append-le c xs ys (omega arith)) ∙ words_front c t (drop c xs) ys (omega (arith, length-drop c xs)))

pub words_length : (c t : ℕ) (xs : List ℕ) → length (words_from c t xs) ≡ t
unfolding words_from
words_length c zero xs = refl
words_length c (suc t) xs = ap suc (words_length c t (drop c xs))

-- words in two parts
pub words_append : (c a b : ℕ) (xs : List ℕ) → words_from c a xs ++ words_from c b (drop (a * c) xs) ≡ words_from c (a + b) xs
unfolding words_from
words_append c zero b xs = rw (zero-mul c, zero-add b)
words_append c (suc a) b xs =
    let place : suc a * c ≡ c + a * c = suc-mul a c ∙ omega arith in
    rw (suc-add a b, place, ← drop-drop (a * c) c xs) (ap (λ (l : List ℕ). little_endian c xs ∷ l) (words_append c a b (drop c xs)))

-- words that are given one by one
pub words_tabulate : (c t : ℕ) (xs : List ℕ) → tabulate (λ i. little_endian c (drop (i * c) xs)) t ≡ words_from c t xs
unfolding tabulate words_from
words_tabulate c zero xs = refl
words_tabulate c (suc t) xs =
    ap (λ (l : List ℕ). l ++ (little_endian c (drop (t * c) xs) ∷ [])) (words_tabulate c t xs)
    ∙ words_append c t 1 xs
    ∙ ap (λ (n : ℕ). words_from c n xs) (add-one t)

pub words_written : (c t : ℕ) (xs old : List ℕ) → length old ≡ t → written (λ i. little_endian c (drop (i * c) xs)) t old ≡ words_from c (length old) xs
words_written c t xs old e = written_all _ old t e ∙ words_tabulate c t xs ∙ ap (λ (n : ℕ). words_from c n xs) (sym e)

-- the message's own full words, and that there is a word more
module _ (c full n : ℕ) (pos : 1 ≤ c) (is : full ≡ n / c) where
  pub full_there : (full * c ≤ n) × (n < full * c + c)
  full_there =
      let whole : full * c + n % c ≡ n = ap (λ (q : ℕ). q * c + n % c) is ∙ div-add-mod' n c in
      omega (arith, mod-lt n pos)

  pub count_closed : count_of c (n + 1) ≡ full + 1
  unfolding count_of
  count_closed = let ends = full_there in div-eq_of_lt-le c (omega arith) (omega arith)
