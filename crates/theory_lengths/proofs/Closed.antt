-- Closed messages stay different when their words are filled up with zero words; open ones do not.
-- Assumes nothing.
use mathlib.Core.Path.{◌≡◌, refl, sym, ap, ap₂, ◌∙◌}
use mathlib.Core.List.{List, [], ◌∷◌, ◌++◌}
use Prim.Native.Nat.{ℕ, zero, suc, ◌+◌, ◌*◌, ◌-◌, ◌/◌, ◌≤◌, ◌<◌}
use native.Mathlib.Nat.{div-add-mod', mod-lt, suc-mul, mul-le-mul_right}
use native.Mathlib.Decide.{dec_le}
use native.Mathlib.Omega.{arith}
use lib.ListN.{length, get_or, drop, replicate, drop_of_length-le, get_or-eq_default}
use lib.Seq.{get_or-drop}
use Rattle.theory_lengths.specs.CommonKey.{filled_up}
use Rattle.sum_bytes.specs.Bytes.{little_endian, words_from, count_of, in_words, closed, words_of, Bytes}
use Rattle.theory_lengths.specs.Closed.{KeepsApart, ClosedApart, OpenAlike}
use Rattle.sum_bytes.proofs.Closing.{closing_byte, closed_small}
use Rattle.sum_bytes.proofs.Words.{words_none, words_length, words_append}
use Rattle.sum_bytes.proofs.FromBytes.{bytes_from}

-- as many words as are counted hold all bytes
count_enough : (c n : ℕ) → 1 ≤ c → n ≤ count_of c n * c
unfolding count_of
count_enough c n pos = omega (arith, div-add-mod' (n + (c - 1)) c, mod-lt (n + (c - 1)) pos)

-- words filled up with zero words are more words of the same bytes
more_words : (c t T : ℕ) (xs : List ℕ) → t ≤ T → length xs ≤ t * c → words_from c t xs ++ replicate (T - t) 0 ≡ words_from c T xs
more_words c t T xs le all =
    let none : drop (t * c) xs ≡ [] = drop_of_length-le xs all in
    ap (λ (l : List ℕ). words_from c t xs ++ l) (sym (ap (words_from c (T - t)) none ∙ words_none c (T - t)))
    ∙ words_append c t (T - t) xs
    ∙ ap (λ (n : ℕ). words_from c n xs) (omega arith)

filled_words : (w T : ℕ) (xs : List ℕ) → 1 ≤ w / 8 → length (in_words w xs) ≤ T
    → (filled_up T (in_words w xs) ≡ words_from (w / 8) T xs) × (length xs ≤ T * (w / 8))
unfolding filled_up in_words
filled_words w T xs pos le =
    let c : ℕ = w / 8 in
    let t : ℕ = count_of c (length xs) in
    let long : length (words_from c t xs) ≡ t = words_length c t xs in
    let few : t ≤ T = omega arith in
    let all : length xs ≤ t * c = count_enough c (length xs) pos in (
      ap (λ (n : ℕ). words_from c t xs ++ replicate (T - n) 0) long ∙ more_words c t T xs few all,
      omega (arith, mul-le-mul_right c few),
    )

-- equal words have equal bytes
little_same : (c : ℕ) (xs ys : List ℕ) → Bytes xs → Bytes ys → little_endian c xs ≡ little_endian c ys → (j : ℕ) → j < c → get_or xs j 0 ≡ get_or ys j 0
unfolding little_endian
little_same zero xs ys hx hy e j lt = absurd (omega arith)
little_same (suc c) xs ys hx hy e zero lt = omega (arith, hx 0, hy 0)
little_same (suc c) xs ys hx hy e (suc j) lt =
    sym (get_or-drop 1 xs j 0 ∙ ap (λ (n : ℕ). get_or xs n 0) (omega arith))
    ∙ little_same c (drop 1 xs) (drop 1 ys) (bytes_from 1 xs hx) (bytes_from 1 ys hy) (omega (arith, hx 0, hy 0)) j (omega arith)
    ∙ (get_or-drop 1 ys j 0 ∙ ap (λ (n : ℕ). get_or ys n 0) (omega arith))

-- a place in the first c bytes, or after them
in_one_of_two : (c j : ℕ) (xs ys : List ℕ) → (j < c → get_or xs j 0 ≡ get_or ys j 0) → (c ≤ j → get_or (drop c xs) (j - c) 0 ≡ get_or (drop c ys) (j - c) 0)
    → get_or xs j 0 ≡ get_or ys j 0
in_one_of_two c j xs ys first after = go (dec_le c j)
  where
    later : (zs : List ℕ) → c ≤ j → get_or (drop c zs) (j - c) 0 ≡ get_or zs j 0
    later zs le = get_or-drop c zs (j - c) 0 ∙ ap (λ (n : ℕ). get_or zs n 0) (omega arith)

    go : Dec (c ≤ j) → get_or xs j 0 ≡ get_or ys j 0
    go (no lt) = first (omega arith)
    go (yes le) = sym (later xs le) ∙ after le ∙ later ys le

words_same : (c T : ℕ) (xs ys : List ℕ) → Bytes xs → Bytes ys → words_from c T xs ≡ words_from c T ys → (j : ℕ) → j < T * c → get_or xs j 0 ≡ get_or ys j 0
unfolding words_from
words_same c zero xs ys hx hy e j lt = absurd (omega arith)
words_same c (suc T) xs ys hx hy e j lt =
    in_one_of_two c j xs ys
    (little_same c xs ys hx hy (ap (λ (l : List ℕ). get_or l 0 0) e) j)
    (λ le. words_same c T (drop c xs) (drop c ys) (bytes_from c xs hx) (bytes_from c ys hy) (ap (drop 1) e) (j - c) (omega (arith, suc-mul T c)))

-- so filled up with zero words they have equal bytes at every place
bytes_same : (w T : ℕ) (xs ys : List ℕ) → 1 ≤ w / 8 → Bytes xs → Bytes ys → length (in_words w xs) ≤ T → length (in_words w ys) ≤ T
    → filled_up T (in_words w xs) ≡ filled_up T (in_words w ys)
    → (j : ℕ)
    → get_or xs j 0 ≡ get_or ys j 0
bytes_same w T xs ys pos hx hy lx ly e j = go (dec_le (T * (w / 8)) j)
  where
    fx : (filled_up T (in_words w xs) ≡ words_from (w / 8) T xs) × (length xs ≤ T * (w / 8))
    fx = filled_words w T xs pos lx

    fy : (filled_up T (in_words w ys) ≡ words_from (w / 8) T ys) × (length ys ≤ T * (w / 8))
    fy = filled_words w T ys pos ly

    go : Dec (T * (w / 8) ≤ j) → get_or xs j 0 ≡ get_or ys j 0
    go (no lt) = words_same (w / 8) T xs ys hx hy (sym fx.0 ∙ e ∙ fy.0) j (omega arith)
    go (yes le) = get_or-eq_default xs 0 {n = j} (omega (arith, fx.1)) ∙ sym (get_or-eq_default ys 0 {n = j} (omega (arith, fy.1)))

-- the closing byte is the last that is not 0: it tells where the message ends
ends_same : (xs ys : List ℕ) → ((j : ℕ) → get_or (closed xs) j 0 ≡ get_or (closed ys) j 0) → xs ≡ ys
unfolding closed
ends_same [] [] h = refl
ends_same [] (y ∷ ys) h = absurd (omega (arith, h (suc (length ys)), closing_byte ys (length ys) refl))
ends_same (x ∷ xs) [] h = absurd (omega (arith, h (suc (length xs)), closing_byte xs (length xs) refl))
ends_same (x ∷ xs) (y ∷ ys) h = ap₂ (λ (z : ℕ) (l : List ℕ). z ∷ l) (h 0) (ends_same xs ys (λ j. h (suc j)))

pub closed_apart : ClosedApart
unfolding ClosedApart KeepsApart words_of
closed_apart w T xs ys wide hx hy ne lx ly e =
    ne (ends_same xs ys (bytes_same w T (closed xs) (closed ys) (omega arith) (closed_small xs hx) (closed_small ys hy) lx ly e))

-- bytes below 256, each by itself
five : Bytes (5 ∷ [])
five zero = omega arith
five (suc i) = omega arith

five_zero : Bytes (5 ∷ 0 ∷ [])
five_zero zero = omega arith
five_zero (suc zero) = omega arith
five_zero (suc (suc i)) = omega arith

pub open_alike : OpenAlike
unfolding OpenAlike KeepsApart filled_up in_words words_from count_of little_endian
open_alike = (refl, refl, λ law. law 16 1 (5 ∷ []) (5 ∷ 0 ∷ []) (omega arith) five five_zero (λ e. absurd (omega (arith, ap length e))) (omega arith) (omega arith) refl)
