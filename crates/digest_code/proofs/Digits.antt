-- Laws of packed digits: two digits more, and the bytes as the loop writes them.
-- Assumes nothing.
use mathlib.Core.Path.{◌≡◌, refl, sym, ap, ap₂, ◌∙◌}
use mathlib.Core.Bool.{Bool, true, false, cond}
use mathlib.Core.List.{List, [], ◌∷◌, ◌++◌}
use Prim.Native.Nat.{ℕ, zero, suc, ◌+◌, ◌*◌, ◌/◌, ◌%◌, ◌^◌, ◌<◌}
use native.Mathlib.Nat.{div-div-eq-div-mul, pow-suc, one-le-pow, mod-lt}
use native.Mathlib.Numerals.{add-one}
use native.Mathlib.Omega.{arith}
use lib.Dec.{eqb}
use lib.ListN.{length, drop, set, length-append, length-set}
use lib.Seq.{append_snoc, drop-cons, drop-set-lt, get_or-set_same}
use borrow.Author.Tests.{eqb-true, eqb-false}
use Rattle.digest_code.specs.Code.{digits, evened, pack_pairs, packed}
use Rattle.digest_code.specs.Bytes.{last_byte, last_bytes}

pub length_digits : (d x : ℕ) → length (digits d x) ≡ d
unfolding digits
length_digits zero x = refl
length_digits (suc d) x = length-append (digits d (x / 10)) (x % 10 ∷ []) ∙ ap (λ (n : ℕ). n + 1) (length_digits d (x / 10)) ∙ add-one d

-- the two lowest digits apart
digits_two : (d x : ℕ) → digits (suc (suc d)) x ≡ digits d (x / 100) ++ (x / 10 % 10 ∷ x % 10 ∷ [])
unfolding digits
digits_two d x =
    append_snoc (digits d (x / 10 / 10)) (x / 10 % 10) (x % 10 ∷ [])
    ∙ ap (λ (q : ℕ). digits d q ++ (x / 10 % 10 ∷ x % 10 ∷ [])) (div-div-eq-div-mul x 10 10)

module _ (ds : List ℕ) (high low : ℕ) where
  evened_two : evened (ds ++ (high ∷ low ∷ [])) ≡ evened ds ++ (high ∷ low ∷ [])
  unfolding evened
  evened_two =
      ap (λ (n : ℕ). cond (eqb n 0) (ds ++ (high ∷ low ∷ [])) (0 ∷ ds ++ (high ∷ low ∷ []))) parity
      ∙ go (eqb (length ds % 2) 0)
    where
      parity : length (ds ++ (high ∷ low ∷ [])) % 2 ≡ length ds % 2
      parity = ap (λ (n : ℕ). n % 2) (length-append ds (high ∷ low ∷ [])) ∙ omega arith

      go : (b : Bool) → cond b (ds ++ (high ∷ low ∷ [])) (0 ∷ ds ++ (high ∷ low ∷ [])) ≡ cond b ds (0 ∷ ds) ++ (high ∷ low ∷ [])
      go true = refl
      go false = refl

evened_even : (ds : List ℕ) → length (evened ds) % 2 ≡ 0
unfolding evened
evened_even ds = go (eqb (length ds % 2) 0) refl
  where
    go : (b : Bool) → eqb (length ds % 2) 0 ≡ b → length (cond b ds (0 ∷ ds)) % 2 ≡ 0
    go true e = eqb-true (length ds % 2) 0 e
    go false e = let odd = eqb-false (length ds % 2) 0 e in omega arith

pack_pairs_two : (ds : List ℕ) (high low : ℕ) → length ds % 2 ≡ 0 → pack_pairs (ds ++ (high ∷ low ∷ [])) ≡ pack_pairs ds ++ ((high * 16 + low) ∷ [])
unfolding pack_pairs
pack_pairs_two [] high low e = refl
pack_pairs_two (x ∷ []) high low e = absurd (omega arith)
pack_pairs_two (x ∷ y ∷ ds) high low e = ap (λ (l : List ℕ). (x * 16 + y) ∷ l) (pack_pairs_two ds high low (omega arith))

-- two digits more are a byte more
pub packed_two : (d x : ℕ) → packed (digits (suc (suc d)) x) ≡ packed (digits d (x / 100)) ++ (last_byte x ∷ [])
unfolding packed
packed_two d x =
    ap (λ (l : List ℕ). pack_pairs (evened l)) (digits_two d x)
    ∙ ap pack_pairs (evened_two (digits d (x / 100)) (x / 10 % 10) (x % 10))
    ∙ pack_pairs_two (evened (digits d (x / 100))) (x / 10 % 10) (x % 10) (evened_even (digits d (x / 100)))

packed_none : (x : ℕ) → packed (digits 0 x) ≡ []
unfolding packed evened pack_pairs digits
packed_none x = refl

-- a single digit is a byte
pub packed_one : (x : ℕ) → x < 10 → packed (digits 1 x) ≡ last_byte x ∷ []
unfolding packed evened pack_pairs digits
packed_one x lt = let e : 0 * 16 + x % 10 ≡ x / 10 % 10 * 16 + x % 10 = omega arith in ap (λ (n : ℕ). n ∷ []) e

-- what is left of a number of two digits more
pub higher : (d x : ℕ) → x < 10 ^ suc (suc d) → x / 100 < 10 ^ d
higher d x lt =
    let e : 10 ^ suc (suc d) ≡ 10 ^ d * 10 * 10 = pow-suc 10 (suc d) ∙ ap (λ (n : ℕ). n * 10) (pow-suc 10 d) in
    omega arith

-- a number of d digits as the loop writes it
pub packed_digits : (d x : ℕ) → x < 10 ^ d → packed (digits d x) ≡ last_bytes ((d + 1) / 2) x
unfolding last_bytes
packed_digits zero x lt = packed_none x
packed_digits (suc zero) x lt = packed_one x lt
packed_digits (suc (suc d)) x lt =
    let half : (suc (suc d) + 1) / 2 ≡ suc ((d + 1) / 2) = omega arith in
    packed_two d x
    ∙ ap (λ (l : List ℕ). l ++ (last_byte x ∷ [])) (packed_digits d (x / 100) (higher d x lt))
    ∙ ap (λ (n : ℕ). last_bytes n x) (sym half)

pub length_bytes : (n x : ℕ) → length (last_bytes n x) ≡ n
unfolding last_bytes
length_bytes zero x = refl
length_bytes (suc n) x = length-append (last_bytes n (x / 100)) (last_byte x ∷ []) ∙ ap (λ (m : ℕ). m + 1) (length_bytes n (x / 100)) ∙ add-one n

-- one byte more of the loop, and its end
pub bytes_step : (n x v : ℕ) (row : List ℕ) → n < length row → v ≡ last_byte x
    → last_bytes n (x / 100) ++ drop n (set row n v) ≡ last_bytes (n + 1) x ++ drop (n + 1) row
unfolding last_bytes
bytes_step n x v row lt e =
    ap (λ (l : List ℕ). last_bytes n (x / 100) ++ l)
    (drop-cons (set row n v) n 0 (omega (arith, length-set row n v))
    ∙ ap₂ (λ (y : ℕ) (l : List ℕ). y ∷ l) (get_or-set_same row n v 0 lt ∙ e) (drop-set-lt (suc n) row n v (omega arith)))
    ∙ sym (append_snoc (last_bytes n (x / 100)) (last_byte x) (drop (suc n) row))
    ∙ ap (λ (m : ℕ). last_bytes m x ++ drop m row) (sym (add-one n))

pub bytes_none : (n x : ℕ) (row : List ℕ) → n ≡ 0 → last_bytes n x ++ drop n row ≡ row
unfolding last_bytes
bytes_none n x row e = ap (λ (m : ℕ). last_bytes m x ++ drop m row) e

-- a number modulo 10^d has d digits
pub below_ten : (d x : ℕ) → x % 10 ^ d < 10 ^ d
below_ten d x = mod-lt x (one-le-pow d 10 (omega arith))
