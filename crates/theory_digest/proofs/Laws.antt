-- Laws of the sum before reduction, for every width and every two rows.
use mathlib.Core.Path.{◌≡◌, refl, ap, sym, ◌∙◌}
use mathlib.Core.List.{List, [], ◌∷◌, ◌++◌}
use Prim.Native.Nat.{ℕ, zero, suc, ◌+◌, ◌*◌, ◌/◌, ◌^◌, ◌≤◌}
use native.Mathlib.Nat.{zero-add, add-zero, add_assoc, zero-mul, zero-div}
use lib.ListN.{length, get_or, take, drop, replicate}
use lib.Seq.{take-take}
use Rattle.theory_digest.specs.Digest.{whole_sum}

-- one more message word in front
pub sum_cons : (w m : ℕ) (ms ks : List ℕ) → whole_sum w (m ∷ ms) ks ≡ m * get_or ks 0 0 + m * get_or ks 1 0 / 2 ^ w + whole_sum w ms (drop 1 ks)
unfolding whole_sum
sum_cons w m ms ks = refl

drop_suc : (n : ℕ) (ks : List ℕ) → drop n (drop 1 ks) ≡ drop (suc n) ks
drop_suc zero [] = refl
drop_suc (suc n) [] = refl
drop_suc n (k ∷ ks) = refl

-- a message in two parts: the second goes on where the first left the key
pub sum_append : (w : ℕ) (a b ks : List ℕ) → whole_sum w (a ++ b) ks ≡ whole_sum w a ks + whole_sum w b (drop (length a) ks)
unfolding whole_sum
sum_append w [] b ks = sym (zero-add _)
sum_append w (m ∷ a) b ks =
    ap (λ (s : ℕ). m * get_or ks 0 0 + m * get_or ks 1 0 / 2 ^ w + s) (rw drop_suc at (sum_append w a b (drop 1 ks)))
    ∙ sym (add_assoc _ _ _)

-- the sum reads no more key words than the message has words, and one
pub sum_reads : (w : ℕ) (ms ks : List ℕ) → whole_sum w ms (take (suc (length ms)) ks) ≡ whole_sum w ms ks
unfolding whole_sum
sum_reads w [] ks = refl
sum_reads w (m ∷ ms) [] = refl
sum_reads w (m ∷ ms) (k ∷ []) = refl
sum_reads w (m ∷ ms) (k ∷ k' ∷ ks) = ap (λ (s : ℕ). m * k + m * k' / 2 ^ w + s) (sum_reads w ms (k' ∷ ks))

-- so a longer key's first words, if they are more than the message has, give the same sum
pub sum_reads_first : (w m : ℕ) (ms ks : List ℕ) → suc (length ms) ≤ m → whole_sum w ms (take m ks) ≡ whole_sum w ms ks
sum_reads_first w m ms ks le =
    sym (sum_reads w ms (take m ks)) ∙ ap (whole_sum w ms) (take-take (suc (length ms)) m ks le) ∙ sum_reads w ms ks

-- zero words alone
zeros_sum : (w z : ℕ) (ks : List ℕ) → whole_sum w (replicate z 0) ks ≡ 0
unfolding whole_sum
zeros_sum w zero ks = refl
zeros_sum w (suc z) ks = rw (zero-mul (get_or ks 0 0), zero-mul (get_or ks 1 0), zero-div (2 ^ w), zeros_sum w z (drop 1 ks))

-- zero words at a message's end add nothing
pub sum_zeros_after : (w z : ℕ) (ms ks : List ℕ) → whole_sum w (ms ++ replicate z 0) ks ≡ whole_sum w ms ks
sum_zeros_after w z ms ks = sum_append w ms (replicate z 0) ks ∙ rw zeros_sum (add-zero (whole_sum w ms ks))
