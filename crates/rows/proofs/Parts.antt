-- Parts of a row, as a callee is lent them.
use mathlib.Core.Path.{◌≡◌, refl}
use mathlib.Core.List.{List, [], ◌∷◌}
use Prim.Native.Nat.{ℕ, zero, suc, ◌-◌}
use native.Mathlib.Omega.{arith}
use lib.ListN.{length, take, drop, length-drop}
use lib.Seq.{take_all}

-- one word dropped before or after the others
pub drop_one : (n : ℕ) (ks : List ℕ) → drop n (drop 1 ks) ≡ drop (suc n) ks
drop_one zero [] = refl
drop_one (suc n) [] = refl
drop_one n (k ∷ ks) = refl

-- a part to the end
pub part_to_end : (n i : ℕ) (words : List ℕ) → length words ≡ n → take (n - i) (drop i words) ≡ drop i words
part_to_end n i words e = take_all (n - i) (drop i words) (omega (arith, length-drop i words))
