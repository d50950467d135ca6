-- Demand 3's corollaries: document 01's ranges, collisions, 003's three theorems, and what the tests inside the count mean.
-- Assumes nothing.
use mathlib.Core.Path.{◌≡◌, refl, sym, ap, ap₂, ◌∙◌, subst}
use mathlib.Core.Bool.{Bool, ◌&&◌}
use mathlib.Core.List.{List, [], ◌∷◌}
use Prim.Native.Nat.{ℕ, zero, suc, ◌+◌, ◌*◌, ◌-◌, ◌%◌, ◌^◌, ◌≤◌}
use native.Mathlib.Nat.{add-zero, mod-mod, le_refl, le_of_eq, le_trans, mul-le-mul_right, sub-add_cancel, one-mul}
use native.Mathlib.Omega.{arith}
use lib.Dec.{eqb}
use lib.Pow.{pow-add}
use lib.ListN.{replicate, length-replicate, drop, get_or}
use Rattle.theory_counts.specs.Words.{fits}
use Rattle.theory_digest.specs.Digest.{whole_sum, one_word, full_words, kept, digest}
use Rattle.theory_counts.specs.Count.{sum_to, over_rows, as_number, count, same_row, every, differ_by}
use Rattle.theory_digest.specs.Claims.{keys_that_differ, CollisionBoundAt, ExactCountAt, CollisionBound, ExactCount}
use Rattle.theory_digest.specs.Corollaries.{CollisionBoundInRange, ExactCountInRange, ZeroDifferences, keys_that_collide, Collisions, Balanced, Theorem1, Theorem2, Theorem3, Lemma1Step, Lemma1Slip, Theorem3Slip}
use Rattle.theory_counts.proofs.Rows.{rows_cong}
use Rattle.theory_counts.proofs.Congruent.{eqb_same}
use Rattle.theory_digest.proofs.Demand3.{collision_bound, exact_count}

pub collision_bound_in_range : CollisionBoundInRange
unfolding CollisionBoundInRange CollisionBound
collision_bound_in_range w b n t r _ = collision_bound w b n t r.kept

pub exact_count_in_range : ExactCountInRange
unfolding ExactCountInRange ExactCount
exact_count_in_range w b n t r _ = exact_count w b n t r.kept

pub zero_differences : ZeroDifferences
unfolding ZeroDifferences digest full_words differ_by every same_row kept
zero_differences w b zero first second ks = refl
zero_differences w b (suc n) first second ks =
    ap₂ (λ (x y : Bool). x && y) (word (one_word w first ks) (one_word w second ks)) (zero_differences w b n first second (drop 1 ks))
  where
    word : (x y : ℕ) → eqb (kept b y % 2 ^ b) ((kept b x + 0) % 2 ^ b) ≡ eqb (kept b x) (kept b y)
    word x y =
        ap₂ eqb (mod-mod y (2 ^ b)) (ap (λ (n : ℕ). n % 2 ^ b) (add-zero (x % 2 ^ b)) ∙ mod-mod x (2 ^ b))
        ∙ eqb_same (y % 2 ^ b) (x % 2 ^ b) (x % 2 ^ b) (y % 2 ^ b) sym sym

-- so a collision is counted either way
pub collide_differ : (w b n t : ℕ) (first second : List ℕ) → keys_that_collide w b n t first second ≡ keys_that_differ w b n t first second (replicate n 0)
unfolding keys_that_collide keys_that_differ count ZeroDifferences
collide_differ w b n t first second = rows_cong w (t + n) (λ ks. ap as_number (sym (zero_differences w b n first second ks)))

pub collisions : Collisions
unfolding Collisions CollisionBound CollisionBoundAt
collisions w b n t first second le m m' ne =
    le_trans (le_of_eq (collide_differ w b n t first second)) (collision_bound w b n t le first second (replicate n 0) m m' ne (length-replicate n 0))

-- a count times 2^(n·b) against the number of all keys
all_keys : (w b n t c : ℕ) → b ≤ w → 2 ^ (w * t + c + n * (w - b)) * 2 ^ (n * b) ≡ 2 ^ c * 2 ^ (w * (t + n))
all_keys w b n t c le =
    sym (pow-add 2 (w * t + c + n * (w - b)) (n * b)) ∙ ap (λ (k : ℕ). 2 ^ k) (exponent (w - b) (sym (sub-add_cancel le))) ∙ pow-add 2 c (w * (t + n))
  where
    exponent : (j : ℕ) → w ≡ j + b → w * t + c + n * j + n * b ≡ c + w * (t + n)
    exponent j wide = let e : w * n ≡ (j + b) * n = ap (λ (k : ℕ). k * n) wide in omega arith

-- 003's theorems at once: n words, b bits kept; ε_d = 2^(−nb), ε_c = 2^(n−nb)
pub balanced : (w b n t : ℕ) → b ≤ w → Balanced w b n t (n * b) n
unfolding ExactCount ExactCountAt Collisions
balanced w b n t le =
    record {
      distribution = λ ms ys m z y.
          le_of_eq
          (ap (λ (k : ℕ). k * 2 ^ (n * b)) (exact_count w b n t le ms ys m z y ∙ ap (λ (k : ℕ). 2 ^ (k + n * (w - b))) (sym (add-zero (w * t))))
          ∙ all_keys w b n t 0 le
          ∙ one-mul (2 ^ (w * (t + n))));
      collision = λ first second m m' ne.
          le_trans (mul-le-mul_right (2 ^ (n * b)) (collisions w b n t first second le m m' ne)) (le_of_eq (all_keys w b n t n le));
    }

pub theorem_1 : Theorem1
unfolding Theorem1
theorem_1 w t = subst (λ (e : ℕ). Balanced w w 1 t e 1) (one-mul w) (balanced w w 1 t (le_refl w))

pub theorem_2 : Theorem2
unfolding Theorem2
theorem_2 w b t le = subst (λ (e : ℕ). Balanced w b 1 t e 1) (one-mul b) (balanced w b 1 t le)

pub theorem_3 : Theorem3
unfolding Theorem3
theorem_3 w n t = balanced w w n t (le_refl w)

pub lemma_1_slip : Lemma1Slip
unfolding Lemma1Slip Lemma1Step
lemma_1_slip h = omega arith

pub theorem_3_slip : Theorem3Slip
unfolding Theorem3Slip fits whole_sum one_word full_words kept digest sum_to over_rows as_number count same_row keys_that_collide
theorem_3_slip h =
    let many : 24 ≤ 16 =
    h.collision (1 ∷ []) (3 ∷ []) (record { long = refl; below = tt }) (record { long = refl; below = tt })
    (λ e. let z : ◌≡◌ {A = ℕ} 1 3 = ap (λ (l : List ℕ). get_or l 0 0) e in omega arith) in
    omega arith
