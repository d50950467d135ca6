-- The largest number so far: the first number, a larger one, one that is smaller, one that is as large.
use mathlib.Core.Path.{◌≡◌, refl, sym, ap, ◌∙◌}
use mathlib.Core.Bool.{Bool, true, false}
use Prim.Native.Nat.{ℕ, ◌+◌, ◌≤◌, ◌<◌}
use native.Mathlib.Nat.{le_refl, not-suc-le-zero, mul-one, add-zero}
use native.Mathlib.Omega.{arith}
use borrow.Author.Count.{below_more}
use borrow.Author.Tests.{eq-eqb, ne_eqb}
use lib.Dec.{eqb}
use Rattle.theory_counts.specs.Count.{sum_to, as_number}
use Rattle.theory_counts.proofs.Sums.{sum_zeros, sum_next, sum_le, sum_const}
use Rattle.theory_counts.specs.Largest.{reaches, Largest}

-- here each place is named
abbrev pub every_place : ℕ → Bool
every_place a = true

module _ (f : ℕ → ℕ) where
  reaches_it : (x a : ℕ) → f a ≡ x → 1 ≡ reaches every_place f x a
  unfolding reaches as_number
  reaches_it x a e = sym (ap as_number (eq-eqb (f a) x e))

  reaches_not : (x a : ℕ) → (f a ≡ x → ⊥) → 0 ≡ reaches every_place f x a
  unfolding reaches as_number
  reaches_not x a ne = sym (ap as_number (ne_eqb (f a) x ne))

  pub largest_start : (x : ℕ) → x ≡ f 0 → Largest every_place f 1 x 0 1
  unfolding sum_to
  largest_start x e =
      record {
        within = omega arith;
        is_named = refl;
        reached = sym e;
        most = λ a h p. below_more (λ a. f a ≤ x) 0 (λ a h. absurd (not-suc-le-zero h)) (omega arith) a h;
        before = λ a h p. absurd (not-suc-le-zero h);
        times = sum_next (reaches every_place f x) 0 0 1 refl (reaches_it x 0 (sym e));
      }

  module _ (n largest first places : ℕ) (l : Largest every_place f n largest first places) (x : ℕ) (is : x ≡ f n) where
    pub largest_new : largest < x → Largest every_place f (n + 1) x n 1
    largest_new more =
        record {
          within = omega arith;
          is_named = refl;
          reached = sym is;
          most = λ a h p. below_more (λ a. f a ≤ x) n (λ a h. omega (arith, l.most a h refl)) (omega arith) a h;
          before = λ a h p. omega (arith, l.most a h refl);
          times = sum_next (reaches every_place f x) n 0 1
              (sym (sum_zeros n (reaches every_place f x) (λ a h. sym (reaches_not x a (λ e. omega (arith, l.most a h refl))))))
              (reaches_it x n (sym is));
        }

    pub largest_kept : x < largest → Largest every_place f (n + 1) largest first places
    largest_kept less =
        record {
          within = omega (arith, l.within);
          is_named = refl;
          reached = l.reached;
          most = λ a h p. below_more (λ a. f a ≤ largest) n (λ a h. l.most a h refl) (omega arith) a h;
          before = l.before;
          times = sym (add-zero places) ∙ sum_next (reaches every_place f largest) n places 0 l.times (reaches_not largest n (λ e. omega arith));
        }

    pub largest_again : x ≡ largest → Largest every_place f (n + 1) largest first (places + 1)
    largest_again e =
        record {
          within = omega (arith, l.within);
          is_named = refl;
          reached = l.reached;
          most = λ a h p. below_more (λ a. f a ≤ largest) n (λ a h. l.most a h refl) (omega arith) a h;
          before = l.before;
          times = sum_next (reaches every_place f largest) n places 1 l.times (reaches_it largest n (sym is ∙ e));
        }

    -- no more places than there are
    pub few_places : places ≤ n
    unfolding reaches as_number
    few_places = omega (arith, l.times, few, sum_const n 1, mul-one n)
      where
        few : sum_to n (reaches every_place f largest) ≤ sum_to n (λ a. 1)
        few = sum_le n {f = reaches every_place f largest} {g = λ a. 1} (λ a. at_most_one (eqb (f a) largest))
          where
            at_most_one : (b : Bool) → as_number b ≤ 1
            at_most_one true = le_refl 1
            at_most_one false = omega arith
