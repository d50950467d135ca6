-- One digest word as an equation over two key words, for one message (003, lemma 1) and for the difference of two (003, theorem 1).
-- Assumes nothing.
use mathlib.Core.Path.{◌≡◌, sym, ap, ap₂, ◌∙◌}
use mathlib.Core.List.{List, [], ◌∷◌}
use Prim.Native.Nat.{ℕ, zero, suc, ◌+◌, ◌*◌, ◌-◌, ◌/◌, ◌%◌, ◌^◌, ◌≤◌, ◌<◌}
use native.Mathlib.Nat.{add_assoc, add-mul, mul-one, le_of_eq, le_trans, le-add_right, le-add_left}
use native.Mathlib.Omega.{arith}
use lib.Pow.{pow-add, pow_pos}
use lib.ListN.{get_or}
use Rattle.theory_digest.specs.Digest.{whole_sum}
use Rattle.theory_counts.specs.Count.{sum_to}
use Rattle.theory_counts.proofs.Sums.{sum_cong, sum_le, sum_add}
use Rattle.theory_digest.proofs.Spread.{two_words}
use Rattle.theory_counts.proofs.Congruent.{congruent, congruent_per, congruent_multiple, congruent_cancel, congruent_difference, sum_congruent}
use Rattle.theory_digest.proofs.Odd.{odd_times, parted, power, carry, carry_small}

-- the first key word apart
pub sum_first_word : (w m : ℕ) (ms : List ℕ) (k : ℕ) (ks : List ℕ)
    → whole_sum w (m ∷ ms) (k ∷ ks) ≡ m * k + (m * get_or ks 0 0 / 2 ^ w + whole_sum w ms ks)
unfolding whole_sum
sum_first_word w m ms k ks = add_assoc (m * k) (m * get_or ks 0 0 / 2 ^ w) (whole_sum w ms ks)

-- the first key word stands under the first message word alone
pub sum_head : (w : ℕ) (ms : List ℕ) (k : ℕ) (ks : List ℕ) → whole_sum w ms (k ∷ ks) ≡ get_or ms 0 0 * k + whole_sum w ms (0 ∷ ks)
unfolding whole_sum
sum_head w [] k ks = omega arith
sum_head w (m ∷ ms) k ks = omega arith

-- the settings, and a word c = (1 + 2s)·2^l
module _ (w j b l i s : ℕ) (wide : w ≡ j + b) (split : w ≡ l + suc i) where
  -- c times the upper part of a key word is a multiple of 2^b
  upper : (z : ℕ) → odd_times s l * (z * (2 * 2 ^ i)) ≡ 2 ^ b * ((1 + 2 * s) * z * 2 ^ j)
  upper z =
      regroup (2 ^ l) (2 ^ i)
      ∙ ap (λ (n : ℕ). (1 + 2 * s) * z * n) (sym (power w l i split) ∙ ap (λ (n : ℕ). 2 ^ n) wide ∙ pow-add 2 j b)
      ∙ regroup' (2 ^ j) (2 ^ b)
    where
      regroup : (L D : ℕ) → (1 + 2 * s) * L * (z * (2 * D)) ≡ (1 + 2 * s) * z * (L * (2 * D))
      regroup L D = omega arith

      regroup' : (J B : ℕ) → (1 + 2 * s) * z * (J * B) ≡ B * ((1 + 2 * s) * z * J)
      regroup' J B = omega arith

  -- so an equation c·k + t ≡ y modulo 2^b does not see the upper part of k
  pub upper_unseen : (z x t y : ℕ) → congruent (2 ^ b) (odd_times s l * parted i z x + t) y ≡ congruent (2 ^ b) (odd_times s l * x + t) y
  upper_unseen z x t y =
      ap (λ (n : ℕ). congruent (2 ^ b) n y) (apart (odd_times s l) (z * (2 * 2 ^ i)) ∙ ap (λ (n : ℕ). odd_times s l * x + t + n) (upper z))
      ∙ congruent_multiple (2 ^ b) (odd_times s l * x + t) ((1 + 2 * s) * z * 2 ^ j) y
    where
      apart : (C Z : ℕ) → C * (Z + x) + t ≡ C * x + t + C * Z
      apart C Z = omega arith

  -- over all first words k and all upper parts z of the second, c·k + (c·k' div 2^w) + h·k' + u is congruent to y exactly 2^(j + l) times
  pub met : (h x u y : ℕ)
      → sum_to (2 ^ w) (λ k. sum_to (2 ^ l) (λ z. congruent (2 ^ b) (odd_times s l * k + (odd_times s l * parted i z x / 2 ^ w + h * parted i z x + u)) y))
      ≡ 2 ^ j * 2 ^ l
  met h x u y =
      two_words w j b l i s wide split (λ a. congruent (2 ^ b) a y) (congruent_per (2 ^ b) y) h x u
      ∙ ap (λ (n : ℕ). 2 ^ j * 2 ^ l * n) (sum_congruent (2 ^ b) y (pow_pos b))
      ∙ mul-one (2 ^ j * 2 ^ l)

  -- one message whose first word is c: the equation "the digest word is y"
  module _ (m : ℕ) (ms : List ℕ) (odd : m ≡ odd_times s l) where
    pub give_unseen : (y z x : ℕ) (ks : List ℕ)
        → congruent (2 ^ b) (whole_sum w (m ∷ ms) (parted i z x ∷ ks)) y ≡ congruent (2 ^ b) (whole_sum w (m ∷ ms) (x ∷ ks)) y
    give_unseen y z x ks = form (parted i z x) ∙ upper_unseen z x (m * get_or ks 0 0 / 2 ^ w + whole_sum w ms ks) y ∙ sym (form x)
      where
        form : (k : ℕ) → congruent (2 ^ b) (whole_sum w (m ∷ ms) (k ∷ ks)) y ≡ congruent (2 ^ b) (odd_times s l * k + (m * get_or ks 0 0 / 2 ^ w + whole_sum w ms ks)) y
        form k =
            ap (λ (n : ℕ). congruent (2 ^ b) n y)
            (sum_first_word w m ms k ks ∙ ap (λ (n : ℕ). n * k + (m * get_or ks 0 0 / 2 ^ w + whole_sum w ms ks)) odd)

    pub give_met : (y x : ℕ) (ks : List ℕ)
        → sum_to (2 ^ w) (λ k. sum_to (2 ^ l) (λ z. congruent (2 ^ b) (whole_sum w (m ∷ ms) (k ∷ parted i z x ∷ ks)) y)) ≡ 2 ^ j * 2 ^ l
    give_met y x ks =
        sum_cong (2 ^ w) (λ k. sum_cong (2 ^ l) (λ z. ap (λ (n : ℕ). congruent (2 ^ b) n y) (form k (parted i z x))))
        ∙ met (get_or ms 0 0) x (whole_sum w ms (0 ∷ ks)) y
      where
        split-form : ℕ → ℕ → ℕ
        split-form k k' = odd_times s l * k + (odd_times s l * k' / 2 ^ w + get_or ms 0 0 * k' + whole_sum w ms (0 ∷ ks))

        form : (k k' : ℕ) → whole_sum w (m ∷ ms) (k ∷ k' ∷ ks) ≡ split-form k k'
        form k k' =
            sum_first_word w m ms k (k' ∷ ks)
            ∙ ap (λ (n : ℕ). m * k + (m * k' / 2 ^ w + n)) (sum_head w ms k' ks)
            ∙ ap (λ (n : ℕ). n * k + (n * k' / 2 ^ w + (get_or ms 0 0 * k' + whole_sum w ms (0 ∷ ks)))) odd
            ∙ ap (λ (n : ℕ). odd_times s l * k + n) (sym (add_assoc (odd_times s l * k' / 2 ^ w) (get_or ms 0 0 * k') (whole_sum w ms (0 ∷ ks))))

  -- two messages whose first words are apart by c: the equation "the larger's digest word plus p is the smaller's plus q"
  module _ (m m' : ℕ) (ms ms' : List ℕ) (apart : m ≡ m' + odd_times s l) (p q : ℕ) where
    differ : List ℕ → ℕ
    differ ks = congruent (2 ^ b) (whole_sum w (m ∷ ms) ks + p) (whole_sum w (m' ∷ ms') ks + q)

    -- the smaller first word cancels
    differ_first : (k : ℕ) (ks : List ℕ)
        → differ (k ∷ ks)
        ≡ congruent (2 ^ b) (odd_times s l * k + (m * get_or ks 0 0 / 2 ^ w + whole_sum w ms ks + p)) (m' * get_or ks 0 0 / 2 ^ w + whole_sum w ms' ks + q)
    unfolding differ
    differ_first k ks =
        ap₂ (congruent (2 ^ b)) larger smaller ∙ congruent_cancel (2 ^ b) (m' * k) (C * k + (A + p)) (B + q) (pow_pos b)
      where
        C : ℕ
        C = odd_times s l

        A : ℕ
        A = m * get_or ks 0 0 / 2 ^ w + whole_sum w ms ks

        B : ℕ
        B = m' * get_or ks 0 0 / 2 ^ w + whole_sum w ms' ks

        regroup : (C A : ℕ) → (m' + C) * k + A + p ≡ m' * k + (C * k + (A + p))
        regroup C A = omega arith

        larger : whole_sum w (m ∷ ms) (k ∷ ks) + p ≡ m' * k + (C * k + (A + p))
        larger = ap (λ (n : ℕ). n + p) (sum_first_word w m ms k ks) ∙ ap (λ (n : ℕ). n * k + A + p) apart ∙ regroup C A

        smaller : whole_sum w (m' ∷ ms') (k ∷ ks) + q ≡ m' * k + (B + q)
        smaller = ap (λ (n : ℕ). n + q) (sum_first_word w m' ms' k ks) ∙ add_assoc (m' * k) B q

    pub differ_unseen : (z x : ℕ) (ks : List ℕ)
        → congruent (2 ^ b) (whole_sum w (m ∷ ms) (parted i z x ∷ ks) + p) (whole_sum w (m' ∷ ms') (parted i z x ∷ ks) + q)
        ≡ congruent (2 ^ b) (whole_sum w (m ∷ ms) (x ∷ ks) + p) (whole_sum w (m' ∷ ms') (x ∷ ks) + q)
    unfolding differ
    differ_unseen z x ks =
        differ_first (parted i z x) ks
        ∙ upper_unseen z x (m * get_or ks 0 0 / 2 ^ w + whole_sum w ms ks + p) (m' * get_or ks 0 0 / 2 ^ w + whole_sum w ms' ks + q)
        ∙ sym (differ_first x ks)

    module _ (ks : List ℕ) where
      minus : ℕ
      minus = 2 ^ b - 1

      next : ℕ
      next = get_or ms 0 0 + minus * get_or ms' 0 0

      later : ℕ
      later = whole_sum w ms (0 ∷ ks) + p + minus * (whole_sum w ms' (0 ∷ ks) + q)

      -- the equation with the carry e
      carried : ℕ → ℕ → ℕ → ℕ
      carried e k k' = congruent (2 ^ b) (odd_times s l * k + (odd_times s l * k' / 2 ^ w + next * k' + (later + e))) 0

      overflow : ℕ → ℕ
      overflow k' = (m' * k' % 2 ^ w + odd_times s l * k' % 2 ^ w) / 2 ^ w

      differ_carried : (k k' : ℕ) → differ (k ∷ k' ∷ ks) ≡ carried (overflow k') k k'
      unfolding minus next later carried overflow
      differ_carried k k' =
          differ_first k (k' ∷ ks)
          ∙ ap₂ (congruent (2 ^ b)) larger smaller
          ∙ congruent_cancel (2 ^ b) (m' * k' / 2 ^ w) (C * k + (C * k' / 2 ^ w + o + (h * k' + u) + p)) (h' * k' + u' + q) (pow_pos b)
          ∙ congruent_difference (2 ^ b) minus (C * k + (C * k' / 2 ^ w + o + (h * k' + u) + p)) (h' * k' + u' + q) (omega (arith, pow_pos b))
          ∙ ap (λ (n : ℕ). congruent (2 ^ b) n 0) (regroup' (C * k) (C * k' / 2 ^ w) o h h' u u' minus)
        where
          C : ℕ
          C = odd_times s l

          o : ℕ
          o = overflow k'

          h : ℕ
          h = get_or ms 0 0

          h' : ℕ
          h' = get_or ms' 0 0

          u : ℕ
          u = whole_sum w ms (0 ∷ ks)

          u' : ℕ
          u' = whole_sum w ms' (0 ∷ ks)

          quotient : m * k' / 2 ^ w ≡ m' * k' / 2 ^ w + C * k' / 2 ^ w + o
          quotient = ap (λ (n : ℕ). n / 2 ^ w) (ap (λ (n : ℕ). n * k') apart ∙ add-mul m' C k') ∙ carry (m' * k') (C * k') (2 ^ w) (pow_pos w)

          regroup : (K A D o t : ℕ) → K + (A + D + o + t + p) ≡ A + (K + (D + o + t + p))
          regroup K A D o t = omega arith

          larger : C * k + (m * k' / 2 ^ w + whole_sum w ms (k' ∷ ks) + p) ≡ m' * k' / 2 ^ w + (C * k + (C * k' / 2 ^ w + o + (h * k' + u) + p))
          larger =
              ap₂ (λ (x y : ℕ). C * k + (x + y + p)) quotient (sum_head w ms k' ks)
              ∙ regroup (C * k) (m' * k' / 2 ^ w) (C * k' / 2 ^ w) o (h * k' + u)

          smaller : m' * k' / 2 ^ w + whole_sum w ms' (k' ∷ ks) + q ≡ m' * k' / 2 ^ w + (h' * k' + u' + q)
          smaller = add_assoc (m' * k' / 2 ^ w) (whole_sum w ms' (k' ∷ ks)) q ∙ ap (λ (n : ℕ). m' * k' / 2 ^ w + (n + q)) (sum_head w ms' k' ks)

          regroup' : (K D o h h' u u' n : ℕ)
              → K + (D + o + (h * k' + u) + p) + n * (h' * k' + u' + q) ≡ K + (D + (h + n * h') * k' + (u + p + n * (u' + q) + o))
          regroup' K D o h h' u u' n = omega arith

      -- the carry is 0 or 1, so the equation is met at most as often as its two cases together: the factor 2 of each digest word
      either : (e k k' : ℕ) → e < 2 → carried e k k' ≤ carried 0 k k' + carried 1 k k'
      either zero k k' lt = le-add_right (carried 0 k k') (carried 1 k k')
      either (suc zero) k k' lt = le-add_left (carried 1 k k') (carried 0 k k')
      either (suc (suc e)) k k' lt = absurd (omega arith)

      pub differ_met : (x : ℕ)
          → sum_to (2 ^ w) (λ k. sum_to (2 ^ l) (λ z. congruent (2 ^ b) (whole_sum w (m ∷ ms) (k ∷ parted i z x ∷ ks) + p)
          (whole_sum w (m' ∷ ms') (k ∷ parted i z x ∷ ks) + q)))
          ≤ 2 * 2 ^ j * 2 ^ l
      unfolding differ carried overflow
      differ_met x =
          le_trans (sum_le (2 ^ w) (λ k. sum_le (2 ^ l) (bounded k)))
          (le_of_eq
          (sum_cong (2 ^ w) (λ k. sum_add (2 ^ l) (λ z. carried 0 k (at z)) (λ z. carried 1 k (at z)))
          ∙ sum_add (2 ^ w) (λ k. sum_to (2 ^ l) (λ z. carried 0 k (at z))) (λ k. sum_to (2 ^ l) (λ z. carried 1 k (at z)))
          ∙ ap₂ (λ (x y : ℕ). x + y) (met next x (later + 0) 0) (met next x (later + 1) 0)
          ∙ twice (2 ^ j) (2 ^ l)))
        where
          at : ℕ → ℕ
          at z = parted i z x

          bounded : (k z : ℕ) → differ (k ∷ at z ∷ ks) ≤ carried 0 k (at z) + carried 1 k (at z)
          bounded k z = le_trans (le_of_eq (differ_carried k (at z))) (either (overflow (at z)) k (at z) (carry_small (m' * at z) (odd_times s l * at z) (2 ^ w) (pow_pos w)))

          twice : (p q : ℕ) → p * q + p * q ≡ 2 * p * q
          twice p q = omega arith
