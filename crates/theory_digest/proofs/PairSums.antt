-- The sum behind the pair 1 and 1 + H. Its digests differ by k·H + u, where u = (1 + H)·j div W is at most H, k and j being the key words: so u must be 0 or H.
-- It is 0 for the first G = W/H of the j, and H for all but the first of the last G.
-- Assumes nothing.
use mathlib.Core.Path.{◌≡◌, sym, ap, ap₂, ◌∙◌}
use Prim.Native.Nat.{ℕ, suc, ◌+◌, ◌*◌, ◌-◌, ◌/◌, ◌%◌, ◌≤◌, ◌<◌}
use native.Mathlib.Nat.{add-zero, zero-mul, one-mul, mul-one, mul-le-mul_left, zero-mod, zero-div, mod-eq_of_lt, mul-add-mod_self_right, mul-mod_left, mul-div_cancel, div-eq_of_lt, div-eq_of_lt-le, div-lt_iff_lt-mul, le-div_iff_mul-le}
use native.Mathlib.Omega.{arith}
use lib.Arith.{mod-mul}
use borrow.Author.Tests.{ne_eqb}
use Rattle.theory_counts.specs.Count.{sum_to, as_number}
use Rattle.theory_counts.proofs.Sums.{sum_cong, sum_cong_below, sum_const, sum_split, sum_zeros}
use Rattle.theory_digest.proofs.Periodic.{per_shift, sum_shift, sum_periods}
use Rattle.theory_counts.proofs.Congruent.{congruent, congruent_per, eqb_same, sum_congruent}

-- k·H + u modulo M-as-H
module _ (M H : ℕ) (some : 0 < M) (pos : 0 < H) where
  -- a multiple of H is 0 where its factor is 0 modulo M
  multiple : (k : ℕ) → congruent (M * H) (k * H) 0 ≡ congruent M k 0
  unfolding congruent
  multiple k = ap as_number (eqb_same (k * H % (M * H)) (0 % (M * H)) (k % M) (0 % M) to from)
    where
      scaled : k * H % (M * H) ≡ k % M * H
      scaled = mod-mul (k * H) some pos ∙ ap₂ (λ (x y : ℕ). x % M * H + y) (mul-div_cancel k pos) (mul-mod_left k H) ∙ add-zero (k % M * H)

      to : k * H % (M * H) ≡ 0 % (M * H) → k % M ≡ 0 % M
      to e = sym (mul-div_cancel (k % M) pos) ∙ ap (λ (n : ℕ). n / H) (sym scaled ∙ e ∙ zero-mod (M * H)) ∙ zero-div H ∙ sym (zero-mod M)

      from : k % M ≡ 0 % M → k * H % (M * H) ≡ 0 % (M * H)
      from e = scaled ∙ ap (λ (n : ℕ). n * H) (e ∙ zero-mod M) ∙ zero-mul H ∙ sym (zero-mod (M * H))

  -- so J-as-H of J·H·M numbers k make k·H + c·H zero
  solved : (J c : ℕ) → sum_to (J * H * M) (λ k. congruent (M * H) ((k + c) * H) 0) ≡ J * H
  solved J c =
      sum_cong (J * H * M) (λ k. multiple (k + c))
      ∙ sum_periods (J * H) M (λ k. congruent M (k + c) 0) (per_shift M (λ k. congruent M k 0) (congruent_per M 0) c)
      ∙ ap (λ (n : ℕ). J * H * n) (sum_shift M (λ k. congruent M k 0) (congruent_per M 0) c ∙ sum_congruent M 0 some)
      ∙ mul-one (J * H)

  -- and none does where u is no multiple of H
  unsolved : (u k : ℕ) → 0 < u → u < H → congruent (M * H) (k * H + u) 0 ≡ 0
  unfolding congruent as_number
  unsolved u k more less =
      let low : (k * H + u) % H ≡ u = mul-add-mod_self_right k H u ∙ mod-eq_of_lt less in
      let parts : (k * H + u) % (M * H) ≡ (k * H + u) / H % M * H + (k * H + u) % H = mod-mul (k * H + u) some pos in
      ap as_number (ne_eqb ((k * H + u) % (M * H)) (0 % (M * H)) (λ e. omega (arith, zero-mod (M * H))))

-- u for the second key words j, where W = G-as-H and G = g + 1 is at most H
module _ (g H W : ℕ) (fewer : suc g ≤ H) (wide : W ≡ suc g * H) where
  below : (j : ℕ) → j < suc g → (1 + H) * j < W
  below j lt = let e : H * suc j ≤ H * suc g = mul-le-mul_left H lt in omega arith

  lowest : (j : ℕ) → j < suc g → (1 + H) * j / W ≡ 0
  lowest j lt = div-eq_of_lt (below j lt)

  highest : (j i : ℕ) → j + i ≡ W → 0 < i → i < suc g → (1 + H) * j / W ≡ H
  highest j i e more less =
      let all : (1 + H) * (j + i) ≡ (1 + H) * W = ap (λ (n : ℕ). (1 + H) * n) e in
      let few : (1 + H) * i < W = below i less in
      div-eq_of_lt-le W (omega arith) (omega arith)

  between : (j : ℕ) → suc g ≤ j → j + suc g ≤ W → (0 < (1 + H) * j / W) × ((1 + H) * j / W < H)
  between j lo hi =
      let pos : 0 < W = omega arith in
      let low : (1 + H) * suc g ≤ (1 + H) * j = mul-le-mul_left (1 + H) lo in
      let high : (1 + H) * (j + suc g) ≤ (1 + H) * W = mul-le-mul_left (1 + H) hi in
      ((le-div_iff_mul-le pos).1 (omega arith), (div-lt_iff_lt-mul pos).1 (omega arith))

  -- over all key words, modulo M-as-H: G and then G − 1 of the second, J-as-H of the first for each
  module _ (J M : ℕ) (some : 0 < M) (split : suc g ≡ J * M) where
    first_words : ℕ → ℕ
    first_words j = sum_to W (λ k. congruent (M * H) (k * H + (1 + H) * j / W) 0)

    met : (c j : ℕ) → (1 + H) * j / W ≡ c * H → first_words j ≡ J * H
    unfolding first_words
    met c j e =
        sum_cong W (λ k. ap (λ (n : ℕ). congruent (M * H) n 0) (ap (λ (n : ℕ). k * H + n) e ∙ regroup k))
        ∙ ap (λ (n : ℕ). sum_to n (λ k. congruent (M * H) ((k + c) * H) 0)) periods
        ∙ solved M H some (omega arith) J c
      where
        regroup : (k : ℕ) → k * H + c * H ≡ (k + c) * H
        regroup k = omega arith

        periods : W ≡ J * H * M
        periods = wide ∙ ap (λ (n : ℕ). n * H) split ∙ omega arith

    missed : (j : ℕ) → suc g ≤ j → j + suc g ≤ W → first_words j ≡ 0
    unfolding first_words
    missed j lo hi =
        sum_zeros W (λ k. congruent (M * H) (k * H + (1 + H) * j / W) 0)
        (λ k lt. unsolved M H some (omega arith) ((1 + H) * j / W) k (between j lo hi).0 (between j lo hi).1)

    pub all_keys : sum_to W (λ j. sum_to W (λ k. congruent (M * H) (k * H + (1 + H) * j / W) 0)) ≡ (suc g + g) * (J * H)
    unfolding first_words
    all_keys =
        ap (λ (n : ℕ). sum_to n first_words) parts
        ∙ sum_split (suc g) (m + g) first_words
        ∙ ap (λ (s : ℕ). sum_to (suc g) first_words + s) (sum_split m g (λ k. first_words (suc g + k)))
        ∙ together
      where
        m : ℕ
        m = W - (suc g + g)

        parts : W ≡ suc g + (m + g)
        parts = let square : suc g * suc g ≤ suc g * H = mul-le-mul_left (suc g) fewer in omega arith

        top : (k : ℕ) → k < g → (1 + H) * (suc g + (m + k)) / W ≡ 1 * H
        top k lt = highest (suc g + (m + k)) (g - k) (omega (arith, parts)) (omega arith) (omega arith) ∙ sym (one-mul H)

        together : sum_to (suc g) first_words + (sum_to m (λ k. first_words (suc g + k)) + sum_to g (λ k. first_words (suc g + (m + k)))) ≡ (suc g + g) * (J * H)
        together =
            let low : sum_to (suc g) first_words ≡ suc g * (J * H) =
            sum_cong_below (suc g) first_words (λ k. J * H) (λ j lt. met 0 j (lowest j lt ∙ sym (zero-mul H))) ∙ sum_const (suc g) (J * H) in
            let middle : sum_to m (λ k. first_words (suc g + k)) ≡ 0 =
            sum_zeros m (λ k. first_words (suc g + k)) (λ k lt. missed (suc g + k) (omega arith) (omega (arith, parts))) in
            let high : sum_to g (λ k. first_words (suc g + (m + k))) ≡ g * (J * H) =
            sum_cong_below g (λ k. first_words (suc g + (m + k))) (λ k. J * H) (λ k lt. met 1 (suc g + (m + k)) (top k lt)) ∙ sum_const g (J * H) in
            omega arith
