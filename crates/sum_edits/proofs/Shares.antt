-- A sum with the share of a word more, or less, and n of them.
use Rattle.std.proofs.Common.{◌≡◌, ℕ, ◌+◌, ◌-◌, ◌%◌, ◌^◌, ◌≤◌, min, Bool, true, false, cond, List, [], ◌∷◌, ◌++◌, length, get_or, drop, refl, sym, ap, ◌∙◌, add-zero, add_assoc}
use native.Mathlib.Nat.{add-mod-mod, mod-add-mod}
use Rattle.rows.specs.Written.{written}
use Rattle.rows.proofs.Written.{tabulate_same}
use Rattle.theory_digest.specs.Digest.{whole_sum}
use Rattle.sum_terms.specs.Sums.{lack, summable, checked_sums, checked_less}
use Rattle.sum_terms.proofs.Summable.{Sums, sums_are}
use Rattle.sum_terms.proofs.Each.{checked_still, sums_written}
use Rattle.sum_terms.proofs.Orders.{lack_fills, less_still, less_written}
use Rattle.sum_walk.specs.Walk.{added}
use Rattle.sum_walk.proofs.Apart.{reduced}
use Rattle.sum_walk.proofs.PartialSum.{word_sum}

-- the difference modulo 2^32 is the sum without the share
pub taken : (w r sum share : ℕ) → w ≤ 32 → (r + share) % 2 ^ 32 ≡ sum → r % 2 ^ w ≡ (sum + lack w share) % 2 ^ w
taken w r sum share le e =
    let lacks : ℕ = lack w share in
    ap (λ (x : ℕ). x % 2 ^ w) (sym (add-zero r))
    ∙ ap (λ (x : ℕ). (r + x) % 2 ^ w) (sym (lack_fills w share))
    ∙ add-mod-mod r (share + lacks) (2 ^ w)
    ∙ ap (λ (x : ℕ). x % 2 ^ w) (sym (add_assoc r share lacks))
    ∙ sym (mod-add-mod (r + share) (2 ^ w) lacks)
    ∙ ap (λ (x : ℕ). (x + lacks) % 2 ^ w) (sym (reduced w 32 (r + share) le))
    ∙ ap (λ (x : ℕ). (x % 2 ^ w + lacks) % 2 ^ w) e
    ∙ mod-add-mod sum (2 ^ w) lacks

-- of a share 32 bits are enough
module _ (w s x : ℕ) (le : w ≤ 32) where
  more_bits : (s + x % 2 ^ 32) % 2 ^ w ≡ (s + x) % 2 ^ w
  more_bits = sym (add-mod-mod s (x % 2 ^ 32) (2 ^ w)) ∙ ap (λ (y : ℕ). (s + y) % 2 ^ w) (reduced w 32 x le) ∙ add-mod-mod s x (2 ^ w)

  less_bits : (s + lack w (x % 2 ^ 32)) % 2 ^ w ≡ (s + lack w x) % 2 ^ w
  unfolding lack
  less_bits = ap (λ (y : ℕ). (s + (2 ^ w - y)) % 2 ^ w) (reduced w 32 x le)

module _ (w n m : ℕ) (part sums : List ℕ) where
  -- the n sums as the loop leaves them, which adds `to` of each share
  abbrev pub changed : (ℕ → ℕ) → List ℕ
  changed to = cond (summable w n 1 (length part)) (written (λ i. (get_or sums i 0 + to (added w part i m % 2 ^ 32)) % 2 ^ w) (min n (length sums)) sums) sums

  -- and as they are due
  module _ (to : ℕ → ℕ) (due : List ℕ)
      (bits : (s x : ℕ) → w ≤ 32 → (s + to (x % 2 ^ 32)) % 2 ^ w ≡ (s + to x) % 2 ^ w)
      (still : summable w n 1 (length part) ≡ false → sums ≡ due)
      (wrote : Sums w n 1 (length part) → written (λ i. (get_or sums i 0 + to (whole_sum w (m ∷ []) (drop i part))) % 2 ^ w) (min n (length sums)) sums ≡ due) where
    change_due : changed to ≡ due
    change_due = go (summable w n 1 (length part)) refl
      where
        go : (can : Bool) → summable w n 1 (length part) ≡ can → changed to ≡ due
        go false short = rw short (still short)
        go true enough =
            let s = sums_are w n 1 (length part) enough in
            let end : ℕ = min n (length sums) in
            rw enough (ap (λ (l : List ℕ). l ++ drop end sums)
            (tabulate_same (λ i. (get_or sums i 0 + to (added w part i m % 2 ^ 32)) % 2 ^ w) (λ i. (get_or sums i 0 + to (added w part i m)) % 2 ^ w) end
            (λ i lt. bits (get_or sums i 0) (added w part i m) s.width)) ∙ simp (word_sum w m part) (wrote s))

  pub change_adds : changed (λ x. x) ≡ checked_sums w n (m ∷ []) part sums
  change_adds = change_due (λ x. x) (checked_sums w n (m ∷ []) part sums) (more_bits w) (checked_still w n (m ∷ []) part sums) (sums_written w n (m ∷ []) part sums)

  pub change_subtracts : changed (lack w) ≡ checked_less w n (m ∷ []) part sums
  change_subtracts = change_due (lack w) (checked_less w n (m ∷ []) part sums) (less_bits w) (less_still w n (m ∷ []) part sums) (less_written w n (m ∷ []) part sums)
