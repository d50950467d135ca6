-- Key words of w bits are below 2^w, so a stretched row is a key that fits, and so are both rows of a load.
use Prim.Native.Nat.{ℕ, zero, suc, ◌+◌, ◌-◌, ◌^◌, ◌≤◌, ◌<◌}
use mathlib.Core.Path.{◌≡◌, refl, sym, ap, subst, ◌∙◌}
use mathlib.Core.Bool.{true}
use native.Mathlib.Omega.{arith}
use lib.ListN.{length}
use lib.Pow.{shr_lt}
use borrow.Author.Tests.{lt-ltb}
use Rattle.theory_counts.specs.Words.{fits}
use Rattle.answers.proofs.Rows.{accepted_row}
use Rattle.mt19937.specs.Published.{seeded, next_of}
use Rattle.mt19937_array.specs.SeedArray.{arrayed}
use Rattle.mt19937.specs.declared.Generator.{Generator}
use Rattle.mt19937.proofs.Below.{ReadyBelow, seeded_below, next_below}
use Rattle.mt19937_array.proofs.Below.{arrayed_below}
use Rattle.stretch.specs.Stretch.{outputs, after, key_word, key_row, stretched, stretched_array}
use Rattle.theory_stretch.specs.Claims.{StretchedFits, StretchedArrayFits, LoadFits, LoadArrayFits}
use Rattle.stretch.specs.Load.{load_key, load_message, load_array_key, load_array_message}
use Rattle.stretch.proofs.Rows.{row_whole}
use Rattle.stretch.proofs.Loads.{of_a_seed, of_a_stretch, of_both, load_width, key_after_lem, message_after_lem}

key_word_below : (w output : ℕ) → w ≤ 32 → output < 2 ^ 32 → key_word w output < 2 ^ w
unfolding key_word
key_word_below w output h b =
    let whole : 32 ≡ w + (32 - w) = omega arith in
    shr_lt w (32 - w) (subst (λ (k : ℕ). output < 2 ^ k) whole b)

row_below : (w n : ℕ) (g : Generator) → w ≤ 32 → ReadyBelow g → fits w (key_row w g n) ≡ true
unfolding key_row outputs fits
row_below w zero g h b = refl
row_below w (suc n) g h b =
    let next = next_below g b in
    rw (lt-ltb (key_word w (next_of g).word) (2 ^ w) (key_word_below w _ h next.0)) (row_below w n (next_of g).state h next.1)

after_below : (n : ℕ) (g : Generator) → ReadyBelow g → ReadyBelow (after n g)
unfolding after
after_below zero g b = b
after_below (suc n) g b = after_below n (next_of g).state (next_below g b).1

pub stretched_fits : StretchedFits
unfolding StretchedFits stretched
stretched_fits w seed row e =
    ap (fits w) (accepted_row _ _ row e ∙ sym (row_whole w (seeded seed) row))
    ∙ row_below w (length row) (seeded seed) (load_width w 1 (length row) 0 (of_both w (length row) ∙ e)).1 (seeded_below seed)

pub stretched_array_fits : StretchedArrayFits
unfolding StretchedArrayFits stretched_array
stretched_array_fits w seed row e =
    ap (fits w) (accepted_row _ _ row e ∙ sym (row_whole w (arrayed seed) row))
    ∙ row_below w (length row) (arrayed seed) (load_width w (length seed) (length row) 0 (of_a_stretch w (length row) (length seed) ∙ e)).1 (arrayed_below seed)

pub load_fits : LoadFits
unfolding LoadFits load_key load_message
load_fits w seed key message e =
    let g = seeded seed in
    let b = seeded_below seed in
    let fit = (load_width w 1 (length key) (length message) (of_a_seed w (length key) (length message) ∙ e)).1 in (
      ap (fits w) (key_after_lem w g key message _ e) ∙ row_below w (length key) g fit b,
      ap (fits w) (message_after_lem w g key message _ e) ∙ row_below w (length message) _ fit (after_below (length key) g b),
    )

pub load_array_fits : LoadArrayFits
unfolding LoadArrayFits load_array_key load_array_message
load_array_fits w seed key message e =
    let g = arrayed seed in
    let b = arrayed_below seed in
    let fit = (load_width w (length seed) (length key) (length message) e).1 in (
      ap (fits w) (key_after_lem w g key message _ e) ∙ row_below w (length key) g fit b,
      ap (fits w) (message_after_lem w g key message _ e) ∙ row_below w (length message) _ fit (after_below (length key) g b),
    )
