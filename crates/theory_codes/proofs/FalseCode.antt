-- The agent's own comparison: two accepted calls, and their bytes compared one by one.
-- Assumes nothing.
use mathlib.Core.Path.{◌≡◌, refl, sym, ap, subst, ◌∙◌}
use mathlib.Core.Bool.{Bool, true, false}
use mathlib.Core.List.{List}
use Prim.Native.Nat.{ℕ, ◌+◌, ◌/◌, ◌^◌, ◌≤◌, ◌<◌, zero-le}
use native.Mathlib.Nat.{le_refl, le_trans}
use native.Mathlib.Omega.{arith}
use lib.Dec.{T, eqb, eqb→eq}
use lib.ListN.{length, get_or, drop, get_or-append}
use lib.Seq.{ext_get_or}
use Rattle.theory_counts.specs.Words.{fits, Row}
use Rattle.theory_counts.specs.Count.{as_number, count, same_row}
use Rattle.theory_counts.specs.Tests.{RowTest, EveryTest}
use Rattle.theory_counts.proofs.Rows.{rows_le}
use Rattle.theory_counts.proofs.Tests.{holds, row_test, every_test}
use Rattle.theory_digest.specs.Settings.{InRange}
use Rattle.answers.proofs.Validation.{passes, none_holds, width_passes, long_passes, key_passes, tray_passes, words_pass}
use Rattle.digest_code.proofs.Passing.{digits_pass}
use Rattle.answers.proofs.Rows.{accepted_row}
use Rattle.digest_code.specs.Code.{code}
use Rattle.digest_code.specs.Call.{code_tests, code_answer, code_row}
use Rattle.digest_code.specs.Reading.{CodeLength}
use Rattle.theory_codes.specs.Claims.{bytes_agree, keys_that_agree, code_calls_that_agree, CodeBound, FalseCodes, CodeAccepted}
use Rattle.digest_code.proofs.Reading.{code_length}
use Rattle.theory_codes.proofs.Agreeing.{code_bound}

pub code_accepted : CodeAccepted
unfolding CodeAccepted code_answer code_tests
code_accepted w d t ms ks out r some fit few room m k =
    passes 1 _ _ refl (width_passes w r.some_width r.width)
    (passes 9 _ _ refl (digits_pass w d some fit)
    (passes 4 _ _ refl (long_passes 65536 (length ms) (omega (arith, m.long)))
    (passes 5 _ _ refl (key_passes (length ms + 1) (length ks) (omega (arith, m.long, k.long)))
    (passes 6 _ _ refl (tray_passes ((d + 1) / 2) (length out) room)
    (none_holds _ ∙ passes 7 _ 0 refl (words_pass w ms ks (holds (fits w ms) m.below) (holds (fits w ks) k.below)) (none_holds 0))))))

module _ (w d t : ℕ) (r : InRange w w 1) (some : 1 ≤ d) (fit : 10 ^ d ≤ 2 ^ w) (few : t ≤ 65536) where
  -- a byte that the call wrote
  written_byte : (ms ks out : List ℕ) (i : ℕ) → (d + 1) / 2 ≤ length out → Row w t ms → Row w (t + 1) ks → i < (d + 1) / 2
      → get_or (code_row w d ms ks out) i 0 ≡ get_or (code w d ms ks) i 0
  unfolding code_row CodeLength CodeAccepted
  written_byte ms ks out i room m k lt =
      ap (λ (l : List ℕ). get_or l i 0) (accepted_row (code_answer w d ms ks out) (code w d ms ks) out (code_accepted w d t ms ks out r some fit few room m k))
      ∙ get_or-append (code w d ms ks) (drop (length (code w d ms ks)) out) 0 i (omega (arith, code_length w d ms ks))

  module _ (first second out out' ks : List ℕ) (room : (d + 1) / 2 ≤ length out) (room' : (d + 1) / 2 ≤ length out') (m : Row w t first) (m' : Row w t second) (k : Row w (t + 1) ks) where
    same_bytes : T (bytes_agree d (code_row w d first ks out) (code_row w d second ks out')) → code w d first ks ≡ code w d second ks
    unfolding bytes_agree EveryTest CodeLength
    same_bytes agree =
        ext_get_or 0 (code w d first ks) (code w d second ks) (code_length w d first ks ∙ sym (code_length w d second ks))
        (λ i lt.
        let small : i < (d + 1) / 2 = omega (arith, code_length w d first ks) in
        sym (written_byte first ks out i room m k small)
        ∙ eqb→eq (get_or (code_row w d first ks out) i 0) (get_or (code_row w d second ks out') i 0)
        ((every_test ((d + 1) / 2) (λ j. eqb (get_or (code_row w d first ks out) j 0) (get_or (code_row w d second ks out') j 0))).0 agree i small)
        ∙ written_byte second ks out' i room' m' k small)

    one_key : as_number (bytes_agree d (code_row w d first ks out) (code_row w d second ks out')) ≤ as_number (same_row (code w d first ks) (code w d second ks))
    unfolding as_number RowTest
    one_key = go (bytes_agree d (code_row w d first ks out) (code_row w d second ks out')) same_bytes
      where
        go : (b : Bool) → (T b → code w d first ks ≡ code w d second ks) → as_number b ≤ as_number (same_row (code w d first ks) (code w d second ks))
        go true e = subst (λ (b : Bool). 1 ≤ as_number b) (sym (holds (same_row (code w d first ks) (code w d second ks)) ((row_test (code w d first ks) (code w d second ks)).1 (e tt)))) (le_refl 1)
        go false e = zero-le

pub false_codes : FalseCodes
unfolding FalseCodes CodeBound code_calls_that_agree keys_that_agree count
false_codes w d t first second out out' r some fit few room room' m m' ne =
    le_trans
    (rows_le w (t + 1) _ _ (λ ks k. one_key w d t r some fit few first second out out' ks room room' m m' k))
    (code_bound w d t first second m m' ne)
