-- The agent's own comparison: two accepted calls under one key, and the match of what they wrote.
-- Assumes nothing.
use mathlib.Core.Path.{refl, ap₂}
use mathlib.Core.List.{List}
use Prim.Native.Nat.{ℕ, ◌+◌, ◌≤◌}
use native.Mathlib.Nat.{le_of_eq, le_trans}
use native.Mathlib.Omega.{arith}
use lib.Dec.{eqb}
use lib.ListN.{length, take}
use lib.Seq.{length-take-le}
use Rattle.theory_counts.specs.Words.{fits}
use Rattle.theory_counts.specs.Count.{as_number, count}
use Rattle.theory_counts.proofs.Rows.{rows_le}
use Rattle.theory_counts.proofs.Fits.{fits_parts}
use Rattle.theory_counts.proofs.Tests.{holds}
use Rattle.answers.proofs.Validation.{passes}
use Rattle.sum_bytes.specs.Bytes.{words_of, BytesFit}
use Rattle.sum_bytes.proofs.FromBytes.{bytes_fit}
use Rattle.digest_bytes.specs.Call.{bytes_tests, bytes_answer, bytes_row}
use Rattle.digest_match.specs.Match.{match_answer}
use Rattle.theory_matches.proofs.Calls.{after_width_pass, written}
use Rattle.theory_lengths.specs.ByteMessages.{byte_keys, byte_keys_that_match, FalseByteMatches}
use Rattle.theory_lengths.specs.Calls.{byte_calls_that_match, FalseByteCalls, BytesAccepted}
use Rattle.theory_lengths.proofs.ByteMessages.{false_byte_matches}

pub bytes_accepted : BytesAccepted
unfolding BytesAccepted bytes_answer bytes_tests BytesFit
bytes_accepted w b n m bytes ks out r few room good small short k =
    let asked : ℕ = length (words_of w bytes) + n in
    let enough : asked ≤ length ks = omega (arith, k.long) in
    passes 1 _ _ refl good
    (after_width_pass w b n (words_of w bytes) (take asked ks) out r (omega arith) (length-take-le asked ks enough) room (bytes_fit w bytes good small)
    (fits_parts w asked ks (holds (fits w ks) k.below)).0)

pub false_byte_calls : FalseByteCalls
unfolding FalseByteCalls byte_calls_that_match bytes_row FalseByteMatches byte_keys_that_match byte_keys count BytesAccepted
false_byte_calls w b n m first second out out' r few room room' l =
    le_trans
    (rows_le w (m + n) _ _
    (λ ks k.
    le_of_eq
    (ap₂ (λ (x y : List ℕ). as_number (eqb (match_answer n x y) 100))
    (written w b n (words_of w first) _ out _ (bytes_accepted w b n m first ks out r few room l.byte_width l.bytes l.few k))
    (written w b n (words_of w second) _ out' _ (bytes_accepted w b n m second ks out' r few room' l.byte_width l.bytes' l.few' k)))))
    (false_byte_matches w b n m first second r.kept l)
