-- Messages of bytes of different length: their closed words stay different when they are filled up, so the bound of words holds of them.
-- Assumes nothing.
use mathlib.Core.Path.{◌≡◌, refl, ◌∙◌}
use mathlib.Core.Logic.{◌≢◌}
use mathlib.Core.Bool.{false}
use mathlib.Core.List.{List}
use Prim.Native.Nat.{ℕ, ◌+◌, ◌≤◌}
use native.Mathlib.Nat.{le_of_eq, le_trans}
use native.Mathlib.Omega.{arith}
use lib.ListN.{length, take}
use Rattle.theory_counts.specs.Count.{count, same_row}
use Rattle.theory_counts.specs.Words.{Row}
use Rattle.theory_digest.specs.Corollaries.{Collisions, keys_that_collide}
use Rattle.theory_lengths.specs.CommonKey.{filled_up, common_keys, common_keys_that_differ, BoundWhere, CommonKeyBound}
use Rattle.theory_counts.proofs.Rows.{rows_cong, rows_le, rows_one}
use Rattle.theory_digest.proofs.Corollaries.{collisions}
use Rattle.theory_lengths.proofs.CommonKey.{count_filled, filled_row, common_key_bound, none_between}
use Rattle.answers.specs.Table.{bad_byte_width}
use Rattle.answers.proofs.Validation.{byte_width_passed}
use Rattle.sum_bytes.specs.Bytes.{words_of, Bytes, BytesFit}
use Rattle.theory_lengths.specs.Closed.{KeepsApart, ClosedApart}
use Rattle.sum_bytes.proofs.FromBytes.{bytes_fit}
use Rattle.theory_lengths.proofs.Closed.{closed_apart}
use Rattle.theory_matches.proofs.Matches.{match_at_most}
use Rattle.theory_lengths.specs.ByteMessages.{ByteMessages, byte_keys, byte_keys_that_differ, ByteBoundAt, ByteBound, ByteBoundInRange, OneByteMessage, byte_keys_that_match, FalseByteMatches}

-- the words of bytes fit
byte_row : (w : ℕ) (bytes : List ℕ) → bad_byte_width w ≡ false → Bytes bytes → Row w (length (words_of w bytes)) (words_of w bytes)
unfolding BytesFit
byte_row w bytes good small = record { long = refl; below = rw (bytes_fit w bytes good small) tt }

-- and are apart, filled up
words_apart : (w m : ℕ) (first second : List ℕ) → ByteMessages w m first second → filled_up m (words_of w first) ≢ filled_up m (words_of w second)
unfolding ClosedApart KeepsApart
words_apart w m first second l =
    closed_apart w m first second (byte_width_passed w l.byte_width (λ v. 8 ≤ v) (omega arith) (omega arith) (omega arith)) l.bytes l.bytes' l.different l.few l.few'

pub byte_bound : ByteBound
unfolding ByteBound ByteBoundAt byte_keys_that_differ byte_keys CommonKeyBound BoundWhere common_keys_that_differ common_keys
byte_bound w b n m le first second ds l long =
    common_key_bound w b n m (length (words_of w first)) (length (words_of w second)) (words_of w first) (words_of w second) ds le
    (byte_row w first l.byte_width l.bytes) (byte_row w second l.byte_width l.bytes') l.few l.few' (words_apart w m first second l) long

pub byte_bound_in_range : ByteBoundInRange
unfolding ByteBoundInRange ByteBound
byte_bound_in_range w b n m r _ = byte_bound w b n m r.kept

pub one_byte_message : OneByteMessage
unfolding OneByteMessage byte_keys_that_differ byte_keys count
one_byte_message w b n m bytes = rows_cong w (m + n) (λ ks. none_between w b n (words_of w bytes) (take (length (words_of w bytes) + n) ks)) ∙ rows_one w (m + n)

pub false_byte_matches : FalseByteMatches
unfolding FalseByteMatches byte_keys_that_match byte_keys common_keys count Collisions keys_that_collide
false_byte_matches w b n m first second le l =
    le_trans (rows_le w (m + n) _ _ (λ ks _. match_at_most n _ _))
    (le_trans (le_of_eq (count_filled w b n m (words_of w first) (words_of w second) same_row))
    (collisions w b n m (filled_up m (words_of w first)) (filled_up m (words_of w second)) le
    (filled_row w m (length (words_of w first)) (words_of w first) l.few (byte_row w first l.byte_width l.bytes))
    (filled_row w m (length (words_of w second)) (words_of w second) l.few' (byte_row w second l.byte_width l.bytes'))
    (words_apart w m first second l)))
