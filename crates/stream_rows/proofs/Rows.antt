-- A state and its row: the row's length, that it is a stream's, and the state that it holds.
use mathlib.Core.Path.{◌≡◌, ap, ap₂, ◌∙◌}
use mathlib.Core.Bool.{true}
use mathlib.Core.List.{List, [], ◌∷◌, ◌++◌, append_assoc}
use Prim.Native.Nat.{ℕ}
use native.Mathlib.Omega.{arith}
use lib.Dec.{eqb}
use lib.ListN.{length, get_or, length-append}
use lib.Seq.{get_or_at}
use borrow.Author.Tests.{eq-eqb, eqb-true}
use Rattle.theory_counts.proofs.Fits.{both}
use Rattle.state_rows.specs.Pieces.{piece}
use Rattle.state_rows.proofs.Pieces.{piece_here}
use Rattle.state_sums.specs.declared.Accumulator.{Accumulator}
use Rattle.state_sums.specs.Rows.{sums_row, sums_of}
use Rattle.state_sums.proofs.Rows as shared
use Rattle.stream.specs.declared.Stream.{Stream}
use Rattle.stream_rows.specs.Rows.{row_of, state_of, is_stream}

pub stream_length : (row : List ℕ) → is_stream row ≡ true → length row ≡ 21
unfolding is_stream
stream_length row e = eqb-true (length row) 21 (both (eqb (length row) 21) _ e).0

module _ (s : Stream) (keys : length s.keys ≡ 8) (sums : length s.held.sums ≡ 8) where
  pub front_length : length (sums_row s.held ++ s.keys) ≡ 20
  front_length = omega (arith, length-append (sums_row s.held) s.keys, shared.row_length s.held sums)

  pub all_words : length (row_of s) ≡ 21
  unfolding row_of
  all_words = omega (arith, length-append (sums_row s.held ++ s.keys) (0 ∷ []), front_length)

  last_zero : get_or (row_of s) 20 0 ≡ 0
  unfolding row_of
  last_zero = get_or_at (sums_row s.held ++ s.keys) 0 [] 0 20 front_length

  pub row_is : is_stream (row_of s) ≡ true
  unfolding is_stream
  row_is = rw (eq-eqb (length (row_of s)) 21 all_words) (eq-eqb (get_or (row_of s) 20 0) 0 last_zero)

  -- a state is the one that its row holds
  pub state_kept : state_of (row_of s) ≡ s
  unfolding row_of state_of
  state_kept =
      ap₂ {C = Stream} (λ (h : Accumulator) (ks : List ℕ). record { held = h; keys = ks })
      (ap sums_of (append_assoc (sums_row s.held) s.keys (0 ∷ [])) ∙ shared.sums_kept s.held sums (s.keys ++ (0 ∷ [])))
      (ap (piece 8 12) (append_assoc (sums_row s.held) s.keys (0 ∷ []))
      ∙ piece_here (sums_row s.held) s.keys (0 ∷ []) 8 12 (shared.row_length s.held sums) keys)
