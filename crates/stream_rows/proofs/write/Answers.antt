-- `stream_rows::write` meets its contract: the pieces, one after the other.
use mathlib.Core.Path.{◌≡◌}
use lib.ListN.{length}
use Rattle.state_rows.proofs.Pieces.{next_piece}
use Rattle.state_sums.proofs.Rows.{row_length}
use Rattle.stream_rows.specs.Rows.{row_of}
use Rattle.stream_rows.proofs.Rows.{front_length, all_words}
use borrow.Author.Rules.{rules}
use Rattle.stream_rows.proofs.write.Goals as goal
use Rattle.stream_rows.proofs.write.Goals.{Start}

eights : (c : Start) → (length c.args.s.keys ≡ 8) × (length c.args.s.held.sums ≡ 8)
eights c = (search rules, search rules)

pub returns : goal.returns
unfolding row_of
returns c =
    let s = c.args.s in
    let long = eights (goal.at.returns c).Start in
    (next_piece _ _ _ _ _ 20 (front_length s long.0 long.1) (next_piece _ _ _ _ _ 12 (row_length s.held long.1) c.write_row.ensures c.place.ensures) c.place-2.ensures, all_words s long.0 long.1)
