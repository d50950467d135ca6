-- `state_sums::Accumulator::write_row` meets its contract: two pieces, one after the other.
use mathlib.Core.Path.{refl}
use Rattle.state_rows.proofs.Pieces.{first_piece, next_piece}
use Rattle.state_sums.specs.Rows.{sums_row}
use Rattle.state_sums.proofs.Accumulator.write_row.Goals as goal

pub returns : goal.returns
unfolding sums_row
returns c =
    next_piece _ _ _ _ _ 4 refl (first_piece _ _ _ c.place.ensures) c.place-2.ensures
