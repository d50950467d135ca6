-- `state_rows::place` meets its contract: a copy into the row's part from the place on.
use Rattle.state_rows.proofs.Pieces.{part_placed}
use Rattle.state_rows.proofs.place.Goals as goal

pub returns : goal.returns
returns c = part_placed c.args.row.now c.args.words.now c.args.at c.min-from.ensures c.copy.ensures
