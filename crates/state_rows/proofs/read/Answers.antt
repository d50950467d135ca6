-- `state_rows::read` meets its contract: a copy of the row's part from the place on.
use mathlib.Core.Path.{◌∙◌}
use Rattle.state_rows.proofs.Pieces.{part_read}
use Rattle.state_rows.proofs.read.Goals as goal

pub returns : goal.returns
returns c = c.copy.ensures ∙ part_read c.args.row.now c.args.words.now c.args.at c.min-from.ensures
