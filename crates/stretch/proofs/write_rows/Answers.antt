-- `stretch::write_rows` meets its contract: the key row, and then the message row from the state that the key row leaves.
use mathlib.Core.Path.{ap, ◌∙◌}
use lib.ListN.{length}
use Rattle.stretch.specs.Stretch.{after}
use Rattle.stretch.proofs.Rows.{row_of}
use Rattle.stretch.proofs.write_rows.Goals as goal

pub key_row-next-requires : goal.key_row-next-requires
key_row-next-requires g c = (c.requires.0, c.requires.1, c.generator-at.ensures.1)

pub key_row-requires : goal.key_row-requires
key_row-requires g c = (c.requires.0, c.requires.1, c.key_row-next.ensures.2)

pub returns : goal.returns
returns g c =
    let made = c.generator-at.ensures.0 in
    let row = c.key_row-next.ensures in
    (row_of _ _ made row.0, row_of _ _ (row.1 ∙ ap (after (length c.args.key.now)) made) c.key_row.ensures.0)
