-- `incremental_rows::write` meets its contract: the shared words.
use mathlib.Core.Path.{◌≡◌}
use lib.ListN.{length}
use Rattle.incremental_rows.specs.Rows.{row_of}
use Rattle.incremental_rows.proofs.Rows.{all_words}
use borrow.Author.Rules.{rules}
use Rattle.incremental_rows.proofs.write.Goals as goal
use Rattle.incremental_rows.proofs.write.Goals.{Start}

eight : (c : Start) → length c.args.s.held.sums ≡ 8
eight c = search rules

pub returns : goal.returns
unfolding row_of
returns c =
    (c.write_row.ensures, all_words _ (eight (goal.at.returns c).Start))
