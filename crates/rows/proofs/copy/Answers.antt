-- `rows::copy` meets its contract: as many words as have a place, then what the row held from there on.
use native.Mathlib.Omega.{arith}
use Rattle.rows.proofs.Written.{over_taken}
use Rattle.rows.proofs.copy.Goals as goal

pub returns : goal.returns
returns c = rw c.copy_from_slice.ensures.after (over_taken c.args.words.now c.args.row.now _ (omega arith))
