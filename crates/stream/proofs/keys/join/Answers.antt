-- `stream::keys::join` meets its contract: two copies into a row of zeros.
use native.Mathlib.Omega.{arith}
use lib.ListN.{take, replicate}
use Rattle.range.proofs.States.{held_length}
use Rattle.stream.proofs.Joined.{two_copies}
use borrow.Author.Rules.{rules}
use Rattle.stream.proofs.keys.join.Goals as goal

pub returns : goal.returns
returns c =
    let a = c.args in
    two_copies a.n _ (take a.n a.held.now) a.key.now (replicate 16 0) _ _ (held_length 8 a.n a.held.now (omega arith) (search rules)) (omega arith) c.copy_from_slice.ensures.after c.copy_from_slice-2.ensures.after
