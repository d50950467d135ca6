-- `stream::keys::last` meets its contract: the last words of the pushed key, or of the joint row where the part is short.
use mathlib.Core.Path.{ap, ◌∙◌}
use native.Mathlib.Omega.{arith}
use lib.ListN.{take}
use Rattle.range.specs.States.{padded}
use Rattle.range.proofs.States.{held_length}
use Rattle.stream.proofs.Joined.{last_pushed, last_joint}
use borrow.Author.Rules.{rules}
use Rattle.stream.proofs.keys.last.Goals as goal

pub returns-then-n-words : goal.returns-then-n-words
returns-then-n-words c =
    let a = c.args in
    c.row.ensures ∙ ap (padded 8) (last_pushed a.n (take a.n a.held.now) a.key.now (held_length 8 a.n a.held.now (omega arith) (search rules)) c.if-n-words.true)

pub returns : goal.returns
returns c =
    let a = c.args in
    c.row-2.ensures ∙ ap (padded 8) (last_joint a.n (take a.n a.held.now) a.key.now (held_length 8 a.n a.held.now (omega arith) (search rules)) _ _ c.join-joint.ensures)
