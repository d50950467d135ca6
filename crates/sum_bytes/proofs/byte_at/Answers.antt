-- `sum_bytes::byte_at` meets its contract: the message's byte, the closing byte, or none.
use mathlib.Core.Path.{sym, ◌∙◌}
use native.Mathlib.Omega.{arith}
use Rattle.sum_bytes.proofs.Closing.{closed_own, closing_byte, closed_none}
use Rattle.sum_bytes.proofs.byte_at.Goals as goal

pub returns-in-Some : goal.returns-in-Some
returns-in-Some c =
    let a = c.args in
    let own = c.in-Some.ensures.lookup.3 in
    own.1 0 ∙ sym (closed_own a.bytes.now a.i own.0)

pub returns-in-None : goal.returns-in-None
returns-in-None c = let a = c.args in sym (closing_byte a.bytes.now a.i (omega arith))

pub returns-in-None-2 : goal.returns-in-None-2
returns-in-None-2 c = let a = c.args in let past = c.in-None-2.ensures.lookup.3 in sym (closed_none a.bytes.now a.i (omega arith))
