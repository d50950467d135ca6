-- `range::below` meets its contract: every word is below 2 ^ 32.
use mathlib.Core.Path.{sym, ◌∙◌}
use Prim.Native.Nat.{◌^◌}
use native.Mathlib.Omega.{arith}
use borrow.Author.Tests.{lt-ltb, le-leb}
use lib.Pow.{pow_mono}
use Rattle.range.proofs.below.Goals as goal

pub returns-then-w-ge32 : goal.returns-then-w-ge32
returns-then-w-ge32 c =
    let a = c.args in
    le-leb 32 a.w c.if-w-ge32.true ∙ sym (lt-ltb a.word (2 ^ a.w) (omega (arith, pow_mono c.if-w-ge32.true)))
