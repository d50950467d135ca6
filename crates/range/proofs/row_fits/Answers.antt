-- `range::row_fits` meets its contract: the row's bits are below 2^w.
use mathlib.Core.Path.{ap, ◌∙◌}
use Prim.Native.Nat.{ℕ, ◌^◌}
use lib.Dec.{ltb}
use Rattle.range.proofs.Range.{all_below}
use Rattle.range.proofs.row_fits.Goals as goal

pub returns : goal.returns
returns c =
    let a = c.args in
    c.below.ensures ∙ ap (λ (x : ℕ). ltb x (2 ^ a.w)) c.all_bits.ensures ∙ all_below a.w a.row.now
