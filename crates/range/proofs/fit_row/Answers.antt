-- `range::fit_row` meets its contract: the words, then the unused places, as words of no bits.
use mathlib.Core.Path.{◌≡◌, sym}
use mathlib.Core.Bool.{◌&&◌}
use mathlib.Core.List.{List}
use Prim.Native.Nat.{ℕ, min}
use lib.ListN.{length, take, drop}
use Rattle.std.proofs.lemmas.List.{take_min, drop_min}
use Rattle.theory_counts.specs.Words.{fits}
use Rattle.range.specs.States.{fit_row}
use Rattle.range.proofs.fit_row.Goals as goal

-- where the row is cut
cut : (w n at : ℕ) (row words unused : List ℕ) → at ≡ min n (length row) → words ≡ take at row → unused ≡ drop at row → fit_row w n row ≡ (fits w words && fits 0 unused)
unfolding fit_row
cut w n at row words unused e held rest = sym (rw (held, rest, e, take_min n row, drop_min n row))

pub returns-then-row_fits : goal.returns-then-row_fits
returns-then-row_fits c =
    let a = c.args in
    let s = c.split_at.ensures in
    rw (cut a.w a.n _ a.row.now _ _ c.min.ensures s.front s.back, sym c.row_fits.ensures, c.if-row_fits.true) c.row_fits-then-row_fits.ensures

pub returns-else-row_fits : goal.returns-else-row_fits
returns-else-row_fits c =
    let a = c.args in
    let s = c.split_at.ensures in
    rw (cut a.w a.n _ a.row.now _ _ c.min.ensures s.front s.back, sym c.row_fits.ensures, c.if-row_fits.false)
