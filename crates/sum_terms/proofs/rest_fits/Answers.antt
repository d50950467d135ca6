-- `sum_terms::rest_fits` meets its contract: the key's words, and before them the message word where it is asked for.
use Rattle.std.proofs.Common.{sym, ◌∙◌}
use Rattle.theory_counts.specs.Words.{fits}
use Rattle.sum_terms.specs.Sums.{tests}
use Rattle.sum_terms.proofs.rest_fits.Goals as goal
use Rattle.sum_terms.proofs.rest_fits.Goals.{then-not-tested, else-not-tested}

pub returns-then-below : goal.returns-then-below
unfolding tests fits
returns-then-below c =
    elim c.if-not-tested.branch [
      | then-not-tested w ↦ rw w.if-not-tested.true c.row_fits.ensures
      | else-not-tested w ↦ rw (w.if-not-tested.false, sym w.below.ensures ∙ sym w.value-is ∙ c.if-below.true) c.row_fits.ensures
    ]

pub returns-else-below : goal.returns-else-below
unfolding tests fits
returns-else-below c =
    elim c.if-not-tested.branch [
      | then-not-tested w ↦ let t = w.value-is in let v = w.if-not-tested.true in cc
      | else-not-tested w ↦ rw (w.if-not-tested.false, sym w.below.ensures ∙ sym w.value-is ∙ c.if-below.false) c.if-below.false
    ]
