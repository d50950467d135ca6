-- `stream::Stream::fit` meets its contract: the shared part, then the key words.
use mathlib.Core.Path.{sym, ◌∙◌}
use Rattle.stream.specs.State.{fit_state}
use Rattle.stream.proofs.Stream.fit.Goals as goal

pub returns-then-fit : goal.returns-then-fit
unfolding fit_state
returns-then-fit c = rw (sym c.fit.ensures ∙ c.if-fit.true) c.fit_row.ensures

pub returns-else-fit : goal.returns-else-fit
unfolding fit_state
returns-else-fit c = rw (sym c.fit.ensures ∙ c.if-fit.false) c.if-fit.false
