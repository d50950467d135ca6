-- `mt19937::make_ready` meets its contract, by whether the position is 624.
use Rattle.mt19937.proofs.Laws.{ready_used, ready_other}
use Rattle.mt19937.proofs.make_ready.Goals as goal

pub returns-then-at-eq-SIZE : goal.returns-then-at-eq-SIZE
returns-then-at-eq-SIZE c = rw c.refill_all.ensures (ready_used _ _ c.if-at-eq-SIZE.true)

pub returns-else-at-eq-SIZE : goal.returns-else-at-eq-SIZE
returns-else-at-eq-SIZE c = ready_other _ _ c.if-at-eq-SIZE.false
