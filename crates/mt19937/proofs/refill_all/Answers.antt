-- `mt19937::refill_all` meets its contract: two runs and the last step are the 624 steps.
use Rattle.mt19937.specs.Published.{twist, refill}
use Rattle.mt19937.proofs.Laws.{steps_none, steps_next}
use Rattle.mt19937.proofs.refill_all.Goals as goal

pub returns : goal.returns
unfolding refill
returns c =
    let ws = c.args.words.now in
    cc (c.twist_run-2.ensures ws (c.twist_run.ensures ws (steps_none twist ws)), steps_next twist 623 ws)
