-- `mt19937::twist_at` meets its contract: the two indices are those of the step.
use Rattle.mt19937.specs.Published.{twist}
use Rattle.mt19937.proofs.twist_at.Goals as goal

pub returns : goal.returns
unfolding twist
returns c = cc
