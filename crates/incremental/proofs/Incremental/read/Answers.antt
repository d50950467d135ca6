-- `incremental::Incremental::read` meets its contract: State, or what the sums' reading answers and leaves.
use Rattle.state_sums.proofs.Reading.{unfit, is_read}
use Rattle.incremental.specs.Calls.{read_answer, read_row}
use Rattle.incremental.proofs.Incremental.read.Goals as goal

pub returns-in_err-check : goal.returns-in_err-check
unfolding read_answer read_row
returns-in_err-check c = unfit _ _ c.fit.ensures _ _ c.from_residual.ensures.1 c.in_err-check.ensures

pub returns : goal.returns
unfolding read_answer read_row
returns c = is_read _ _ c.fit.ensures _ _ c.in_ok-check.ensures c.try_read.ensures.0 c.try_read.ensures.1
