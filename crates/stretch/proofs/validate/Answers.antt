-- `stretch::validate` meets its contract: the first check that refuses, else the last.
use Rattle.answers.proofs.Refused.{handed_on, first_stops, later_stops, last_decides}
use Rattle.stretch.specs.Load.{load_array_answer}
use Rattle.stretch.proofs.Loads.{answered}
use Rattle.stretch.proofs.validate.Goals as goal

pub returns-in_err-width : goal.returns-in_err-width
unfolding load_array_answer
returns-in_err-width c = answered _ _ (handed_on _ _ _ c.from_residual.ensures.1 (first_stops _ _ _ c.in_err-width.ensures))

pub returns-in_err-seed : goal.returns-in_err-seed
unfolding load_array_answer
returns-in_err-seed c = answered _ _ (handed_on _ _ _ c.from_residual-in_err-seed.ensures.1 (later_stops _ _ _ c.in_ok-width.ensures (first_stops _ _ _ c.in_err-seed.ensures)))

pub returns-in_err-long : goal.returns-in_err-long
unfolding load_array_answer
returns-in_err-long c =
    answered _ _
    (handed_on _ _ _ c.from_residual-in_err-long.ensures.1
    (later_stops _ _ _ c.in_ok-width.ensures (later_stops _ _ _ c.in_ok-seed.ensures (first_stops _ _ _ c.in_err-long.ensures))))

pub returns : goal.returns
unfolding load_array_answer
returns c =
    answered _ _
    (last_decides _ _ _ c.in_ok-width.ensures (last_decides _ _ _ c.in_ok-seed.ensures (last_decides _ _ _ c.in_ok-long.ensures c.long-2.ensures)))
