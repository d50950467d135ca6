-- `stretch::stretch` meets its contract: a load without a message.
use lib.ListN.{length}
use Rattle.stretch.proofs.Loads.{of_a_stretch}
use Rattle.stretch.proofs.stretch.Goals as goal

pub returns : goal.returns
returns g c =
    let args = c.args in
    let e = of_a_stretch args.w (length args.out.now) (g.S.Seed.words args.seed) in
    (rw e at c.load.ensures.0, rw e at c.load.ensures.1)
