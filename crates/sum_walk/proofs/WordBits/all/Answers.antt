-- `sum_walk::WordBits::all` meets its contract, by the law of the gathered bits.
use Rattle.sum_walk.proofs.Turns.{bits_hold}
use Rattle.sum_walk.proofs.WordBits.all.Goals as goal

pub returns : goal.returns
returns c = bits_hold c.args.self.even c.args.self.odd c.args.self.keys
