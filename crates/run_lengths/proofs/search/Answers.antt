use Rattle.run_lengths.specs.Agree.{keys_of}
use Rattle.run_lengths.proofs.Largest.{largest_start}
use Rattle.run_lengths.proofs.search.Goals as goal

pub loop-byte-init : goal.loop-byte-init
loop-byte-init c = largest_start keys_of _ c.keys_of.ensures
