-- `run_lengths::search` meets its contract: best is the largest of the messages passed.
use Rattle.run_lengths.specs.Agree.{keys_of}
use Rattle.theory_counts.specs.Largest.{Largest}
use Rattle.run_lengths.proofs.Largest.{every_place}
use Rattle.run_lengths.proofs.search.Given as goal

abbrev pub invariant-loop-byte : goal.invariant-loop-byte
invariant-loop-byte l = Largest every_place keys_of l.byte l.best.largest l.best.first l.best.messages
