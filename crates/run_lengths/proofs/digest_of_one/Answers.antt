-- `run_lengths::digest_of_one` meets its contract: the call is accepted.
use borrow.Author.Rules.{rules}
use Rattle.run_lengths.proofs.Laws.{one_accepted}
use Rattle.run_lengths.proofs.digest_of_one.Goals as goal

pub digest-requires : goal.digest-requires
digest-requires c = one_accepted _ _ _ (search rules) (search rules) (search rules)
