-- `run_lengths::digest_of_none` meets its contract: the call is accepted.
use borrow.Author.Rules.{rules}
use Rattle.run_lengths.proofs.Laws.{none_accepted}
use Rattle.run_lengths.proofs.digest_of_none.Goals as goal

pub digest-requires : goal.digest-requires
digest-requires c = none_accepted _ _ (search rules) (search rules)
