-- `incremental::sums::corrected` meets its contract: taken off, then added.
use borrow.Author.Rules.{rules}
use Rattle.incremental.proofs.sums.corrected.Goals as goal

pub returns : goal.returns
returns c = (rw (c.add_word.ensures, c.subtract_word.ensures), search rules)
