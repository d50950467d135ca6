-- `run_lengths::last_words` meets its contract: each place has what the closure gives there.
use borrow.Author.Rules.{rules}
use Rattle.run_lengths.specs.Agree.{last_word}
use Rattle.run_lengths.proofs.Row.{made}
use Rattle.run_lengths.proofs.last_words.Goals as goal

pub returns : goal.returns
unfolding last_word
returns c = made _ _ last_word (λ i y q k. search rules) _ _ c.from_fn.ensures.items
