-- `run_pairs::all_counts` meets its contract: each place has what the closure gives there.
use mathlib.Core.Path.{◌≡◌}
use borrow.Author.Rules.{rules}
use Rattle.theory_pairs.specs.Search.{cell_at}
use Rattle.run_pairs.specs.Values.{agreeing_in}
use Rattle.run_pairs.proofs.Row.{made}
use Rattle.run_pairs.proofs.all_counts.Goals as goal

pub returns : goal.returns
returns c = λ j h. made _ _ (λ j x. x ≡ cell_at (agreeing_in c.args.values.now) j) (λ i y q k. search rules) _ _ c.from_fn.ensures.items j 0 h
