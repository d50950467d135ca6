-- `run_pairs::times` meets its contract: the count along the row, by its places.
use mathlib.Core.Path.{◌≡◌, ◌∙◌}
use borrow.Author.Rules.{rules}
use lib.Dec.{eqb}
use Rattle.std.specs.List.{count_by}
use Rattle.theory_pairs.specs.Search.{stands_at}
use Rattle.run_pairs.proofs.Row.{counted}
use Rattle.run_pairs.proofs.times.Goals as goal

pub returns : goal.returns
unfolding stands_at
returns c =
    let a = c.args in
    let all : c.count.result ≡ count_by (λ y. eqb y a.x) a.counts.now = search rules in
    all ∙ counted (λ y. eqb y a.x) 0 a.counts.now 16384 (search rules)
