use mathlib.Core.List.{[]}
use borrow.Author.Rules.{rules}
use Rattle.run_pairs.specs.Values.{Valued}
use Rattle.run_pairs.specs.Number.{number_of}
use Rattle.run_pairs.proofs.Row.{set_more}
use Rattle.run_pairs.proofs.fill_values.Goals as goal

pub loop-m-preserved : goal.loop-m-preserved
loop-m-preserved c =
    let l = c.loop-m in
    (search rules, set_more (λ m row. Valued (number_of c.args.what) m row 16384) [] l.values l.m _ (search rules) c.values_of.ensures l.invariant.1)
