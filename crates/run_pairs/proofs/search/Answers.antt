-- `run_pairs::search` meets its contract, by the laws of the table and of the filled row.
use mathlib.Core.Path.{sym}
use Rattle.theory_pairs.specs.Agree.{agreeing}
use Rattle.run_pairs.specs.Number.{number_of}
use Rattle.run_pairs.proofs.Laws.{by_values, some_key}
use Rattle.run_pairs.proofs.Row.{filled_as, largest_of}
use Rattle.run_pairs.proofs.search.Goals as goal

pub returns : goal.returns
returns c =
    let d = number_of c.args.what in
    let values = c.fill_values.new.values in
    let filled = filled_as _ (agreeing d) c.all_counts-counts.result (λ a b ha hb. sym (by_values d values c.fill_values.ensures a b ha hb)) c.all_counts-counts.ensures in
    largest_of (agreeing d) (some_key d 0 1) c.all_counts-counts.result _ filled c.first_largest-at.ensures _ c.times-pairs.ensures
