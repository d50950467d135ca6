-- `run_lengths::agreeing` meets its contract: the sum along the row, by its places.
use mathlib.Core.Path.{◌∙◌}
use mathlib.Core.Bool.{cond}
use Prim.Native.Nat.{ℕ, ◌+◌, ◌%◌}
use native.Mathlib.Omega.{arith}
use borrow.Author.Rules.{rules}
use borrow.Author.Tests.{tests}
use lib.Dec.{eqb}
use Rattle.std.proofs.lemmas.Iterator.{YieldsList-from_slice, YieldsList-from_map}
use Rattle.std.proofs.lemmas.Iterator.Consumers.{YieldsList-at, sum_by_from_yields_List, fits_by_from_yields_list}
use Rattle.std.proofs.lemmas.List.Sums.{count_by-le-length}
use Rattle.run_lengths.specs.Agree.{agrees_at}
use Rattle.run_lengths.proofs.Row.{counted}
use Rattle.run_lengths.proofs.agreeing.Goals as goal

pub sum-requires-clause-fits : goal.sum-requires-clause-fits
sum-requires-clause-fits c =
    let a = c.args in
    let agrees = λ (last : ℕ). eqb a.wanted ((a.start + last) % 256) in
    fits_by_from_yields_list (λ last. cond (agrees last) 1 0) a.lasts.now c.map.result _
    (YieldsList-from_map _ (λ last. cond (agrees last) 1 0) (YieldsList-at c.map.ensures.source (YieldsList-from_slice a.lasts.now (cc))) c.map.ensures.closure (λ x r q k. search (rules, tests)))
    (omega (arith, count_by-le-length agrees a.lasts.now))

pub returns : goal.returns
unfolding agrees_at
returns c =
    let a = c.args in
    let agrees = λ (last : ℕ). eqb a.wanted ((a.start + last) % 256) in
    let all =
    sum_by_from_yields_List (λ last. cond (agrees last) 1 0) a.lasts.now c.map.result c.sum.result c.sum.ensures.ran
    (YieldsList-from_map _ (λ last. cond (agrees last) 1 0) (YieldsList-at c.map.ensures.source (YieldsList-from_slice a.lasts.now (cc))) c.map.ensures.closure (λ x r q k. search (rules, tests))) in
    (all ∙ counted agrees a.lasts.now 256 (search rules), omega (arith, all, count_by-le-length agrees a.lasts.now))
