-- `run_pairs::agreeing_keys` meets its contract: the sum along the two rows, by their places.
use mathlib.Core.Path.{◌∙◌, ap}
use mathlib.Core.Bool.{Bool, cond}
use Prim.Native.Nat.{ℕ}
use native.Mathlib.Omega.{arith}
use borrow.Author.Rules.{rules}
use borrow.Author.Tests.{tests}
use lib.Dec.{eqb}
use Rattle.std.specs.List.{zip}
use Rattle.std.proofs.lemmas.Iterator.{YieldsList-from_slice, YieldsList-from_zip, YieldsList-from_map}
use Rattle.std.proofs.lemmas.Iterator.Consumers.{YieldsList-at, sum_by_from_yields_List, fits_by_from_yields_list}
use Rattle.std.proofs.lemmas.List.Sums.{count_by-le-length}
use Rattle.std.proofs.lemmas.Slice.Zip.{length-zip, get_or-zip}
use Rattle.theory_counts.specs.Count.{as_number}
use Rattle.theory_counts.proofs.Sums.{sum_cong_below}
use Rattle.run_pairs.specs.Values.{same_at}
use Rattle.run_pairs.proofs.Row.{counted}
use Rattle.run_pairs.proofs.agreeing_keys.Goals as goal

-- the two values of a key are one
abbrev same : ℕ × ℕ → Bool
same p = eqb p.0 p.1

pub sum-requires-clause-fits : goal.sum-requires-clause-fits
sum-requires-clause-fits c =
    let pairs = zip c.args.first.now c.args.second.now in
    fits_by_from_yields_list (λ p. cond (same p) 1 0) pairs c.map.result _
    (YieldsList-from_map _ (λ p. cond (same p) 1 0)
    (YieldsList-at c.map.ensures.source (YieldsList-from_zip (YieldsList-from_slice c.args.first.now (cc)) (YieldsList-from_slice c.args.second.now (cc))))
    c.map.ensures.closure (λ x r q k. search (rules, tests)))
    (omega (arith, count_by-le-length same pairs, length-zip c.args.first.now c.args.second.now))

pub returns : goal.returns
unfolding same_at
returns c =
    let first = c.args.first.now in
    let second = c.args.second.now in
    sum_by_from_yields_List (λ p. cond (same p) 1 0) (zip first second) c.map.result c.sum.result c.sum.ensures.ran
    (YieldsList-from_map _ (λ p. cond (same p) 1 0)
    (YieldsList-at c.map.ensures.source (YieldsList-from_zip (YieldsList-from_slice first (cc)) (YieldsList-from_slice second (cc))))
    c.map.ensures.closure (λ x r q k. search (rules, tests)))
    ∙ counted same (0, 0) (zip first second) 16384 (omega (arith, length-zip first second))
    ∙ sum_cong_below 16384 _ _ (λ i h. ap (λ (p : ℕ × ℕ). as_number (same p)) (get_or-zip first second i (0, 0) (omega arith) (omega arith)))
