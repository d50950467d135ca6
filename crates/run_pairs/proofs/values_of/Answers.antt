-- `run_pairs::values_of` meets its contract: each place has what the closure gives there.
use borrow.Author.Rules.{rules}
use Rattle.run_pairs.specs.Values.{ValueOf}
use Rattle.run_pairs.specs.Number.{number_of}
use Rattle.run_pairs.proofs.Row.{made}
use Rattle.run_pairs.proofs.values_of.Goals as goal

pub returns-in-Digest : goal.returns-in-Digest
returns-in-Digest c = rw c.in-Digest.is (λ i h. made _ _ (ValueOf 0 c.args.m) (λ i y q k. search rules) _ _ c.from_fn.ensures.items i 0 h)

pub returns-in-OneDigit : goal.returns-in-OneDigit
returns-in-OneDigit c = rw c.in-OneDigit.is (λ i h. made _ _ (ValueOf 1 c.args.m) (λ i y q k. search rules) _ _ c.from_fn-in-OneDigit.ensures.items i 0 h)

pub returns-in-TwoDigits : goal.returns-in-TwoDigits
returns-in-TwoDigits c = rw c.in-TwoDigits.is (λ i h. made _ _ (ValueOf 2 c.args.m) (λ i y q k. search rules) _ _ c.from_fn-in-TwoDigits.ensures.items i 0 h)
