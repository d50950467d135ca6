-- `mt19937_array::from_array` meets its contract: a refused seed makes nothing, another the words that it makes, at position 624.
use Rattle.std.proofs.Common.{◌∙◌}
use Rattle.answers.proofs.Refused.{same_refusal, still_none}
use Rattle.answers.proofs.Validation.{seed_passed}
use Rattle.mt19937_array.proofs.SeedArray.{making_refused, none_made, making_accepted, making_passed}
use Rattle.mt19937_array.proofs.from_array.Goals as goal

pub returns-in_err-seed : goal.returns-in_err-seed
returns-in_err-seed c =
    let is = c.from_residual.ensures.1 in
    record {
      answer = same_refusal _ _ is ∙ making_refused _ _ c.in_err-seed.ensures;
      state = still_none _ _ is _ ∙ none_made _ _ c.in_err-seed.ensures;
    }

pub fill_by_array-requires : goal.fill_by_array-requires
fill_by_array-requires c = seed_passed _ (making_passed _ c.in_ok-seed.ensures)

pub returns : goal.returns
returns c =
    let m = making_accepted _ _ c.in_ok-seed.ensures c.fill_by_array.ensures in
    record { answer = m.0; state = m.1 }
