-- `sum_edits::subtract_word` meets its contract: with what the share lacks to the next multiple of 2^w it is taken off.
use Rattle.std.proofs.Common.{◌≡◌, ◌+◌, ◌%◌, ◌^◌, ◌∙◌, rules}
use Rattle.sum_terms.specs.Sums.{lack}
use Rattle.sum_edits.proofs.Shares.{taken, change_subtracts}
use Rattle.sum_edits.proofs.subtract_word.Goals as goal

pub returns : goal.returns
returns c =
    let a = c.args in
    c.change_sums.ensures (lack a.w) (λ sum share r le did.
    let wraps : (r + share) % 2 ^ 32 ≡ sum = search rules in
    taken a.w r sum share le wraps)
    ∙ change_subtracts a.w a.n a.m a.part.now a.sums.now
