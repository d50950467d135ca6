-- `sum_edits::add_word` meets its contract: what wraps at 2^32 is a multiple of 2^w.
use Rattle.std.proofs.Common.{◌≡◌, ℕ, ◌+◌, ◌%◌, ◌^◌, ap, ◌∙◌, rules}
use Rattle.sum_walk.proofs.Apart.{reduced}
use Rattle.sum_edits.proofs.Shares.{change_adds}
use Rattle.sum_edits.proofs.add_word.Goals as goal

pub returns : goal.returns
returns c =
    let a = c.args in
    c.change_sums.ensures (λ x. x) (λ sum share r le did.
    let wraps : r ≡ (sum + share) % 2 ^ 32 = search rules in
    ap (λ (x : ℕ). x % 2 ^ a.w) wraps ∙ reduced a.w 32 (sum + share) le)
    ∙ change_adds a.w a.n a.m a.part.now a.sums.now
