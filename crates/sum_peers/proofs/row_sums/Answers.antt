-- `sum_peers::row_sums` meets its contract: rows of zeros where it cannot sum, and else the message's sums.
use Rattle.std.proofs.Common.{◌≡◌, ◌+◌, ◌*◌, ◌≤◌, true, length, sym, refl, ◌∙◌, true≢false, arith}
use Rattle.answers.proofs.Validation.{peers_passed}
use Rattle.answers.proofs.Refused.{refuses_where}
use Rattle.sum_peers.specs.Peers.{peers_summable}
use Rattle.sum_peers.proofs.Suffices.{too_few_or_many, not_summable, peers_can, peers_ready}
use Rattle.sum_peers.proofs.row_sums.Goals as goal
use Rattle.sum_peers.proofs.row_sums.Goals.{Else-not-can_sum}

can : (c : Else-not-can_sum) → peers_summable c.args.w c.args.n c.args.p (length c.args.message.now) (length c.args.keys.now) ≡ true
can c = peers_can _ _ _ _ _ (sym (refuses_where _ _ _ c.peers.ensures) ∙ (sym c.is_err.ensures.value ∙ c.if-is_err.false)) (sym c.can_sum.ensures ∙ c.if-not-can_sum.false)

here : (c : Else-not-can_sum) → (c.args.w ≤ 32) × (c.args.n ≤ 8) × (c.args.p ≤ 16) × (c.args.p * (length c.args.message.now + c.args.n) ≤ length c.args.keys.now)
here c = peers_ready _ _ _ _ _ (can c)

pub returns-then-is_err : goal.returns-then-is_err
returns-then-is_err c =
    let none = too_few_or_many _ _ _ _ _ (sym (refuses_where _ _ _ c.peers.ensures) ∙ (sym c.is_err.ensures.value ∙ c.if-is_err.true)) in
    (λ e. absurd (true≢false (sym e ∙ none)), λ e. (refl, refl))

pub nonzero_div-keys : goal.nonzero_div-keys
nonzero_div-keys c = omega (arith, peers_passed _ (sym (refuses_where _ _ _ c.peers.ensures) ∙ (sym c.is_err.ensures.value ∙ c.if-is_err.false)))

pub returns-then-not-can_sum : goal.returns-then-not-can_sum
returns-then-not-can_sum c =
    let none = not_summable _ _ _ _ _ (sym (refuses_where _ _ _ c.peers.ensures) ∙ (sym c.is_err.ensures.value ∙ c.if-is_err.false)) (sym c.can_sum.ensures ∙ c.if-not-can_sum.true) in
    (λ e. absurd (true≢false (sym e ∙ none)), λ e. (refl, refl))

pub invariant_of-peers : goal.invariant_of-peers
invariant_of-peers c =
    let h = here (goal.at.invariant_of-peers c).Else-not-can_sum in
    record { width = h.0; sums = h.1; peers = h.2; whole = h.3 }

pub returns-then-add_message : goal.returns-then-add_message
returns-then-add_message c =
    let h = c.add_message.ensures in
    let summable = can (goal.at.returns-then-add_message c).Else-not-can_sum in
    (λ e. (h.0, sym c.if-add_message.true ∙ h.1), λ e. absurd (true≢false (sym summable ∙ e)))

pub returns-else-add_message : goal.returns-else-add_message
returns-else-add_message c =
    let h = c.add_message.ensures in
    let summable = can (goal.at.returns-else-add_message c).Else-not-can_sum in
    (λ e. (h.0, sym c.if-add_message.false ∙ h.1), λ e. absurd (true≢false (sym summable ∙ e)))
