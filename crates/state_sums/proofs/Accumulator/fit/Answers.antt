-- `state_sums::Accumulator::fit` meets its contract: the settings and the count, then the row.
use mathlib.Core.Path.{◌≡◌, sym, ap, ◌∙◌}
use mathlib.Core.Bool.{Bool, not, ◌&&◌, and_assoc}
use Rattle.answers.specs.Answers.{none_of}
use Rattle.answers.specs.Table.{too_long}
use Rattle.answers.proofs.Refused.{says_ok, says_not}
use Rattle.range.specs.States.{fit_row}
use Rattle.state_sums.specs.State.{settings_tests, fit_sums}
use Rattle.state_sums.proofs.Shared.{settings_none}
use Rattle.state_sums.proofs.Accumulator.fit.Goals as goal
use Rattle.state_sums.proofs.Accumulator.fit.Goals.{Joined-is_ok, then-is_ok, else-is_ok}

tested : (c : Joined-is_ok) → let a = c.args.self.now in c.if-is_ok.value ≡ (none_of (settings_tests a.width a.kept a.n) && not (too_long c.args.most a.count))
tested c =
    let a = c.args.self.now in
    let settings = c.is_ok.ensures.value ∙ says_ok c.settings.result ∙ sym (settings_none a.width a.kept a.n _ c.settings.ensures) in
    elim c.if-is_ok.branch [
      | then-is_ok w ↦ rw (sym settings ∙ w.if-is_ok.true) (w.value-is ∙ w.is_ok-then-is_ok.ensures.value ∙ says_not _ _ _ w.long.ensures)
      | else-is_ok w ↦ rw (sym settings ∙ w.if-is_ok.false) (w.value-is ∙ w.if-is_ok.false)
    ]

-- v is whether the settings and the count pass
with-row : (c : Joined-is_ok) {v : Bool} → c.if-is_ok.value ≡ v → let a = c.args.self.now in (v && fit_row a.width a.n a.sums) ≡ fit_sums c.args.most a
unfolding fit_sums
with-row c is = let a = c.args.self.now in ap (λ (t : Bool). t && fit_row a.width a.n a.sums) (sym is ∙ tested c) ∙ and_assoc (none_of (settings_tests a.width a.kept a.n)) (not (too_long c.args.most a.count)) (fit_row a.width a.n a.sums)

pub returns-then-is_ok-2 : goal.returns-then-is_ok-2
returns-then-is_ok-2 c = c.fit_row.ensures ∙ with-row (goal.at.returns-then-is_ok-2 c).Joined-is_ok c.if-is_ok-2.true

pub returns-else-is_ok-2 : goal.returns-else-is_ok-2
returns-else-is_ok-2 c = c.if-is_ok-2.false ∙ with-row (goal.at.returns-else-is_ok-2 c).Joined-is_ok c.if-is_ok-2.false
