-- `state_sums::Accumulator::try_read` meets its contract: Tray and nothing written, or the sums, kept.
use mathlib.Core.Path.{refl, sym, ◌∙◌}
use Rattle.answers.proofs.Refused.{handed_on, some_number, same_refusal}
use Rattle.answers.proofs.Rows.{refused_row, accepted_row}
use Rattle.answers.proofs.Validation.{passed, tray_passed}
use Rattle.state_sums.proofs.Shared.{read_written}
use Rattle.state_sums.proofs.Accumulator.try_read.Goals as goal

pub returns-in_err-tray : goal.returns-in_err-tray
returns-in_err-tray c =
    let same = same_refusal _ _ c.from_residual.ensures.1 in
    (handed_on _ _ _ c.from_residual.ensures.1 c.in_err-tray.ensures, sym (refused_row _ _ _ (λ z. some_number _ (sym same ∙ z))))

pub returns : goal.returns
returns c =
    let room = tray_passed _ _ (passed 5 _ _ _ (c.in_ok-tray.ensures 0)).0 in
    (c.in_ok-tray.ensures, read_written _ _ _ room c.read.ensures ∙ sym (accepted_row 0 _ _ refl))
