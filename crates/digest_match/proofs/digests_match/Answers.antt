-- `digest_match::digests_match` meets its contract: the first check that refuses, or what the rows say.
use mathlib.Core.Path.{sym, ◌∙◌}
use borrow.Author.Tests.{eq-eqb, ne_eqb}
use Rattle.answers.proofs.Validation.{rows_passed}
use Rattle.answers.proofs.Refused.{match_handed_on, stands, first_stops, later_stops, rest_decides, row_passed}
use Rattle.digest_match.specs.Match.{match_answer}
use Rattle.digest_match.proofs.Agree.{unlike_tells}
use Rattle.digest_match.proofs.digests_match.Goals as goal

pub returns-in_err-count : goal.returns-in_err-count
unfolding match_answer
returns-in_err-count c = match_handed_on _ _ _ c.from_residual.ensures.1 (stands _ _ _ (first_stops _ _ _ c.in_err-count.ensures))

pub returns-in_err-match_tray : goal.returns-in_err-match_tray
unfolding match_answer
returns-in_err-match_tray c =
    match_handed_on _ _ _ c.from_residual-in_err-match_tray.ensures.1 (stands _ _ _ (later_stops _ _ _ c.in_ok-count.ensures (first_stops _ _ _ c.in_err-match_tray.ensures)))

pub returns-then-unlike-eq0 : goal.returns-then-unlike-eq0
unfolding match_answer
returns-then-unlike-eq0 c =
    let p = rows_passed _ _ _ (row_passed _ _ c.in_ok-match_tray.ensures) in
    let same = sym (unlike_tells _ _ p.0 p.1 c.unlike.ensures) ∙ eq-eqb c.unlike.result 0 c.if-unlike-eq0.true in
    sym (rw same (rest_decides _ _ 0 c.in_ok-count.ensures c.in_ok-match_tray.ensures 100))

pub returns : goal.returns
unfolding match_answer
returns c =
    let p = rows_passed _ _ _ (row_passed _ _ c.in_ok-match_tray.ensures) in
    let other = sym (unlike_tells _ _ p.0 p.1 c.unlike.ensures) ∙ ne_eqb c.unlike.result 0 c.if-unlike-eq0.false in
    sym (rw other (rest_decides _ _ 0 c.in_ok-count.ensures c.in_ok-match_tray.ensures 101))
