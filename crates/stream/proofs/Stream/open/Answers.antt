-- `stream::Stream::open` meets its contract: a refusal leaves the all-zero state, an accepted call gives the opened one.
use mathlib.Core.Path.{sym, ◌∙◌}
use native.Mathlib.Omega.{arith}
use Rattle.answers.proofs.Refused.{state_stays, still_none}
use Rattle.answers.proofs.States.{new_state}
use Rattle.stream.specs.State.{opened, no_stream}
use Rattle.stream.specs.Calls.{open_state}
use Rattle.stream.proofs.Valid.{opens}
use Rattle.stream.proofs.Made.{opened_from}
use Rattle.stream.proofs.Stream.open.Goals as goal

pub returns-in_err-opening_with_words : goal.returns-in_err-opening_with_words
unfolding open_state
returns-in_err-opening_with_words c =
    let a = c.args in
    let is = c.from_residual.ensures.1 in
    let refused = state_stays _ _ is c.in_err-opening_with_words.ensures (opened a.w a.b a.n a.key.now) no_stream in
    (refused.0, still_none _ _ is no_stream ∙ refused.1)

pub row-requires : goal.row-requires
row-requires c =
    let o = opens _ _ _ _ (sym c.in_ok-opening_with_words.ensures) in
    omega (arith, o.words, o.settings.words)

pub returns : goal.returns
unfolding open_state
returns c =
    let accepted = c.in_ok-opening_with_words.ensures in
    (accepted, opened_from _ _ _ _ _ _ c.new.ensures c.row.ensures ∙ sym (new_state _ _ _ (sym accepted)))
