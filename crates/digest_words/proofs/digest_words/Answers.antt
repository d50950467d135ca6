-- `digest_words::digest_words` meets its contract: a refusal writes nothing, and an accepted call writes the digest.
use mathlib.Core.Path.{refl, ◌∙◌}
use native.Mathlib.Omega.{arith}
use Rattle.answers.proofs.Refused.{some_number, number_handed_on}
use Rattle.answers.proofs.Rows.{refused, accepted}
use Rattle.sum_terms.proofs.Each.{digest_written}
use Rattle.digest_words.specs.Call.{digest_row}
use Rattle.digest_words.proofs.Valid.{words_refused, words_passed, words_answered}
use Rattle.digest_words.proofs.digest_words.Goals as goal

pub returns-in_err-validate : goal.returns-in_err-validate
unfolding digest_row
returns-in_err-validate c =
    let some = some_number c.in_err-validate.field-0.0 in
    let answered = refused _ _ (words_refused _ _ _ _ _ _ c.in_err-validate.ensures some) some in
    (number_handed_on _ _ _ c.from_residual.ensures.1 answered.0, answered.1)

pub returns-then-not-add_sums : goal.returns-then-not-add_sums
unfolding digest_row
returns-then-not-add_sums c =
    refused _ _ (words_answered _ _ _ _ _ _ c.in_ok-validate.ensures refl c.add_sums.ensures.0 (c.if-not-add_sums.true)) (λ z. omega arith)

pub returns : goal.returns
unfolding digest_row
returns c =
    let a = c.args in
    let p = words_passed _ _ _ _ _ _ c.in_ok-validate.ensures refl in
    let answer = words_answered _ _ _ _ _ _ c.in_ok-validate.ensures refl c.add_sums.ensures.0 (c.if-not-add_sums.false) in
    let words = digest_written a.w a.b a.n a.message.now a.key.now _ a.out.now p.can p.room c.add_sums.ensures.1 in
    accepted _ _ answer _ refl (c.write_kept.ensures ∙ words)
