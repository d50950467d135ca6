-- `digest_bytes::digest_bytes` meets its contract: a refusal writes nothing, and an accepted call writes the digest of the bytes' words.
use mathlib.Core.Path.{refl, ◌∙◌}
use native.Mathlib.Omega.{arith}
use Rattle.answers.proofs.Refused.{some_number, number_handed_on}
use Rattle.answers.proofs.Rows.{refused, accepted}
use Rattle.sum_terms.proofs.Each.{digest_written}
use Rattle.sum_bytes.specs.Bytes.{words_of, Bytes}
use Rattle.sum_bytes.proofs.FromBytes.{checked_bytes_lem}
use Rattle.digest_bytes.specs.Call.{bytes_row}
use Rattle.digest_bytes.proofs.Valid.{bytes_refused, bytes_passed, bytes_answered}
use Rattle.digest_bytes.proofs.digest_bytes.Goals as goal
use Rattle.digest_bytes.proofs.digest_bytes.Goals.{In_ok-validate}

-- the message's bytes are bytes
small : (c : In_ok-validate) → Bytes c.args.message.now
small c i = omega (arith, c.type_inv.message i)

pub returns-in_err-validate : goal.returns-in_err-validate
unfolding bytes_row
returns-in_err-validate c =
    let some = some_number c.in_err-validate.field-0.0 in
    let answered = refused _ _ (bytes_refused _ _ _ _ _ _ c.in_err-validate.ensures some) some in
    (number_handed_on _ _ _ c.from_residual.ensures.1 answered.0, answered.1)

pub returns-then-not-sums_of_bytes : goal.returns-then-not-sums_of_bytes
unfolding bytes_row
returns-then-not-sums_of_bytes c =
    refused _ _ (bytes_answered _ _ _ _ _ _ c.in_ok-validate.ensures refl (small (goal.at.returns-then-not-sums_of_bytes c).In_ok-validate) c.sums_of_bytes.ensures.0 (c.if-not-sums_of_bytes.true)) (λ z. omega arith)

pub returns : goal.returns
unfolding bytes_row
returns c =
    let a = c.args in
    let xs = a.message.now in
    let p = bytes_passed _ _ _ _ _ _ c.in_ok-validate.ensures refl in
    let answer = bytes_answered _ _ _ _ _ _ c.in_ok-validate.ensures refl (small (goal.at.returns c).In_ok-validate) c.sums_of_bytes.ensures.0 (c.if-not-sums_of_bytes.false) in
    let sums = rw (checked_bytes_lem a.w xs p.0 a.n a.key.now) at c.sums_of_bytes.ensures.1 in
    let words = digest_written a.w a.b a.n (words_of a.w xs) a.key.now _ a.out.now p.1.can p.1.room sums in
    accepted _ _ answer _ refl (c.write_kept.ensures ∙ words)
