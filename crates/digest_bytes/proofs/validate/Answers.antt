-- `digest_bytes::validate` meets its contract: the width, and then the tests that words have too. At a byte width the words are as
-- many as the code counts.
use mathlib.Core.Path.{◌∙◌}
use Rattle.answers.proofs.Refused.{handed_on, first_stops, last_decides, row_passed}
use Rattle.sum_bytes.proofs.FromBytes.{words_in_lem}
use Rattle.digest_bytes.specs.Call.{bytes_tests}
use Rattle.digest_bytes.proofs.validate.Goals as goal

pub returns-in_err-byte_width : goal.returns-in_err-byte_width
unfolding bytes_tests
returns-in_err-byte_width c = handed_on _ _ _ c.from_residual.ensures.1 (first_stops _ _ _ c.in_err-byte_width.ensures)

pub returns : goal.returns
unfolding bytes_tests
returns c =
    let counted = c.words_in-t.ensures ∙ words_in_lem c.args.w c.args.message.now (row_passed _ _ c.in_ok-byte_width.ensures) in
    rw (← counted) (last_decides _ _ _ c.in_ok-byte_width.ensures c.validate_after_width.ensures)
