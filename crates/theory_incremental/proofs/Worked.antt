-- The worked edits, computed from the definitions.
-- Assumes nothing.
use mathlib.Core.Path.{refl}
use Rattle.theory_counts.specs.Words.{fits}
use Rattle.theory_digest.specs.Digest.{whole_sum, one_word, full_words, kept}
use Rattle.answers.specs.Answers.{first_of, none_of}
use Rattle.answers.specs.Table.{bad_width, bad_kept, bad_count, bad_words}
use Rattle.range.specs.States.{fit_row, padded}
use Rattle.sum_terms.specs.Sums.{add_sums, lack, subtract_sums}
use Rattle.state_sums.specs.State.{settings_tests, fit_sums, begun, updated, reading}
use Rattle.incremental.specs.State.{fit_state, opened, no_incremental, edit_sums, edited}
use Rattle.incremental.specs.Calls.{open_tests, open_answer, open_state, edit_tests, edit_answer, edit_state, edit_message}
use Rattle.theory_incremental.specs.Claims.{reach}
use Rattle.theory_incremental.specs.Worked.{Keystroke, EditAnswers}

pub keystroke : Keystroke
unfolding fits whole_sum one_word full_words kept first_of none_of bad_width bad_kept bad_count bad_words fit_row padded add_sums lack subtract_sums settings_tests fit_sums begun updated reading fit_state opened edit_sums edited open_tests open_answer open_state edit_tests edit_answer edit_state edit_message reach
keystroke = record { opening = refl; state = refl; answer = refl; row = refl; sums = refl; reaches = refl; exactly = refl; one_more = refl }

pub edit_answers : EditAnswers
unfolding EditAnswers fits first_of none_of bad_width bad_kept bad_count bad_words fit_row settings_tests fit_sums begun fit_state no_incremental edit_tests edit_answer
edit_answers = refl
