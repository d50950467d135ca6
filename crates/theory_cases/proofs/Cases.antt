-- Every case is in the table, and every row of it holds: one test, computed over the whole table, and one theorem.
-- Assumes nothing.
use mathlib.Core.Path.{◌≡◌, refl}
use mathlib.Core.Bool.{Bool, true, ◌&&◌}
use mathlib.Core.List.{List, [], ◌∷◌}
use Prim.Native.Nat.{ℕ, zero, suc, ◌<◌}
use native.Mathlib.Nat.{not-suc-le-zero, le_of_suc-le-suc}
use lib.Dec.{T}
use lib.ListN.{length, get_or}
use Rattle.rows.specs.Written.{tabulate}
use Rattle.theory_counts.specs.Words.{fits}
use Rattle.theory_digest.specs.Digest.{whole_sum, one_word, full_words, kept, digest}
use Rattle.theory_counts.specs.Count.{sum_to, over_rows, as_number, count, same_row, every, differ_by}
use Rattle.theory_digest.specs.Claims.{keys_that_differ, keys_that_give}
use Rattle.theory_counts.specs.Tests.{RowTest}
use Rattle.theory_counts.proofs.Tests.{both_hold, row_test}
use Rattle.answers.specs.Answers.{first_of, none_of, afterwards}
use Rattle.answers.specs.Table.{bad_width, bad_kept, bad_count, bad_words}
use Rattle.digest_code.specs.Digits.{bad_digits}
use Rattle.range.specs.States.{fit_row, padded}
use Rattle.sum_terms.specs.Sums.{add_sums}
use Rattle.sum_bytes.specs.Bytes.{little_endian, words_from, count_of, in_words, closed, words_of}
use Rattle.digest_words.specs.Call.{digest_answer, digest_row, digest_tests}
use Rattle.digest_code.specs.Code.{code_number, digits, evened, pack_pairs, packed, code}
use Rattle.digest_code.specs.Call.{code_answer, code_row, code_tests}
use Rattle.stream.specs.State.{fit_state, last_words, pushed, opened, no_stream}
use Rattle.state_sums.specs.State.{settings_tests, fit_sums, begun, updated, reading}
use Rattle.stream.specs.Calls.{open_tests, open_answer, open_state, push_tests, push_answer, push_state, read_answer, read_row}
use Rattle.mt19937.specs.Published.{following, new_word, new_words, seeded}
use Rattle.theory_cases.specs.Cases.{Case, case, called, cases, EveryLetter, EveryCase}

agree : List Case → Bool
agree [] = true
agree (c ∷ cs) = same_row c.given c.written && agree cs

agree_at : (cs : List Case) → T (agree cs) → (i : ℕ) → i < length cs → (get_or cs i (case "" [] [])).given ≡ (get_or cs i (case "" [] [])).written
unfolding agree RowTest
agree_at [] t i lt = absurd (not-suc-le-zero lt)
agree_at (c ∷ cs) t zero lt = (row_test c.given c.written).0 (both_hold (same_row c.given c.written) (agree cs) t).0
agree_at (c ∷ cs) t (suc i) lt = agree_at cs (both_hold (same_row c.given c.written) (agree cs) t).1 i (le_of_suc-le-suc lt)

pub every_letter : EveryLetter
unfolding EveryLetter cases
every_letter = refl

pub every_case : EveryCase
unfolding EveryCase agree cases called settings_tests fit_sums begun updated open_tests open_answer open_state push_tests push_answer push_state read_answer reading read_row padded fit_state add_sums last_words pushed opened no_stream words_of closed in_words words_from count_of little_endian seeded new_words tabulate new_word following digest_tests digest_answer digest_row code_tests code_answer code_row code_number digits evened pack_pairs packed code first_of none_of bad_width bad_kept bad_count bad_words bad_digits fit_row afterwards fits whole_sum one_word full_words kept digest sum_to over_rows as_number count same_row every differ_by keys_that_differ keys_that_give
every_case = agree_at cases tt
