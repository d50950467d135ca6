-- The agent's own comparison: two accepted calls of the word digest under one key, and the match of what they wrote.
-- Assumes nothing.
use mathlib.Core.Path.{◌≡◌, refl, ap, ap₂, ◌∙◌}
use mathlib.Core.Bool.{true}
use mathlib.Core.List.{List, [], ◌∷◌}
use Prim.Native.Nat.{ℕ, ◌+◌, ◌≤◌}
use native.Mathlib.Nat.{le_of_eq, le_trans}
use native.Mathlib.Omega.{arith}
use lib.Dec.{eqb}
use lib.ListN.{length, take}
use lib.Seq.{take_at}
use Rattle.theory_counts.specs.Words.{fits}
use Rattle.theory_digest.specs.Digest.{digest}
use Rattle.theory_counts.specs.Count.{as_number, count}
use Rattle.theory_digest.specs.Settings.{InRange}
use Rattle.theory_counts.proofs.Rows.{rows_le}
use Rattle.theory_counts.proofs.Tests.{holds}
use Rattle.answers.specs.Answers.{first_of, afterwards}
use Rattle.answers.specs.Table.{kept_test, count_test, long_test, key_test, tray_test, word_test}
use Rattle.answers.proofs.Validation.{passes, none_holds, width_passes, kept_passes, count_passes, long_passes, key_passes, tray_passes, words_pass}
use Rattle.answers.proofs.Rows.{accepted_row}
use Rattle.sum_terms.proofs.Each.{length_digest}
use Rattle.digest_words.specs.Call.{digest_tests, digest_answer, digest_row}
use Rattle.digest_match.specs.Match.{match_answer}
use Rattle.theory_matches.specs.Matches.{keys_that_match, FalseMatches}
use Rattle.theory_matches.specs.Calls.{calls_that_match, FalseCalls, WordsAccepted}
use Rattle.theory_matches.proofs.Matches.{false_matches}

-- the tests after the width, which are the same for words and for bytes, let such a call pass
pub after_width_pass : (w b n : ℕ) (ms ks out : List ℕ) → InRange w b n → length ms ≤ 65536 → length ks ≡ length ms + n → n ≤ length out → fits w ms ≡ true → fits w ks ≡ true
    → first_of (kept_test w b ∷ count_test n ∷ long_test (length ms) ∷ key_test (length ms + n) (length ks) ∷ tray_test n (length out) ∷ []) (first_of (word_test w ms ks ∷ []) 0) ≡ 0
after_width_pass w b n ms ks out r few long room m k =
    passes 2 _ _ refl (kept_passes w b r.some_kept r.kept)
    (passes 3 _ _ refl (count_passes n r.some_words r.words)
    (passes 4 _ _ refl (long_passes 65536 (length ms) few)
    (passes 5 _ _ refl (key_passes (length ms + n) (length ks) long)
    (passes 6 _ _ refl (tray_passes n (length out) room) (none_holds _ ∙ passes 7 _ 0 refl (words_pass w ms ks m k) (none_holds 0))))))

-- the n words that an accepted call wrote
pub written : (w b n : ℕ) (ms ks out : List ℕ) (answer : ℕ) → answer ≡ 0 → take n (afterwards answer (digest w b n ms ks) out) ≡ digest w b n ms ks
written w b n ms ks out answer e = ap (take n) (accepted_row answer (digest w b n ms ks) out e) ∙ take_at (digest w b n ms ks) _ n (length_digest w b n ms ks)

pub words_accepted : WordsAccepted
unfolding WordsAccepted digest_answer digest_tests
words_accepted w b n t ms ks out r few room m k =
    passes 1 _ _ refl (width_passes w r.some_width r.width)
    (after_width_pass w b n ms ks out r (omega (arith, m.long)) (omega (arith, m.long, k.long)) room (holds (fits w ms) m.below) (holds (fits w ks) k.below))

pub false_calls : FalseCalls
unfolding FalseCalls calls_that_match digest_row FalseMatches keys_that_match count WordsAccepted
false_calls w b n t first second out out' r few room room' m m' ne =
    le_trans
    (rows_le w (t + n) _ _
    (λ ks k.
    le_of_eq
    (ap₂ (λ (x y : List ℕ). as_number (eqb (match_answer n x y) 100))
    (written w b n first ks out _ (words_accepted w b n t first ks out r few room m k))
    (written w b n second ks out' _ (words_accepted w b n t second ks out' r few room' m' k)))))
    (false_matches w b n t first second r.kept m m' ne)
