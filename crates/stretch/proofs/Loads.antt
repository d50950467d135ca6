-- The four answers are one, and the two rows of a load, laid end to end, are one row.
use Prim.Native.Nat.{ℕ, ◌+◌, ◌≤◌}
use mathlib.Core.Path.{◌≡◌, refl, sym, ◌∙◌}
use mathlib.Core.Bool.{Bool, true, false, cond}
use mathlib.Core.List.{List, [], ◌∷◌, ◌++◌}
use native.Mathlib.Omega.{arith}
use lib.Dec.{eqb}
use borrow.Author.Tests.{ne_eqb, eqb-true}
use lib.ListN.{length}
use Rattle.std.specs.Prelude.{Result, Ok, Err, IfOk}
use Rattle.std.specs.Result.{MatchResult, result_unwrap_or}
use Rattle.answers.specs.declared.Refusal.{Refusal}
use Rattle.answers.specs.Answers.{Test, first_of, Validates}
use Rattle.answers.specs.Refusals.{number, answer_of}
use Rattle.answers.specs.Table.{bad_width, bad_seed, too_long, seed_test, long_test, long_stretch_test}
use Rattle.answers.proofs.Refused.{some_number}
use Rattle.answers.proofs.Validation.{passed, width_passed}
use Rattle.answers.proofs.Rows.{accepted_row, refused}
use Rattle.mt19937.specs.Published.{generator, seeded}
use Rattle.mt19937_array.specs.SeedArray.{array_words, array_answer, no_generator, arrayed}
use Rattle.mt19937.specs.declared.Generator.{Generator}
use Rattle.stretch.specs.Stretch.{after, key_row, stretch_answer, stretch_array_answer}
use Rattle.stretch.specs.Load.{load_answer, load_array_answer, key_after, message_after}
use Rattle.stretch.proofs.Rows.{row_more, row_whole}

-- a plain seed is tested as one word, and a stretch as a load without a message
module _ (w keyWords : ℕ) where
  pub of_a_seed : (messageWords : ℕ) → load_array_answer w 1 keyWords messageWords ≡ load_answer w keyWords messageWords
  unfolding load_array_answer load_answer first_of bad_seed
  of_a_seed messageWords = refl

  pub of_a_stretch : (seedWords : ℕ) → load_array_answer w seedWords keyWords 0 ≡ stretch_array_answer w seedWords keyWords
  unfolding load_array_answer stretch_array_answer first_of
  of_a_stretch seedWords = refl

  pub of_both : load_array_answer w 1 keyWords 0 ≡ stretch_answer w keyWords
  unfolding load_array_answer stretch_answer first_of bad_seed
  of_both = refl

  pub of_one_word : stretch_array_answer w 1 keyWords ≡ stretch_answer w keyWords
  unfolding stretch_array_answer stretch_answer first_of bad_seed
  of_one_word = refl

-- a call that is not refused has a width, and its key row would be stretched too
module _ (w seedWords keyWords messageWords : ℕ) (e : load_array_answer w seedWords keyWords messageWords ≡ 0) where
  tests : (bad_width w ≡ false) × (bad_seed seedWords ≡ false) × (too_long 65544 keyWords ≡ false)
  unfolding load_array_answer
  tests =
      let rest = long_test messageWords ∷ [] in
      let width = passed 0 (bad_width w) (seed_test seedWords ∷ long_stretch_test keyWords ∷ rest) 0 e in
      let seed = passed 10 (bad_seed seedWords) (long_stretch_test keyWords ∷ rest) 0 width.1 in
      (width.0, seed.0, (passed 3 (too_long 65544 keyWords) rest 0 seed.1).0)

  pub load_width : (1 ≤ w) × (w ≤ 32)
  load_width = width_passed w tests.0

  pub load_stretches : stretch_array_answer w seedWords keyWords ≡ 0
  unfolding stretch_array_answer first_of
  load_stretches = rw (tests.0, tests.1, tests.2)

-- the two rows of a load
module _ (w : ℕ) (g : Generator) (key message : List ℕ) where
  -- what an accepted load leaves
  pub key_after_lem : (answer : ℕ) → answer ≡ 0 → key_after answer w g key ≡ key_row w g (length key)
  unfolding key_after
  key_after_lem answer e = accepted_row answer _ key e ∙ sym (row_whole w g key)

  pub message_after_lem : (answer : ℕ) → answer ≡ 0 → message_after answer w g key message ≡ key_row w (after (length key) g) (length message)
  unfolding message_after
  message_after_lem answer e = accepted_row answer _ message e ∙ sym (row_whole w (after (length key) g) message)

  -- laid end to end
  pub rows_after : (answer : ℕ) → answer ≡ 0 → key_after answer w g key ++ message_after answer w g key message ≡ key_row w g (length key + length message)
  rows_after answer e = rw (key_after_lem answer e, message_after_lem answer e) (sym (row_more w (length key) (length message) g))

  -- r is the number that the call's tests gave
  module _ {answer r : ℕ} (validated : r ≡ answer) where
    pub load_refused : (r ≡ 0 → ⊥) → (r ≡ answer) × (key ≡ key_after answer w g key) × (message ≡ message_after answer w g key message)
    unfolding key_after message_after
    load_refused ne = (validated, (refused _ key validated ne).1, (refused _ message validated ne).1)

    pub load_accepted : {keyRow' messageRow' : List ℕ} → r ≡ 0
        → (keyRow' ≡ key_row w g (length key)) × (messageRow' ≡ key_row w (after (length key) g) (length message))
        → (0 ≡ answer) × (keyRow' ≡ key_after answer w g key) × (messageRow' ≡ message_after answer w g key message)
    load_accepted z wrote =
        let zero' = sym validated ∙ z in
        (sym z ∙ validated, wrote.0 ∙ sym (key_after_lem answer zero'), wrote.1 ∙ sym (message_after_lem answer zero'))

-- what tests in a row give is the answer
pub answered : (ts : List Test) (r : ℕ) → Validates ts r → r ≡ first_of ts 0
answered ts r j = sym (j 0 ∙ go (eqb r 0) refl)
  where
    go : (passes : Bool) → eqb r 0 ≡ passes → cond passes 0 r ≡ r
    go true e = sym (eqb-true r 0 e)
    go false e = refl

-- a new generator has a position that a row can start from
pub seeded_fit : (seed : ℕ) {g : Generator} → g ≡ seeded seed → g.at ≤ 624
unfolding seeded
seeded_fit seed e = rw e (omega arith)

pub arrayed_fit : (seed : List ℕ) {g : Generator} → g ≡ arrayed seed → g.at ≤ 624
unfolding arrayed no_generator
arrayed_fit seed e = rw e (go (eqb (array_answer seed) 0))
  where
    go : (accepted : Bool) → (cond accepted (generator (array_words seed) 624) no_generator).at ≤ 624
    go true = omega arith
    go false = omega arith

pub arrayed_none : (seed : List ℕ) (refusal : Refusal) {g : Generator} → number refusal ≡ array_answer seed → g ≡ no_generator → g ≡ arrayed seed
unfolding arrayed
arrayed_none seed refusal n e = rw (ne_eqb (array_answer seed) 0 (λ z. some_number refusal (n ∙ z))) e

-- what is said of a value or of what stands in its absence, said of the value
pub made_ok : (r : Result Generator Refusal) (d : Generator) {g : Generator} → result_unwrap_or r d ≡ g → IfOk r (λ x. x ≡ g)
made_ok (Ok x) d e = e
made_ok (Err f) d e = tt

pub made_or_none : (seed : List ℕ) (r : Result Generator Refusal) (P : Refusal → Type 0) {g : Generator} → answer_of r ≡ array_answer seed
    → IfOk r (λ x. x ≡ arrayed seed) → ((e : Refusal) → P e → g ≡ no_generator) → MatchResult r (λ x. g ≡ x) P → g ≡ arrayed seed
made_or_none seed (Ok x) P n s h m = m ∙ s
made_or_none seed (Err e) P n s h m = arrayed_none seed e n (h e m)
