-- A reading of a state: State, and then what its sums' own reading answers and leaves.
use mathlib.Core.Path.{◌≡◌, sym, ap, ◌∙◌}
use mathlib.Core.Bool.{Bool, not}
use mathlib.Core.List.{List, [], ◌∷◌}
use Prim.Native.Nat.{ℕ}
use lib.ListN.{length}
use Rattle.std.specs.Prelude.{Result, IsErrAnd}
use Rattle.answers.specs.declared.Refusal.{Refusal}
use Rattle.answers.specs.Answers.{Test, test, first_of, Validates, afterwards}
use Rattle.answers.specs.Refusals.{number, answer_of}
use Rattle.answers.specs.Table.{state_test, tray_test}
use Rattle.answers.proofs.Refused.{some_number, first_stops, rest_decides, same_refusal, states_all}
use Rattle.answers.proofs.Rows.{refused}
use Rattle.state_sums.specs.declared.Accumulator.{Accumulator}
use Rattle.state_sums.specs.State.{reading}

-- t is whether the state is fit, as the code has it
module _ (a : Accumulator) (out : List ℕ) {fit t : Bool} (e : t ≡ fit) where
  abbrev tests : List Test
  tests = state_test fit ∷ tray_test a.n (length out) ∷ []

  pub unfit : (r : Result Unit Refusal) (refusal : Refusal) → IsErrAnd r (λ x. x ≡ refusal) → Validates (test 8 (not t) ∷ []) (number refusal)
      → (answer_of r ≡ first_of tests 0) × (out ≡ afterwards (first_of tests 0) (reading a) out)
  unfit r refusal is j =
      let same = same_refusal r refusal is in
      refused (reading a) out (same ∙ states_all tests _ (rw (← e) (first_stops _ _ refusal j))) (λ z. some_number refusal (sym same ∙ z))

  pub is_read : (r : ℕ) (row : List ℕ) → Validates (test 8 (not t) ∷ []) 0 → Validates (tray_test a.n (length out) ∷ []) r → row ≡ afterwards r (reading a) out
      → (r ≡ first_of tests 0) × (row ≡ afterwards (first_of tests 0) (reading a) out)
  is_read r row passes j wrote =
      let answered = states_all tests r (rw (← e) (rest_decides _ _ r passes j)) in
      (answered, wrote ∙ ap (λ (x : ℕ). afterwards x (reading a) out) answered)
