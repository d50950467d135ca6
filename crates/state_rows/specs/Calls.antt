-- A call whose state is lent as a row, by what the call that has the state by value does.
use Rattle.std.specs.Prelude.{Bool, cond, List, [], ◌∷◌, ℕ}
use Rattle.answers.specs.Answers.{first_of}
use Rattle.answers.specs.Table.{state_test}

-- 01: State "is tested first where a state is handed in": here where the row is none of its kind's; else what the call by value answers
unfoldable pub row_answer : Bool → ℕ → ℕ
row_answer ofKind answer = first_of (state_test ofKind ∷ []) answer

-- another lent row after the call: as the call by value leaves it, or as it was
unfoldable pub row_left : Bool → List ℕ → List ℕ → List ℕ
row_left ofKind left old = cond ofKind left old
