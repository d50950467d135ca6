-- What a call answers and leaves in a lent row, refused or accepted.
use mathlib.Core.Path.{◌≡◌, sym, ◌∙◌}
use mathlib.Core.List.{List, ◌++◌}
use Prim.Native.Nat.{ℕ}
use lib.ListN.{length, drop}
use borrow.Author.Tests.{eq-eqb, ne_eqb}
use Rattle.answers.specs.Answers.{afterwards}

pub refused_row : (answer : ℕ) (words old : List ℕ) → (answer ≡ 0 → ⊥) → afterwards answer words old ≡ old
unfolding afterwards
refused_row answer words old ne = rw (ne_eqb answer 0 ne)

pub accepted_row : (answer : ℕ) (words old : List ℕ) → answer ≡ 0 → afterwards answer words old ≡ words ++ drop (length words) old
unfolding afterwards
accepted_row answer words old e = rw (eq-eqb answer 0 e)

-- r is the number that the call's tests gave
module _ {answer r : ℕ} (words old : List ℕ) (validated : r ≡ answer) where
  pub refused : (r ≡ 0 → ⊥) → (r ≡ answer) × (old ≡ afterwards answer words old)
  refused ne = (validated, sym (refused_row answer words old (λ z. ne (validated ∙ z))))

  pub accepted : (row : List ℕ) → r ≡ 0 → row ≡ words ++ drop (length words) old → (0 ≡ answer) × (row ≡ afterwards answer words old)
  accepted row z wrote = (sym z ∙ validated, wrote ∙ sym (accepted_row answer words old (sym validated ∙ z)))
