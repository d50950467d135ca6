-- The state after a call, refused or accepted.
use mathlib.Core.Path.{◌≡◌, sym, ◌∙◌}
use Prim.Native.Nat.{ℕ}
use borrow.Author.Tests.{eq-eqb, ne_eqb}
use Rattle.answers.specs.Answers.{state_after}

-- the state after a refusal, and after an accepted call
module _ {S : Type 0} where
  pub old_state : (answer : ℕ) (new old : S) → (answer ≡ 0 → ⊥) → state_after answer new old ≡ old
  old_state answer new old ne = rw (ne_eqb answer 0 ne)

  pub new_state : (answer : ℕ) (new old : S) → answer ≡ 0 → state_after answer new old ≡ new
  new_state answer new old e = rw (eq-eqb answer 0 e)

  -- r is the number that the call's tests gave
  module _ {answer r : ℕ} (new old : S) (validated : r ≡ answer) where
    pub state_refused : (r ≡ 0 → ⊥) → (r ≡ answer) × (old ≡ state_after answer new old)
    state_refused ne = (validated, sym (old_state answer new old (λ z. ne (validated ∙ z))))

    -- the old state made anew, as that of a refused opening is
    pub state_unmade : (state : S) → (r ≡ 0 → ⊥) → state ≡ old → (r ≡ answer) × (state ≡ state_after answer new old)
    state_unmade state ne made = (validated, made ∙ (state_refused ne).1)

    pub state_accepted : (state : S) → r ≡ 0 → state ≡ new → (r ≡ answer) × (state ≡ state_after answer new old)
    state_accepted state z made = (validated, made ∙ sym (new_state answer new old (sym validated ∙ z)))
