-- What a call answers (document 01, below the table of "Numbers the agent sees"), and what a lent row holds after it.
use Rattle.std.specs.Prelude.{◌≡◌, Bool, true, not, ◌&&◌, cond, List, [], ◌∷◌, ◌++◌, ℕ, eqb, length, drop}

-- a row of the table: its number, and whether its condition holds of the call
pub record Test : Type 0 where
  pub number : ℕ
  pub holds : Bool

abbrev pub test : ℕ → Bool → Test
test number holds = record { number = number; holds = holds }

-- "the first that holds is returned"; where none holds, what the accepted call gives
unfoldable pub first_of : List Test → ℕ → ℕ
first_of [] accepted = accepted
first_of (t ∷ ts) accepted = cond t.holds t.number (first_of ts accepted)

-- r is what these tests make of a call that others test later: the number of the first that holds, or 0, and the later answer stands
abbrev pub Validates : List Test → ℕ → Type 0
Validates ts r = (later : ℕ) → first_of ts later ≡ cond (eqb r 0) later r

-- no test of the list holds
unfoldable pub none_of : List Test → Bool
none_of [] = true
none_of (t ∷ ts) = not t.holds && none_of ts

-- a lent row after the call: as it was after a refusal, else the written words and then what stood there from that place on
unfoldable pub afterwards : ℕ → List ℕ → List ℕ → List ℕ
afterwards answer words old = cond (eqb answer 0) (words ++ drop (length words) old) old

-- a state after the call: the new one, or, after a refusal, the old one, which for an opening is the all-zero one
abbrev pub state_after : {S : Type 0} → ℕ → S → S → S
state_after answer new old = cond (eqb answer 0) new old
