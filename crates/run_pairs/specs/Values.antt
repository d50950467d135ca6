-- What every message gives under every key, in a table: row m has the values of the message m, in the order of the keys.
use Rattle.std.specs.Prelude.{◌≡◌, List, [], ◌∷◌, ℕ, ◌<◌, eqb, get_or}
use Rattle.theory_counts.specs.Count.{sum_to, as_number}
use Rattle.theory_pairs.specs.Agree.{compared, key_at}

-- x is what an end compares, one word or one byte, of the message m under key i
abbrev pub ValueOf : ℕ → ℕ → ℕ → ℕ → Type 0
ValueOf d m i x = compared d (m ∷ []) (key_at i) ≡ x ∷ []

-- the first n values of the message m
abbrev pub Valued : ℕ → ℕ → List ℕ → ℕ → Type 0
Valued d m row n = (i : ℕ) → i < n → ValueOf d m i (get_or row i 0)

-- the first n rows of the table
abbrev pub AllValued : ℕ → List (List ℕ) → ℕ → Type 0
AllValued d rows n = (m : ℕ) → m < n → Valued d m (get_or rows m []) 16384

-- 1 where two rows have the same value at a place, else 0
unfoldable pub same_at : List ℕ → List ℕ → ℕ → ℕ
same_at first second i = as_number (eqb (get_or first i 0) (get_or second i 0))

-- at how many keys they have
abbrev pub agreeing_rows : List ℕ → List ℕ → ℕ
agreeing_rows first second = sum_to 16384 (same_at first second)

-- the keys under which two messages agree, by the table
abbrev pub agreeing_in : List (List ℕ) → ℕ → ℕ → ℕ
agreeing_in rows first second = agreeing_rows (get_or rows first []) (get_or rows second [])
