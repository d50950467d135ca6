-- A row of words that is written from its front.
use Rattle.std.specs.Prelude.{List, [], ◌∷◌, ◌++◌, ℕ, zero, suc, length, take, drop}

-- the row f 0, f 1, .. of n words
unfoldable pub tabulate : (ℕ → ℕ) → ℕ → List ℕ
tabulate f zero = []
tabulate f (suc n) = tabulate f n ++ (f n ∷ [])

-- a row whose first i places are written, and which holds what it held beyond
abbrev pub written : (ℕ → ℕ) → ℕ → List ℕ → List ℕ
written f i old = tabulate f i ++ drop i old

-- words over a row's first places, as many as it has
unfoldable pub over : List ℕ → List ℕ → List ℕ
over words old = take (length old) words ++ drop (length words) old
