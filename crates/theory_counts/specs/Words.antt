-- Rows of words of a width (document 01, "The sum").
use Rattle.std.specs.Prelude.{◌≡◌, Bool, true, ◌&&◌, List, [], ◌∷◌, ℕ, ◌^◌, T, ltb, length}

-- 01, "The sum": every word is below 2^w
unfoldable pub fits : ℕ → List ℕ → Bool
fits w [] = true
fits w (x ∷ xs) = ltb x (2 ^ w) && fits w xs

-- 01, "The sum": a row of t words below 2^w
pub record Row (w t : ℕ) (ws : List ℕ) : Type 0 where
  pub long : length ws ≡ t
  pub below : T (fits w ws)
