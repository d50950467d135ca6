-- The settings of a digest (document 01, "Settings").
use Rattle.std.specs.Prelude.{ℕ, ◌≤◌}

-- 01, "Settings": the document's ranges, which are what a call's settings have passed
pub record InRange (w b n : ℕ) : Type 0 where
  pub some_width : 1 ≤ w
  pub width : w ≤ 32
  pub some_kept : 1 ≤ b
  pub kept : b ≤ w
  pub some_words : 1 ≤ n
  pub words : n ≤ 8
