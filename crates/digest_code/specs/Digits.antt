-- The row of the table of answers that codes alone have.
use Rattle.std.specs.Prelude.{Bool, ◌||◌, ℕ, ◌^◌, ltb, eqb}
use Rattle.answers.specs.Answers.{Test, test}

-- 9 Digits (02, "Two"): d is 0, or 10^d is above 2^w
unfoldable pub bad_digits : ℕ → ℕ → Bool
bad_digits w d = eqb d 0 || ltb (2 ^ w) (10 ^ d)

abbrev pub digits_test : ℕ → ℕ → Test
digits_test w d = test 9 (bad_digits w d)
