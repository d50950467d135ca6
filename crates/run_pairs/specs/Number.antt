-- What an end compares, as the number that the definitions of crate theory_pairs take, and the digits of the code.
use Rattle.std.specs.Prelude.{ℕ, Option, None, Some}
use Rattle.run_pairs.specs.declared.Compared.{Compared}
use Rattle.run_pairs.specs.declared.Compared.TheVariants.{Digest, OneDigit, TwoDigits}

abbrev pub number_of : Compared → ℕ
number_of Digest = 0
number_of OneDigit = 1
number_of TwoDigits = 2

-- none where the digest is compared
abbrev pub digits_of : Compared → Option ℕ
digits_of Digest = None
digits_of OneDigit = Some 1
digits_of TwoDigits = Some 2
