-- The range test as the code makes it: one number that has every bit that stands in some word.
use Rattle.std.specs.Prelude.{List, ℕ, fold}
use Rattle.std.specs.Int.Bits.{bit_or}

-- the bits, joined by those of each word
abbrev pub joined : ℕ → List ℕ → ℕ
joined = fold bit_or
