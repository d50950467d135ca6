-- The bytes in a word of a byte width.
use Rattle.std.specs.Prelude.{ℕ}
use Rattle.sum_bytes.specs.declared.WordSize.{WordSize}
use Rattle.sum_bytes.specs.declared.WordSize.TheVariants.{One, Two, Four}

-- the bytes in a word
abbrev pub bytes_of : WordSize → ℕ
bytes_of One = 1
bytes_of Two = 2
bytes_of Four = 4
