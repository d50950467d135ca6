-- A word of a byte width has one byte at least, and four at most.
use Prim.Native.Nat.{◌≤◌}
use native.Mathlib.Omega.{arith}
use Rattle.sum_bytes.specs.declared.WordSize.{WordSize}
use Rattle.sum_bytes.specs.declared.WordSize.TheVariants.{One, Two, Four}
use Rattle.sum_bytes.specs.Sizes.{bytes_of}

pub size_range : (size : WordSize) → (1 ≤ bytes_of size) × (bytes_of size ≤ 4)
size_range One = (omega arith, omega arith)
size_range Two = (omega arith, omega arith)
size_range Four = (omega arith, omega arith)
