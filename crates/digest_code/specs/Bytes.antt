-- The code's bytes as the loop writes them, the last first.
use Rattle.std.specs.Prelude.{List, [], ◌∷◌, ◌++◌, ℕ, zero, suc, ◌+◌, ◌*◌, ◌/◌, ◌%◌}

-- a number's last two digits as a byte
abbrev pub last_byte : ℕ → ℕ
last_byte x = x / 10 % 10 * 16 + x % 10

-- its last 2·n digits as n bytes
unfoldable pub last_bytes : ℕ → ℕ → List ℕ
last_bytes zero x = []
last_bytes (suc n) x = last_bytes n (x / 100) ++ (last_byte x ∷ [])
