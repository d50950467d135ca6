-- A step of an edit: a sum with its share of a message word.
use Rattle.std.specs.Prelude.{◌≡◌, ℕ, ◌+◌, ◌%◌, ◌^◌, ◌≤◌}

-- every result of the step is the sum with `to` of the share, modulo 2^w
abbrev pub Adds : ℕ → (ℕ → ℕ) → (ℕ → ℕ → ℕ → Type 0) → Type 0
Adds w to post = (sum share r : ℕ) → w ≤ 32 → post sum share r → r % 2 ^ w ≡ (sum + to share) % 2 ^ w
