-- What follows from demand 3, and what its words mean.
use Rattle.std.specs.Prelude.{◌≡◌, ◌≢◌, List, ℕ, ◌+◌, ◌*◌, ◌/◌, ◌%◌, ◌^◌, ◌≤◌, replicate}
use Rattle.theory_digest.specs.Digest.{digest}
use Rattle.theory_counts.specs.Count.{count, same_row, differ_by}
use Rattle.theory_counts.specs.Words.{Row}
use Rattle.theory_digest.specs.Claims.{NonZero, keys_that_give, CollisionBoundAt, ExactCountAt, most_keys}
use Rattle.theory_digest.specs.Settings.{InRange}

-- the collision bound and the exact count at document 01's ranges
unfoldable pub CollisionBoundInRange : Type 0
CollisionBoundInRange = (w b n t : ℕ) → InRange w b n → t ≤ 65536 → CollisionBoundAt w b n t

unfoldable pub ExactCountInRange : Type 0
ExactCountInRange = (w b n t : ℕ) → InRange w b n → t ≤ 65536 → ExactCountAt w b n t

-- a collision is the case of all-zero differences
unfoldable pub ZeroDifferences : Type 0
ZeroDifferences =
    (w b n : ℕ) (first second ks : List ℕ)
    → differ_by b n (digest w b n first ks) (digest w b n second ks) (replicate n 0) ≡ same_row (digest w b n first ks) (digest w b n second ks)

-- how many keys of t + n words give two messages one digest
unfoldable pub keys_that_collide : ℕ → ℕ → ℕ → ℕ → List ℕ → List ℕ → ℕ
keys_that_collide w b n t first second = count w (t + n) (λ ks. same_row (digest w b n first ks) (digest w b n second ks))

unfoldable pub Collisions : Type 0
Collisions =
    (w b n t : ℕ) (first second : List ℕ)
    → b ≤ w
    → Row w t first
    → Row w t second
    → first ≢ second
    → keys_that_collide w b n t first second ≤ most_keys w b n t

-- 003, definition 3, with ε_d = 2^(−e) and ε_c = 2^(c−e), over the 2^(w·(t+n)) keys of t + n words: a probability is a count over that number
pub record Balanced (w b n t e c : ℕ) : Type 0 where
  pub distribution : (ms ys : List ℕ) → Row w t ms → NonZero ms → Row b n ys → keys_that_give w b n t ms ys * 2 ^ e ≤ 2 ^ (w * (t + n))
  pub collision : (first second : List ℕ) → Row w t first → Row w t second → first ≢ second → keys_that_collide w b n t first second * 2 ^ e ≤ 2 ^ c * 2 ^ (w * (t + n))

-- 003, theorem 1: one word, all bits kept; ε_d = 2^(−w), ε_c = 2^(1−w)
unfoldable pub Theorem1 : Type 0
Theorem1 = (w t : ℕ) → Balanced w w 1 t w 1

-- 003, theorem 2: one word, b bits kept; ε_d = 2^(−b), ε_c = 2^(1−b)
unfoldable pub Theorem2 : Type 0
Theorem2 = (w b t : ℕ) → b ≤ w → Balanced w b 1 t b 1

-- 003, theorem 3: n words, all bits kept; ε_d = 2^(−nw), ε_c = 2^(n−nw)
unfoldable pub Theorem3 : Type 0
Theorem3 = (w n t : ℕ) → Balanced w w n t (n * w) n

-- The first slip of 003. Lemma 1 writes c = s·2^l and replaces s·k by its remainder modulo 2^w inside (2^l·s·k div 2^w).
-- The two quotients differ where s·k passes 2^w: here w = 3, s = 3, l = 1, k = 3. They differ by a multiple of 2^l, so the count survives.
unfoldable pub Lemma1Step : ℕ → ℕ → ℕ → ℕ → Type 0
Lemma1Step w s l k = 2 ^ l * (s * k) / 2 ^ w ≡ 2 ^ l * (s * k % 2 ^ w) / 2 ^ w

unfoldable pub Lemma1Slip : Type 0
Lemma1Slip = Lemma1Step 3 3 1 3 → ⊥

-- The second slip of 003. Theorem 3's proof ends with ε_c = 2^(−nw). At w = 2 and n = t = 1 the messages 1 and 3 break it, so the theorem's 2^(n−nw) decides.
unfoldable pub Theorem3Slip : Type 0
Theorem3Slip = Balanced 2 2 1 1 2 0 → ⊥
