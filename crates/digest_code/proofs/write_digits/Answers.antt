use mathlib.Core.Path.{◌≡◌, sym, ap, ◌∙◌}
use mathlib.Core.List.{◌++◌}
use Prim.Native.Nat.{ℕ, ◌+◌, ◌-◌, ◌<◌}
use native.Mathlib.Omega.{arith}
use lib.ListN.{length, drop}
use Rattle.digest_code.specs.Bytes.{last_bytes}
use Rattle.digest_code.proofs.Digits.{bytes_none, bytes_step}
use Rattle.digest_code.proofs.write_digits.Goals as goal

pub loop-place-preserved : goal.loop-place-preserved
loop-place-preserved c =
    let l = c.loop-place in
    let next : l.place - 1 + 1 ≡ l.place = omega arith in
    let room : l.place - 1 < length l.row = omega arith in
    bytes_step (l.place - 1) l.rest _ l.row room c.last_byte.ensures ∙ ap (λ (n : ℕ). last_bytes n l.rest ++ drop n l.row) next ∙ l.invariant

pub returns : goal.returns
returns c =
    let l = c.loop-place in
    sym (bytes_none l.place l.rest l.row (omega arith)) ∙ l.invariant
