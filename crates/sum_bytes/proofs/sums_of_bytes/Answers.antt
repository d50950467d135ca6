-- `sum_bytes::sums_of_bytes` meets its contract: as many words as the closed message has, in blocks of one size or another.
use mathlib.Core.Path.{◌≡◌, sym, ◌∙◌}
use mathlib.Core.Bool.{Bool}
use mathlib.Core.List.{List}
use Prim.Native.Nat.{ℕ, ◌+◌, ◌/◌}
use native.Mathlib.Omega.{arith}
use Rattle.sum_bytes.specs.Bytes.{sums_from, fit_from, checked_bytes, checked_bytes_fit}
use Rattle.sum_bytes.specs.Sizes.{bytes_of}
use Rattle.sum_bytes.proofs.FromBytes.{sums_elsewhere, bytes_none, bytes_whole}
use Rattle.sum_bytes.proofs.sums_of_bytes.Goals as goal
use Rattle.sum_bytes.proofs.sums_of_bytes.Goals.{After-full_words-full}

width : (c : After-full_words-full) → bytes_of c.in-Some.size ≡ c.args.w / 8
width c = omega (arith, c.in-Some.ensures.1)

-- the sums with the full words and one more are those that are promised
whole : (c : After-full_words-full) {fit : Bool} {after : List ℕ}
    → (fit ≡ fit_from c.args.w c.args.n (bytes_of c.in-Some.size) (c.full_words-full.result + 1) c.args.message.now c.args.key.now)
    × (after ≡ sums_from c.args.w c.args.n (bytes_of c.in-Some.size) (c.full_words-full.result + 1) c.args.message.now c.args.key.now c.args.sums.now)
    → (fit ≡ checked_bytes_fit c.args.w c.args.n c.args.message.now c.args.key.now)
    × (after ≡ checked_bytes c.args.w c.args.n c.args.message.now c.args.key.now c.args.sums.now)
whole c =
    let a = c.args in
    bytes_whole a.w a.message.now c.in-Some.ensures.0 (bytes_of c.in-Some.size) c.full_words-full.result (width c) c.full_words-full.ensures a.n a.key.now a.sums.now

pub returns-in_default : goal.returns-in_default
returns-in_default c =
    let a = c.args in
    sums_elsewhere a.w c.in_default.ensures a.n a.message.now a.key.now a.sums.now

pub returns-then-not-can_sum : goal.returns-then-not-can_sum
returns-then-not-can_sum c =
    let a = c.args in
    bytes_none a.w a.message.now c.in-Some.ensures.0 (bytes_of c.in-Some.size) c.full_words-full.result (width (goal.at.returns-then-not-can_sum c).After-full_words-full) c.full_words-full.ensures a.n a.key.now a.sums.now (sym c.can_sum.ensures ∙ c.if-not-can_sum.true)

pub returns-in-0-to-63 : goal.returns-in-0-to-63
returns-in-0-to-63 c = whole (goal.at.returns-in-0-to-63 c).After-full_words-full c.sum_blocks.ensures

pub returns-in-0-to-255 : goal.returns-in-0-to-255
returns-in-0-to-255 c = whole (goal.at.returns-in-0-to-255 c).After-full_words-full c.sum_blocks-in-0-to-255.ensures

pub returns-in_default-full : goal.returns-in_default-full
returns-in_default-full c = whole (goal.at.returns-in_default-full c).After-full_words-full c.sum_blocks-in_default-full.ensures
