-- `mt19937::twist_word` meets its contract, by the parity of y: its lowest bit is its remainder modulo 2.
use Rattle.std.proofs.Common.{◌≡◌, ℕ, ◌%◌, sym, ◌∙◌, eq-eqb, ne_eqb}
use lib.Bits.{bit_and, and_mask, xor_zero_r}
use Rattle.mt19937.specs.Published.{twisted}
use Rattle.mt19937.proofs.twist_word.Goals as goal

lowest : (y : ℕ) → bit_and y 1 ≡ y % 2
lowest y = and_mask y 1

pub returns-then-y-eq1 : goal.returns-then-y-eq1
unfolding twisted
returns-then-y-eq1 c = rw (eq-eqb (c.args.y % 2) 1 (sym (lowest _) ∙ c.if-y-eq1.true))

pub returns-else-y-eq1 : goal.returns-else-y-eq1
unfolding twisted
returns-else-y-eq1 c = rw (ne_eqb (c.args.y % 2) 1 (λ odd. c.if-y-eq1.false (lowest _ ∙ odd))) (sym (xor_zero_r _))
