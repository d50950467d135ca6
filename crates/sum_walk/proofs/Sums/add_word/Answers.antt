use Rattle.std.proofs.Common.{◌≡◌, ℕ, ◌+◌, ◌%◌, ◌^◌, ◌∙◌, ap₂, arith, length-set}
use lib.Bits.{bit_and}
use Rattle.rows.proofs.Written.{written_none, written_step, written_here}
use Rattle.sum_walk.proofs.Turns.{new_low, new_high, word_added}
use Rattle.sum_walk.proofs.Sums.add_word.Goals as goal

pub loop-i-init : goal.loop-i-init
loop-i-init g c =
    record { low_length = c.requires.3; high_length = c.requires.4; low = written_none _ _; high = written_none _ _ }

pub loop-i-preserved : goal.loop-i-preserved
unfolding new_low new_high
loop-i-preserved g c =
    let l = c.loop-i in
    let a = c.args in
    let h = l.invariant in
    let low = ap₂ (λ (x y : ℕ). (x + y) % 2 ^ 64) (written_here (new_low a.w a.m a.part.now a.self.now.low) a.self.now.low l.self.low l.i h.low) c.product.ensures in
    let masked = ap₂ (λ (x y : ℕ). bit_and x y) c.product-in-loop-i.ensures c.high_bits.ensures in
    let high = ap₂ (λ (x y : ℕ). (x + y) % 2 ^ 64) (written_here (new_high a.w a.m a.part.now a.self.now.high) a.self.now.high l.self.high l.i h.high) masked in record {
      low_length = length-set l.self.low l.i _ ∙ h.low_length;
      high_length = length-set l.self.high l.i _ ∙ h.high_length;
      low = written_step (new_low a.w a.m a.part.now a.self.now.low) a.self.now.low l.self.low l.i _ (omega arith) low h.low;
      high = written_step (new_high a.w a.m a.part.now a.self.now.high) a.self.now.high l.self.high l.i _ (omega arith) high h.high;
    }

pub returns : goal.returns
returns g c =
    let l = c.loop-i in
    let a = c.args in
    let h = l.invariant in
    let all : l.i ≡ g.row.N = omega arith in
    (h.low_length, h.high_length, word_added a.w a.m a.part.now g.row.N a.self.now.low a.self.now.high l.self.low l.self.high (omega arith) (rw (← all) h.low) (rw (← all) h.high))
