-- `sum_walk::Sums::add_word` meets its contract: after i sums each row is written up to i, and the rows' places make the sums.
use Rattle.std.proofs.Common.{◌≡◌, length}
use Rattle.rows.specs.Written.{written}
use Rattle.sum_walk.proofs.Turns.{new_low, new_high}
use Rattle.sum_walk.proofs.Sums.add_word.Given as goal

abbrev pub invariant-loop-i : goal.invariant-loop-i
invariant-loop-i g l = record {
  low_length : length l.self.low ≡ 8;
  high_length : length l.self.high ≡ 8;
  low : l.self.low ≡ written (new_low l.w l.m l.part l.initial.self.low) l.i l.initial.self.low;
  high : l.self.high ≡ written (new_high l.w l.m l.part l.initial.self.high) l.i l.initial.self.high;
}
