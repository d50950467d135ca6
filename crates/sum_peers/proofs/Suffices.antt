-- Where the code sums for its peers.
-- Assumes nothing.
use Rattle.std.proofs.Common.{◌≡◌, ℕ, ◌+◌, ◌*◌, ◌/◌, ◌<◌, ◌≤◌, true, false, not, mul-le-mul_right, suc-mul, mul_comm, mul-le-mul_left, div-mul-le_self, arith}
use borrow.Author.Tests.{not-true}
use Rattle.theory_counts.proofs.Fits.{both}
use Rattle.answers.specs.Table.{bad_peers}
use Rattle.answers.proofs.Validation.{peers_passed}
use Rattle.sum_terms.specs.Sums.{summable}
use Rattle.sum_terms.proofs.Summable.{sums_are}
use Rattle.sum_peers.specs.Peers.{peers_summable}

-- row i of p rows lies within them
pub row_within : (size i p : ℕ) → i < p → i * size + size ≤ p * size
row_within size i p lt = omega (arith, suc-mul i size, mul-le-mul_right size lt)

module _ (w n p t k : ℕ) where
  pub too_few_or_many : bad_peers p ≡ true → peers_summable w n p t k ≡ false
  unfolding peers_summable
  too_few_or_many e = rw e

  pub not_summable : bad_peers p ≡ false → summable w n t (k / p) ≡ false → peers_summable w n p t k ≡ false
  unfolding peers_summable
  not_summable e f = rw (e, f)

  pub peers_can : bad_peers p ≡ false → summable w n t (k / p) ≡ true → peers_summable w n p t k ≡ true
  unfolding peers_summable
  peers_can e f = rw (e, f)

  -- the widths, and that the keys are long enough for p of t + n words
  pub peers_ready : peers_summable w n p t k ≡ true → (w ≤ 32) × (n ≤ 8) × (p ≤ 16) × (p * (t + n) ≤ k)
  unfolding peers_summable
  peers_ready e =
      let h = both (not (bad_peers p)) (summable w n t (k / p)) e in
      let peers = peers_passed p (not-true _ h.0) in
      let s = sums_are w n t (k / p) h.1 in
      (s.width, s.words, peers.1, omega (arith, mul-le-mul_left p s.keys, mul_comm (k / p) p, div-mul-le_self k p))
