use Rattle.std.proofs.Common.{◌≡◌, ◌<◌, ℕ, ◌+◌, ◌%◌, ◌^◌, min, length, ap, ◌∙◌, arith, length-take}
use Rattle.rows.proofs.Written.{written_none}
use Rattle.sum_walk.specs.Walk.{sum_at}
use Rattle.sum_terms.proofs.Changes.{front_here, front_step, front_end}
use Rattle.sum_words.proofs.add_totals.Goals as goal

pub loop-i-init : goal.loop-i-init
loop-i-init c = record { places = omega arith; so_far = written_none _ _ }

pub loop-i-preserved : goal.loop-i-preserved
loop-i-preserved c =
    let l = c.loop-i in
    let h = l.invariant in
    let a = c.args in
    let k : ℕ = c.min-places.result in
    let lt : l.i < k = omega (arith, length-take k a.sums.now) in
    record {
      places = h.places;
      so_far = front_step _ a.sums.now k h.places l.sum-items l.i _ lt
          (c.total.ensures ∙ ap (λ (x : ℕ). (x + sum_at a.w a.walked.low a.walked.high l.i) % 2 ^ a.w) (front_here _ a.sums.now k h.places l.sum-items l.i lt h.so_far))
          h.so_far;
    }

pub returns : goal.returns
returns c =
    let l = c.loop-i in
    let a = c.args in
    let k : ℕ = c.min-places.result in
    let all : l.i ≡ k = omega (arith, length-take k a.sums.now, l.invariant.places) in
    let end : k ≡ min a.n (length a.sums.now) = omega arith in
    rw (← end) (front_end _ a.sums.now k l.invariant.places l.sum-items l.i all l.invariant.so_far)
