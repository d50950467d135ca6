use Rattle.std.proofs.Common.{◌≡◌, ◌<◌, ℕ, ◌+◌, ◌%◌, ◌^◌, min, length, sym, refl, ◌∙◌, ap₂, arith, length-take}
use Rattle.rows.proofs.Written.{written_none}
use Rattle.theory_digest.specs.Digest.{kept}
use Rattle.sum_terms.proofs.Summable.{sums_are}
use Rattle.sum_terms.proofs.Changes.{front_here, front_step, front_end}
use Rattle.sum_edits.proofs.change_sums.Goals as goal

pub returns-then-not-can_sum : goal.returns-then-not-can_sum
returns-then-not-can_sum g c = λ to adds. rw (sym c.can_sum.ensures ∙ c.if-not-can_sum.true) refl

pub loop-i-init : goal.loop-i-init
loop-i-init g c =
    let s = sums_are c.args.w c.args.n 1 (length c.args.part.now) (sym c.can_sum.ensures ∙ c.if-not-can_sum.false) in
    record { width = s.width; keys = omega (arith, s.keys); places = omega arith; so_far = λ to adds. written_none _ _ }

pub loop-i-preserved : goal.loop-i-preserved
unfolding kept
loop-i-preserved g c =
    let l = c.loop-i in
    let h = l.invariant in
    let a = c.args in
    let k : ℕ = c.min-places.result in
    let lt : l.i < k = omega (arith, length-take k a.sums.now) in
    record {
      width = h.width;
      keys = h.keys;
      places = h.places;
      so_far = λ to adds.
          front_step _ a.sums.now k h.places l.sum-items l.i _ lt
          (c.keep.ensures ∙ adds _ _ _ h.width c.step.ensures ∙ ap₂ (λ (x y : ℕ). (x + to y) % 2 ^ a.w) (front_here _ a.sums.now k h.places l.sum-items l.i lt (h.so_far to adds)) c.share.ensures)
          (h.so_far to adds);
    }

pub returns : goal.returns
returns g c = λ to adds.
    let l = c.loop-i in
    let a = c.args in
    let k : ℕ = c.min-places.result in
    let all : l.i ≡ k = omega (arith, length-take k a.sums.now, l.invariant.places) in
    let end : k ≡ min a.n (length a.sums.now) = omega arith in
    rw (sym c.can_sum.ensures ∙ c.if-not-can_sum.false, ← end) (front_end _ a.sums.now k l.invariant.places l.sum-items l.i all (l.invariant.so_far to adds))
