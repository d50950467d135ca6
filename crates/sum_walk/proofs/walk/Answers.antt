use Rattle.std.proofs.Common.{◌≡◌, ℕ, ◌+◌, ◌-◌, ◌*◌, length, get_or, take, drop, not, eqb, refl, ◌∙◌, subst, arith}
use Rattle.rows.proofs.Parts.{part_to_end}
use Rattle.sum_walk.specs.Walk.{PartialSums, bits_fit, even_length}
use Rattle.sum_walk.proofs.Turns.{walked_start, walked_step, bits_step, bits_none}
use Rattle.sum_walk.proofs.walk.Goals as goal

pub loop-p-init : goal.loop-p-init
loop-p-init g c =
    let a = c.args in
    let low = c.default-sums.ensures.0 in
    let high = c.default-sums.ensures.1 in
    let z = c.default-bits.ensures in (
      walked_start a.w g.row.N a.message.now a.key.now _ _ low.long high.long (λ i lt. low.at i 0 lt) (λ i lt. high.at i 0 lt) (omega arith),
      rw (z.0, z.1.0, z.1.1) (bits_none (not (eqb g.row.TESTED 0)) a.w),
    )

pub loop-p-preserved : goal.loop-p-preserved
loop-p-preserved g c =
    let l = c.loop-p in
    let a = c.args in
    let j = 2 * l.p in
    let asked = not (eqb g.row.TESTED 0) in
    let next : j + 1 + 1 ≡ 2 * (l.p + 1) = omega arith in
    let two : j + 2 ≡ 2 * (l.p + 1) = omega arith in
    let lent = part_to_end _ j a.key.now refl in
    let lent' = part_to_end _ (j + 1) a.key.now refl in
    let ms = a.message.now in
    let ks = a.key.now in
    let mid = c.add_word.new.self in
    let end = c.add_word-in-loop-p.new.self in
    let first = walked_step a.w g.row.N ms ks j (get_or ms j 0) (take (length ks - j) (drop j ks)) l.sums.low l.sums.high mid.low mid.high (omega arith) refl lent l.invariant.0 c.add_word.ensures in
    let second =
    walked_step a.w g.row.N ms ks (j + 1) (get_or ms (j + 1) 0) (take (length ks - (j + 1)) (drop (j + 1) ks)) mid.low mid.high end.low end.high (omega arith) refl lent' first c.add_word-in-loop-p.ensures in
    let b = l.bits in
    let r = c.add_pair.new.self in
    let gathered =
    bits_step asked a.w j r.even r.odd r.keys (λ v. bits_fit v b.even b.odd b.keys) ms ks (omega arith) (omega arith) l.invariant.1 c.add_pair.ensures in
    (subst (λ (k : ℕ). PartialSums a.w g.row.N ms ks end.low end.high k) next second, rw (← two) gathered)

pub returns : goal.returns
returns g c =
    let l = c.loop-p in
    let a = c.args in
    let end : 2 * l.p ≡ even_length a.message.now = omega arith in
    (rw (← end) l.invariant.0, rw (← end) (c.all.ensures a.w ∙ l.invariant.1))
