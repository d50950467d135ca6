use Rattle.std.proofs.Common.{◌≡◌, ℕ, ◌+◌, ◌*◌, ◌/◌, ◌%◌, ◌^◌, List, ◌∷◌, get_or, sym, ap, ap₂, ◌∙◌, refl, arith, add-one}
use Rattle.theory_digest.specs.Digest.{whole_sum}
use Rattle.sum_peers.proofs.Accumulation.{word_added}
use Rattle.sum_peers.proofs.words_add.Goals as goal

pub loop-j-init : goal.loop-j-init
unfolding whole_sum
loop-j-init g c = (refl, refl)

pub loop-j-preserved : goal.loop-j-preserved
loop-j-preserved g c =
    let l = c.loop-j in
    let a = c.args in
    let ks : List ℕ = a.first ∷ a.nexts.now in
    let m = get_or a.words l.j 0 in
    let next : get_or a.nexts.now l.j 0 ≡ get_or ks (l.j + 1) 0 = sym (ap (λ (k : ℕ). get_or ks k 0) (add-one l.j)) in
    let more = c.word_adds-sum.ensures ∙ ap₂ (λ (x y : ℕ). (m * x + m * y / 2 ^ a.w) % 2 ^ 64) l.invariant.0 next in
    (next, word_added a.w a.words ks l.j (omega arith) l.invariant.1 more)
