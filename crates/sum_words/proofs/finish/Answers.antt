-- `sum_words::finish` meets its contract: the totals, and then an odd last word, or none.
use Rattle.std.proofs.Common.{◌≡◌, ℕ, ◌+◌, ◌%◌, ◌^◌, min, [], ◌∷◌, length, drop, sym, ap, ◌∙◌, add-zero, arith}
use Rattle.rows.proofs.Written.{written_long}
use Rattle.theory_digest.specs.Digest.{whole_sum}
use Rattle.sum_walk.specs.Walk.{sum_at}
use Rattle.sum_terms.proofs.Summable.{sums_are}
use Rattle.sum_terms.proofs.Each.{sums_written}
use Rattle.sum_words.proofs.Whole.{totals_same, added_twice}
use Rattle.sum_words.proofs.finish.Goals as goal

pub add_totals-requires : goal.add_totals-requires
add_totals-requires c = let s = sums_are _ _ _ _ c.requires in (s.width, s.words)

pub returns-in-Some : goal.returns-in-Some
returns-in-Some c =
    let totals = c.add_totals in
    let a = c.args in
    let ms = c.in-Some.last ∷ [] in
    let ks = a.key.now in
    let old = a.sums.now in
    let mid = totals.new.sums in
    let long : length mid ≡ length old = written_long _ old mid (min a.n (length old)) (omega arith) totals.ensures in
    let s = sums_are a.w a.n 1 (length ks) (rw c.in-Some.is at c.requires) in
    let second = c.add_word.ensures ∙ sym (sums_written a.w a.n ms ks mid s) in
    rw c.in-Some.is
    (added_twice a.w (min a.n (length old)) (min a.n (length mid)) (λ i. sum_at a.w a.walked.low a.walked.high i) (λ i. whole_sum a.w ms (drop i ks)) old mid c.add_word.new.sums (omega arith) (ap (min a.n) long) totals.ensures second)

pub returns-in_default : goal.returns-in_default
unfolding whole_sum
returns-in_default c =
    let a = c.args in
    rw c.in_default.is
    (totals_same a.w (min a.n (length a.sums.now)) (λ i. sum_at a.w a.walked.low a.walked.high i) (λ i. sum_at a.w a.walked.low a.walked.high i + 0) a.sums.now _
    (λ i lt. ap (λ (x : ℕ). x % 2 ^ a.w) (sym (add-zero _)))
    c.add_totals.ensures)
