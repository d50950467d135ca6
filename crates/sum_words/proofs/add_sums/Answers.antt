-- `sum_words::add_sums` meets its contract: the walk over the words in pairs, the odd last word, and the key's last words.
use Rattle.std.proofs.Common.{◌≡◌, ℕ, ◌+◌, ◌-◌, Bool, true, ◌&&◌, [], ◌∷◌, length, take, drop, sym, refl, ap, ◌∙◌, arith}
use Rattle.std.specs.Option.{option_to_list}
use Rattle.rows.proofs.Parts.{part_to_end}
use Rattle.theory_counts.specs.Words.{fits}
use Rattle.sum_walk.specs.Walk.{even_length}
use Rattle.sum_terms.specs.Sums.{summable, tests}
use Rattle.sum_terms.proofs.Summable.{Sums, sums_are, checked_unfit}
use Rattle.sum_terms.proofs.Each.{checked_still}
use Rattle.sum_words.proofs.Whole.{last_left, last_tests, left_sums, whole_sums, walk_unfit, walk_fit}
use Rattle.sum_words.proofs.add_sums.Goals as goal
use Rattle.sum_words.proofs.add_sums.Goals.{Else-not-can_sum, After-copied-last, After-finish}

can : (c : Else-not-can_sum) → summable c.args.w c.args.n (length c.args.message.now) (length c.args.key.now) ≡ true
can c = sym c.can_sum.ensures ∙ c.if-not-can_sum.false

here : (c : Else-not-can_sum) → Sums c.args.w c.args.n (length c.args.message.now) (length c.args.key.now)
here c = sums_are _ _ _ _ (can c)

-- the odd last word, or none, is what the walk left
left : (c : After-copied-last) → option_to_list c.copied-last.result ≡ drop (even_length c.args.message.now) c.args.message.now
left c = ap option_to_list c.copied-last.ensures ∙ last_left _ c.args.message.now c.get.result (omega arith) c.get.ensures.lookup

pub returns-then-not-can_sum : goal.returns-then-not-can_sum
returns-then-not-can_sum c =
    let a = c.args in
    let none = sym c.can_sum.ensures ∙ c.if-not-can_sum.true in
    (checked_unfit a.tested a.w a.n a.message.now a.key.now none, checked_still a.w a.n a.message.now a.key.now a.sums.now none)

pub slice_bounds-finish-count : goal.slice_bounds-finish-count
slice_bounds-finish-count c = omega (arith, (here (goal.at.slice_bounds-finish-count c).Else-not-can_sum).keys)

pub slice_bounds-finish-start : goal.slice_bounds-finish-start
slice_bounds-finish-start c = omega (arith, (here (goal.at.slice_bounds-finish-start c).Else-not-can_sum).keys)

pub finish-requires : goal.finish-requires
finish-requires c =
    let s = here (goal.at.finish-requires c).Else-not-can_sum in
    let a = c.args in
    let ks = a.key.now in
    let done = even_length a.message.now in
    rw (left (goal.at.finish-requires c).After-copied-last, part_to_end _ done ks refl) (left_sums a.w a.n a.message.now ks s done (omega arith))

pub slice_bounds-rest-end : goal.slice_bounds-rest-end
slice_bounds-rest-end c = (here (goal.at.slice_bounds-rest-end c).Else-not-can_sum).keys

pub returns-then-below : goal.returns-then-below
returns-then-below c =
    let s = here (goal.at.returns-then-below c).Else-not-can_sum in
    let el = left (goal.at.returns-then-below c).After-copied-last in
    let walked = c.walk_pairs-walked.result in
    let did = c.walk_pairs-walked.ensures.0 (can (goal.at.returns-then-below c).Else-not-can_sum) in
    let a = c.args in
    let ms = a.message.now in
    let ks = a.key.now in
    let done = even_length ms in
    let rest = take (length ms + a.n - done) (drop done ks) in (
      walk_fit a.w a.n ms ks s a.tested done (omega arith) c.rest_fits.result _ el
          (sym did.1 ∙ sym c.below.ensures ∙ c.if-below.true)
          (c.rest_fits.ensures ∙ ap (λ (t : Bool). t && fits a.w rest) (ap (λ (m : ℕ). tests a.tested a.w (m ∷ [])) c.unwrap_or.ensures ∙ last_tests a.w a.tested c.copied-last.result)),
      whole_sums a.w a.n ms ks s walked.low walked.high a.sums.now _ _ _ done el (part_to_end _ done ks refl) did.0 c.finish.ensures,
    )

pub returns-else-below : goal.returns-else-below
returns-else-below c =
    let s = here (goal.at.returns-else-below c).Else-not-can_sum in
    let walked = c.walk_pairs-walked.result in
    let did = c.walk_pairs-walked.ensures.0 (can (goal.at.returns-else-below c).Else-not-can_sum) in
    let a = c.args in
    let ms = a.message.now in
    let ks = a.key.now in
    let done = even_length ms in (
      c.if-below.false ∙ walk_unfit a.w a.n ms ks s a.tested done (omega arith) (sym did.1 ∙ sym c.below.ensures ∙ c.if-below.false),
      whole_sums a.w a.n ms ks s walked.low walked.high a.sums.now _ _ _ done (left (goal.at.returns-else-below c).After-copied-last) (part_to_end _ done ks refl) did.0 c.finish.ensures,
    )
