-- `Generator::next` meets its contract: a position above 624 is refused, else the state is made ready and its word taken.
use Rattle.std.proofs.Common.{sym, ap, ◌∙◌, arith}
use Rattle.mt19937.specs.Published.{Next, taken}
use Rattle.mt19937.proofs.Laws.{ready_left, next_refused, next_taken}
use Rattle.mt19937.proofs.Generator.next.Goals as goal

pub returns-then-self-gt-SIZE : goal.returns-then-self-gt-SIZE
returns-then-self-gt-SIZE c =
    let refused = next_refused _ c.if-self-gt-SIZE.true in
    record { answer = ap (λ (n : Next). n.answer) refused; word = ap (λ (n : Next). n.word) refused; state = ap (λ (n : Next). n.state) refused }

pub take-requires : goal.take-requires
take-requires c = ready_left _ (omega arith) c.make_ready-self.ensures

pub returns : goal.returns
unfolding taken
returns c =
    let next = ap taken c.make_ready-self.ensures ∙ sym (next_taken _ (omega arith)) in
    record {
      answer = ap (λ (n : Next). n.answer) next;
      word = c.take.ensures.word ∙ ap (λ (n : Next). n.word) next;
      state = c.take.ensures.state ∙ ap (λ (n : Next). n.state) next;
    }
