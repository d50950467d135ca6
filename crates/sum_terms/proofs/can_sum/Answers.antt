-- `sum_terms::can_sum` meets its contract: Width, Count, and then the key's words.
use mathlib.Core.Path.{sym, ◌∙◌}
use Prim.Native.Nat.{◌+◌}
use native.Mathlib.Omega.{arith}
use borrow.Author.Tests.{lt-leb}
use Rattle.answers.proofs.Refused.{refuses_where}
use Rattle.sum_terms.specs.Sums.{summable}
use Rattle.sum_terms.proofs.Summable.{without_last}
use Rattle.sum_terms.proofs.can_sum.Goals as goal

pub returns-then-is_err : goal.returns-then-is_err
unfolding summable
returns-then-is_err c = rw (sym (refuses_where _ _ _ c.width.ensures) ∙ (sym c.is_err.ensures.value ∙ c.if-is_err.true))

pub returns-then-is_err-2 : goal.returns-then-is_err-2
unfolding summable
returns-then-is_err-2 c =
    rw (
      sym (refuses_where _ _ _ c.width.ensures) ∙ (sym c.is_err.ensures.value ∙ c.if-is_err.false),
      sym (refuses_where _ _ _ c.count.ensures) ∙ (sym c.is_err-2.ensures.value ∙ c.if-is_err-2.true),
    )

pub returns-then-key-words : goal.returns-then-key-words
unfolding summable
returns-then-key-words c =
    let a = c.args in
    rw (
      sym (refuses_where _ _ _ c.width.ensures) ∙ (sym c.is_err.ensures.value ∙ c.if-is_err.false),
      sym (refuses_where _ _ _ c.count.ensures) ∙ (sym c.is_err-2.ensures.value ∙ c.if-is_err-2.false),
      lt-leb (a.message + a.n) a.key (omega arith),
    )

pub returns : goal.returns
unfolding summable
returns c =
    let a = c.args in
    without_last a.message a.n a.key (omega arith)
    ∙ sym (rw (
      sym (refuses_where _ _ _ c.width.ensures) ∙ (sym c.is_err.ensures.value ∙ c.if-is_err.false),
      sym (refuses_where _ _ _ c.count.ensures) ∙ (sym c.is_err-2.ensures.value ∙ c.if-is_err-2.false),
    ))
