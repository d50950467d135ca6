-- `sum_edits::share` meets its contract: what wraps at 2^64 is a multiple of 2^32.
use Rattle.std.proofs.Common.{ℕ, ◌%◌, ◌^◌, ◌∙◌, ap₂, arith}
use Rattle.sum_walk.specs.Walk.{together}
use Rattle.sum_walk.proofs.Apart.{reduced}
use Rattle.sum_edits.proofs.share.Goals as goal

pub returns : goal.returns
returns c =
    reduced 32 64 _ (omega arith)
    ∙ ap₂ (λ (x y : ℕ). together c.args.w x y % 2 ^ 32) c.product-2.ensures c.product.ensures
