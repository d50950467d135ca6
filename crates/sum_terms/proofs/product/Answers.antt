-- `sum_terms::product` meets its contract: the product of two words of 32 bits fits 64.
use borrow.Author.Rules.{rules}
use Rattle.range.proofs.Range.{product_below}
use Rattle.sum_terms.proofs.product.Goals as goal

pub overflow_mul-result : goal.overflow_mul-result
overflow_mul-result c = record { fits = product_below (search rules) (search rules) }
