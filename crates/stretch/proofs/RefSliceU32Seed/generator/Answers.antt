use Rattle.std.proofs.Common.{rules}
use Rattle.mt19937_array.specs.SeedArray.{made}
use Rattle.stretch.proofs.Loads.{arrayed_fit, made_ok, made_or_none}
use Rattle.stretch.proofs.RefSliceU32Seed.generator.Goals as goal

pub returns : goal.returns
unfolding made
returns c = let e = made_or_none _ _ _ c.from_array.ensures.answer (made_ok _ _ c.from_array.ensures.state) (λ e h. search rules) c.unwrap_or_else.ensures in (e, arrayed_fit _ e)
