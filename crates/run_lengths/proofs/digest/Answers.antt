-- `run_lengths::digest` meets its contract: the call is accepted, and its word is the digest's.
use native.Mathlib.Omega.{arith}
use Rattle.run_lengths.proofs.Laws.{call_word, call_small}
use Rattle.run_lengths.proofs.digest.Goals as goal

pub overflow_cast-result : goal.overflow_cast-result
overflow_cast-result c = record { fits = omega (arith, call_small _ _ _ c.requires c.digest_bytes.ensures.1) }

pub returns : goal.returns
returns c = call_word _ _ _ c.requires c.digest_bytes.ensures.1
