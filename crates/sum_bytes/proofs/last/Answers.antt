-- `sum_bytes::last` meets its contract: four bytes of the closed message, those past its end being 0.
use native.Mathlib.Omega.{arith}
use Rattle.sum_bytes.specs.Bytes.{closed}
use Rattle.sum_bytes.proofs.Words.{little_four}
use Rattle.sum_bytes.proofs.last.Goals as goal

pub returns : goal.returns
returns c = omega (arith, c.from_le_bytes.ensures, little_four (closed c.args.bytes.now))
