-- `digest_code::write_digits` meets its contract: what is still to be written and the row from there on make the whole.
use mathlib.Core.Path.{◌≡◌}
use mathlib.Core.List.{◌++◌}
use lib.ListN.{drop}
use Rattle.digest_code.specs.Bytes.{last_bytes}
use Rattle.digest_code.proofs.write_digits.Given as goal

abbrev pub invariant-loop-place : goal.invariant-loop-place
invariant-loop-place l = last_bytes l.place l.rest ++ drop l.place l.row ≡ last_bytes l.places l.number ++ drop l.places l.initial.row
