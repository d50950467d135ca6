-- `run_pairs::fill_values` meets its contract: the rows passed hold their messages' values.
use mathlib.Core.Path.{◌≡◌}
use lib.ListN.{length}
use Rattle.run_pairs.specs.Values.{AllValued}
use Rattle.run_pairs.specs.Number.{number_of}
use Rattle.run_pairs.proofs.fill_values.Given as goal

abbrev pub invariant-loop-m : goal.invariant-loop-m
invariant-loop-m l = (length l.values ≡ 128) × AllValued (number_of l.what) l.values l.m
