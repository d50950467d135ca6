-- `run_lengths::Best::with` meets its contract.
use native.Mathlib.Omega.{arith}
use Rattle.std.proofs.lemmas.Cmp.{ranked}
use Rattle.run_lengths.specs.Agree.{keys_of}
use Rattle.run_lengths.proofs.Largest.{largest_new, largest_kept, largest_again, few_places}
use Rattle.run_lengths.proofs.Best.with.Goals as goal

pub returns-in-Less : goal.returns-in-Less
returns-in-Less c =
    let p = c.requires.1 in
    largest_kept keys_of _ _ _ _ p.1 c.args.keys p.0 (ranked _ _ _ c.in-Less.ensures)

pub overflow_add-result : goal.overflow_add-result
overflow_add-result c =
    let p = c.requires in
    record { fits = omega (arith, few_places keys_of _ _ _ _ p.1.1 _ p.1.0) }

pub returns-in-Equal : goal.returns-in-Equal
returns-in-Equal c =
    let p = c.requires.1 in
    largest_again keys_of _ _ _ _ p.1 c.args.keys p.0 (ranked _ _ _ c.in-Equal.ensures)

pub returns-in-Greater : goal.returns-in-Greater
returns-in-Greater c =
    let p = c.requires.1 in
    largest_new keys_of _ _ _ _ p.1 c.args.keys p.0 (ranked _ _ _ c.in-Greater.ensures)
