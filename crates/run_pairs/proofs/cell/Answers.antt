-- `run_pairs::cell` meets its contract.
use Prim.Native.Nat.{◌/◌, ◌%◌}
use borrow.Author.Rules.{rules}
use borrow.Author.Tests.{lt-ltb, le-ltb}
use Rattle.theory_pairs.specs.Search.{or_zero, cell_at, is_pair, of_pair}
use Rattle.run_pairs.proofs.cell.Goals as goal

pub returns-then-first-second : goal.returns-then-first-second
unfolding is_pair of_pair cell_at or_zero
returns-then-first-second c =
    let place = c.args.place in
    rw (lt-ltb (place / 128) (place % 128) (search rules)) c.agreeing_keys.ensures

pub returns-else-first-second : goal.returns-else-first-second
unfolding is_pair of_pair cell_at or_zero
returns-else-first-second c =
    let place = c.args.place in
    rw (le-ltb (place / 128) (place % 128) (search rules))
