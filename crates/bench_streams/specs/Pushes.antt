-- One part pushed so many times, on a stream by value and on one in a row: what the two loops of the benchmark do.
use Rattle.std.specs.Prelude.{List, ℕ, zero, suc}
use Rattle.stream.specs.declared.Stream.{Stream}
use Rattle.stream.specs.Calls.{push_state}
use Rattle.stream_rows.specs.Calls.{push_row}

unfoldable pub pushes : ℕ → Stream → List ℕ → List ℕ → Stream
pushes zero s ms ks = s
pushes (suc i) s ms ks = push_state (pushes i s ms ks) ms ks

unfoldable pub row_pushes : ℕ → List ℕ → List ℕ → List ℕ → List ℕ
row_pushes zero row ms ks = row
row_pushes (suc i) row ms ks = push_row (row_pushes i row ms ks) ms ks
