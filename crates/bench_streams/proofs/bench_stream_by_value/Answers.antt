-- `bench_streams::bench_stream_by_value` meets its contract: an opening, the pushes, a reading.
use mathlib.Core.Path.{◌∙◌}
use Rattle.stream.proofs.Made.{made_or_none}
use Rattle.bench_streams.proofs.bench_stream_by_value.Goals as goal

pub returns : goal.returns
returns c =
    let read = c.read.ensures in
    let opened = made_or_none _ _ c.unwrap_or_default-opened.ensures ∙ c.open.ensures.1 in
    let same = rw opened at c.push_all-pushed.ensures in
    (c.answer.ensures ∙ (rw same at read.0), rw same at read.1)
