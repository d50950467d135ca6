-- One more push, as the loops make it.
use mathlib.Core.Path.{◌≡◌, sym, ap, ◌∙◌}
use mathlib.Core.List.{List}
use Prim.Native.Nat.{ℕ, ◌+◌}
use native.Mathlib.Numerals.{add-one}
use Rattle.stream.specs.declared.Stream.{Stream}
use Rattle.stream.specs.Calls.{push_state}
use Rattle.stream_rows.specs.Calls.{push_row}
use Rattle.bench_streams.specs.Pushes.{pushes, row_pushes}

module _ (i : ℕ) (ms ks : List ℕ) where
  pub one_more : (first before after : Stream) → before ≡ pushes i first ms ks → after ≡ push_state before ms ks → after ≡ pushes (i + 1) first ms ks
  unfolding pushes
  one_more first before after h e = e ∙ ap (λ (s : Stream). push_state s ms ks) h ∙ sym (ap (λ (n : ℕ). pushes n first ms ks) (add-one i))

  pub one_more_by_row : (first before after : List ℕ) → before ≡ row_pushes i first ms ks → after ≡ push_row before ms ks → after ≡ row_pushes (i + 1) first ms ks
  unfolding row_pushes
  one_more_by_row first before after h e = e ∙ ap (λ (row : List ℕ). push_row row ms ks) h ∙ sym (ap (λ (n : ℕ). row_pushes n first ms ks) (add-one i))
