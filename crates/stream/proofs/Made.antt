-- The states as the code makes them.
use mathlib.Core.Path.{◌≡◌, sym, ap₂, ◌∙◌}
use mathlib.Core.List.{List, ◌++◌}
use Prim.Native.Nat.{ℕ, ◌+◌}
use lib.ListN.{length}
use Rattle.std.specs.Prelude.{Result, Ok, Err}
use Rattle.std.specs.Result.{result_unwrap_or, ResultUnwrapsOrElse}
use Rattle.answers.specs.declared.Refusal.{Refusal}
use Rattle.range.specs.States.{padded}
use Rattle.range.proofs.States.{held_length}
use Rattle.sum_terms.specs.Sums.{add_sums, checked_sums}
use Rattle.sum_terms.proofs.Each.{length_sums, checked_sums_lem}
use Rattle.state_sums.specs.declared.Accumulator.{Accumulator}
use Rattle.state_sums.specs.State.{held_sums, begun}
use Rattle.state_sums.proofs.Shared.{Good, updated_from}
use Rattle.stream.specs.declared.Stream.{Stream}
use Rattle.stream.specs.State.{held_keys, last_words, pushed, opened, no_stream}
use Rattle.stream.proofs.Valid.{Takes}
use Rattle.stream.proofs.Joined.{held_sums_lem}

pub same_state : {h h' : Accumulator} {ks ks' : List ℕ} → h ≡ h' → ks ≡ ks' → ◌≡◌ {A = Stream} (record { held = h; keys = ks }) (record { held = h'; keys = ks' })
same_state e f = ap₂ {C = Stream} (λ (h : Accumulator) (ks : List ℕ). record { held = h; keys = ks }) e f

pub opened_from : (w b n : ℕ) (ks keys : List ℕ) (held : Accumulator) → held ≡ begun w b n 0 → keys ≡ padded 8 ks → ◌≡◌ {A = Stream} (record { held = held; keys = keys }) (opened w b n ks)
unfolding opened
opened_from w b n ks keys held e f = same_state e f

pub pushed_from : (s : Stream) (ms ks keys sums : List ℕ)
    → Takes s ms ks
    → length s.keys ≡ 8
    → length s.held.sums ≡ 8
    → keys ≡ padded 8 (last_words s.held.n (held_keys s ++ ks))
    → sums ≡ checked_sums s.held.width s.held.n ms (held_keys s ++ ks) s.held.sums
    → ◌≡◌ {A = Stream} (record { held = record { width = s.held.width; kept = s.held.kept; n = s.held.n; count = s.held.count + length ms; sums = sums }; keys = keys }) (pushed s ms ks)
unfolding pushed
pushed_from s ms ks keys sums t keys_eight sums-eight ek es =
    let a = s.held in
    let r = t.ready.state.held.settings in
    let good : Good 65536 a = record { fit = t.ready.state.held; eight = sums-eight } in
    let added = add_sums a.width ms (held_keys s ++ ks) (held_sums a) in
    let count : length added ≡ a.n = length_sums a.width ms (held_keys s ++ ks) (held_sums a) ∙ held_length 8 a.n a.sums r.words sums-eight in
    let held : length (held_keys s) ≡ a.n = held_length 8 a.n s.keys r.words keys_eight in
    same_state
    (updated_from 65536 a good (a.count + length ms) added count sums
    (es ∙ checked_sums_lem a.width a.n ms (held_keys s ++ ks) a.sums (held_sums_lem _ _ (held_keys s) ms ks r.some_width r.width r.some_words r.words held (sym t.ready.words))))
    ek

-- an opening's state, or the all-zero one
pub made_or_none : (r : Result Stream Refusal) (s : Stream) → ResultUnwrapsOrElse r (λ s. s ≡ no_stream) s → s ≡ result_unwrap_or r no_stream
made_or_none (Ok x) s e = e
made_or_none (Err x) s e = e
