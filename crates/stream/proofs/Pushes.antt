-- Pushes on any fit state: the state stays fit, an empty push changes nothing, and two pushes are one of both parts.
use mathlib.Core.Path.{◌≡◌, sym, ap, ap₂, ◌∙◌}
use mathlib.Core.Bool.{Bool, true, ◌&&◌}
use mathlib.Core.List.{List, [], ◌++◌, append_assoc, append-nil}
use Prim.Native.Nat.{ℕ, ◌+◌, ◌≤◌}
use native.Mathlib.Nat.{add-zero}
use native.Mathlib.Omega.{arith}
use lib.ListN.{length, drop, length-append, length-drop, take-append-drop}
use lib.Seq.{drop-drop, drop-append-le}
use Rattle.theory_counts.specs.Words.{fits}
use Rattle.theory_counts.proofs.Fits.{fits_append, fits_parts}
use Rattle.range.specs.States.{fit_row, padded}
use Rattle.range.proofs.States.{held_length, row_parts, padded_length, padded_held, padded_row, padded_over}
use Rattle.sum_terms.specs.Sums.{add_sums}
use Rattle.sum_terms.proofs.Each.{length_sums, sums_more, sums_append, sums_fit, sums_none}
use Rattle.state_sums.specs.State.{held_sums, updated}
use Rattle.state_sums.proofs.Shared as shared
use Rattle.stream.specs.declared.Stream.{Stream}
use Rattle.stream.specs.State.{held_keys, last_words, pushed}
use Rattle.stream.proofs.Valid.{Fit, Takes}
use Rattle.stream.proofs.Joined.{last_after, length_last}
use Rattle.stream.proofs.Made.{same_state}

-- a fit state with its rows of eight places
pub record Good (s : Stream) : Type 0 where
  pub held : shared.Good 65536 s.held
  pub keys : fit_row s.held.width s.held.n s.keys ≡ true
  pub keys_eight : length s.keys ≡ 8

pub good_fit : (s : Stream) → Good s → Fit s
good_fit s g = record { held = g.held.fit; keys = g.keys }

module _ (s : Stream) (good : Good s) where
  few : s.held.n ≤ 8
  few = good.held.fit.settings.words

  keys_length : length (held_keys s) ≡ s.held.n
  keys_length = held_length 8 s.held.n s.keys few good.keys_eight

  sums_length : length (held_sums s.held) ≡ s.held.n
  sums_length = shared.held_sums_lem 65536 s.held good.held

  added : List ℕ → List ℕ → List ℕ
  added ms ks = add_sums s.held.width ms (held_keys s ++ ks) (held_sums s.held)

  added_length : (ms ks : List ℕ) → length (added ms ks) ≡ s.held.n
  unfolding added
  added_length ms ks = length_sums s.held.width ms (held_keys s ++ ks) (held_sums s.held) ∙ sums_length

  -- what the state holds after a push
  pub pushed_keys : (ms ks : List ℕ) → held_keys (pushed s ms ks) ≡ drop (length ks) (held_keys s ++ ks)
  unfolding pushed updated
  pushed_keys ms ks =
      padded_held 8 s.held.n (last_words s.held.n (held_keys s ++ ks)) (length_last s.held.n (held_keys s) ks keys_length) few
      ∙ last_after s.held.n (held_keys s) ks keys_length

  pub pushed_sums : (ms ks : List ℕ) → held_sums (pushed s ms ks).held ≡ add_sums s.held.width ms (held_keys s ++ ks) (held_sums s.held)
  unfolding pushed added
  pushed_sums ms ks = shared.updated_held 65536 s.held good.held (s.held.count + length ms) (added ms ks) (added_length ms ks)

  pub pushed_good : (ms ks : List ℕ) → Takes s ms ks → Good (pushed s ms ks)
  unfolding pushed updated added
  pushed_good ms ks t =
      let a = s.held in
      let last = last_words a.n (held_keys s ++ ks) in
      let last-length = length_last a.n (held_keys s) ks keys_length in
      let held_Fits = (row_parts a.width a.n s.keys good.keys).0 in
      let all_fit = fits_append a.width (held_keys s) ks ∙ ap₂ (λ (x y : Bool). x && y) held_Fits t.key in
      let last_Fits = ap (fits a.width) (last_after a.n (held_keys s) ks keys_length) ∙ (fits_parts a.width (length ks) (held_keys s ++ ks) all_fit).1 in
      record {
        held = shared.updated_good 65536 a good.held (a.count + length ms) (added ms ks) (added_length ms ks) t.ready.room (sums_fit a.width ms (held_keys s ++ ks) (held_sums a));
        keys = padded_row 8 a.n last last-length few a.width last_Fits;
        keys_eight = padded_length 8 a.n last last-length few;
      }

  -- "none being allowed": an empty push
  pub pushed_none : pushed s [] [] ≡ s
  unfolding pushed
  pushed_none =
      let a = s.held in
      let keys-row = row_parts a.width a.n s.keys good.keys in
      let sums-row = row_parts a.width a.n a.sums good.held.fit.sums in
      let keep-keys = padded_over 8 a.n (held_keys s) keys_length few s.keys good.keys_eight keys-row.1 in
      same_state
      (ap₂ (updated a) (add-zero a.count) (sums_none a.width (held_keys s ++ []) (held_sums a) sums-row.0) ∙ shared.updated_same 65536 a good.held)
      (ap (padded 8) (last_after a.n (held_keys s) [] keys_length ∙ append-nil (held_keys s)) ∙ sym keep-keys ∙ take-append-drop a.n s.keys)

  -- a part in two
  module _ (a ka b kb : List ℕ) (t : Takes s a ka) where
    then_key : held_keys (pushed s a ka) ++ kb ≡ drop (length ka) (held_keys s ++ (ka ++ kb))
    then_key =
        ap (λ (l : List ℕ). l ++ kb) (pushed_keys a ka)
        ∙ sym (drop-append-le (length ka) (held_keys s ++ ka) kb (omega (arith, length-append (held_keys s) ka)))
        ∙ ap (drop (length ka)) (append_assoc (held_keys s) ka kb)

    two_keys : last_words s.held.n (held_keys (pushed s a ka) ++ kb) ≡ last_words s.held.n (held_keys s ++ (ka ++ kb))
    two_keys =
        let len : length (held_keys (pushed s a ka)) ≡ s.held.n = ap length (pushed_keys a ka) ∙ length-drop (length ka) (held_keys s ++ ka) ∙ omega (arith, length-append (held_keys s) ka, keys_length) in
        last_after s.held.n (held_keys (pushed s a ka)) kb len
        ∙ ap (drop (length kb)) then_key
        ∙ drop-drop (length kb) (length ka) (held_keys s ++ (ka ++ kb))
        ∙ ap (λ (m : ℕ). drop m (held_keys s ++ (ka ++ kb))) (sym (length-append ka kb))
        ∙ sym (last_after s.held.n (held_keys s) (ka ++ kb) keys_length)

    two_sums : add_sums s.held.width b (held_keys (pushed s a ka) ++ kb) (held_sums (pushed s a ka).held) ≡ add_sums s.held.width (a ++ b) (held_keys s ++ (ka ++ kb)) (held_sums s.held)
    two_sums =
        ap₂ (add_sums s.held.width b)
        (then_key ∙ ap (λ (m : ℕ). drop m (held_keys s ++ (ka ++ kb))) t.ready.words)
        (pushed_sums a ka
        ∙ sym (sums_more s.held.width a (held_keys s ++ ka) kb (held_sums s.held) (omega (arith, length-append (held_keys s) ka, keys_length, sums_length, t.ready.words)))
        ∙ ap (λ (l : List ℕ). add_sums s.held.width a l (held_sums s.held)) (append_assoc (held_keys s) ka kb))
        ∙ sums_append s.held.width a b (held_keys s ++ (ka ++ kb)) (held_sums s.held)

    pub pushed_twice : pushed (pushed s a ka) b kb ≡ pushed s (a ++ b) (ka ++ kb)
    unfolding pushed updated
    pushed_twice =
        let count : s.held.count + length a + length b ≡ s.held.count + length (a ++ b) = omega (arith, length-append a b) in
        same_state (shared.same_sums s.held count (ap (padded 8) two_sums)) (ap (padded 8) two_keys)
