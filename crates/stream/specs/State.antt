-- A stream's state (document 01, "Stream"): the settings, the count of words pushed, the last n key words and n full-width sums.
use Rattle.std.specs.Prelude.{Bool, ◌&&◌, List, ◌++◌, ℕ, ◌+◌, ◌-◌, length, take, drop, replicate}
use Rattle.range.specs.States.{fit_row, padded}
use Rattle.sum_terms.specs.Sums.{add_sums}
use Rattle.state_sums.specs.State.{held_sums, fit_sums, begun, no_sums, updated}
use Rattle.stream.specs.declared.Stream.{Stream}

-- 01, "Stream": the last n key words that a state holds
abbrev pub held_keys : Stream → List ℕ
held_keys s = take s.held.n s.keys

-- 01, the table's row 8: no setting outside 1 to 3, no count above 65,536, and in both rows no word of 2^w or more
-- and no unused place that is not zero
unfoldable pub fit_state : Stream → Bool
fit_state s = fit_sums 65536 s.held && fit_row s.held.width s.held.n s.keys

-- 01, "Stream": of the key words so far the state holds the last n
unfoldable pub last_words : ℕ → List ℕ → List ℕ
last_words n ks = drop (length ks - n) ks

-- 01, "Stream": the state after an accepted push, whose words count "under the held and then the pushed key words"
unfoldable pub pushed : Stream → List ℕ → List ℕ → Stream
pushed s ms ks =
    record {
      held = updated s.held (s.held.count + length ms) (add_sums s.held.width ms (held_keys s ++ ks) (held_sums s.held));
      keys = padded 8 (last_words s.held.n (held_keys s ++ ks));
    }

-- 01, "Stream": the state at opening, count and sums 0
unfoldable pub opened : ℕ → ℕ → ℕ → List ℕ → Stream
opened w b n ks = record { held = begun w b n 0; keys = padded 8 ks }

-- 01, below the table: the all-zero state
unfoldable pub no_stream : Stream
no_stream = record { held = no_sums; keys = replicate 8 0 }
