-- A digest that is kept true while words of its message are replaced (document 02, "Eight", where it is a label that is edited while it is
-- shown). Its state: "the settings, t and the n full-width sums"; t is the count.
use Rattle.std.specs.Prelude.{Bool, List, [], ◌∷◌, ℕ, length, get_or, drop}
use Rattle.theory_digest.specs.Digest.{full_words}
use Rattle.sum_terms.specs.Sums.{add_sums, subtract_sums}
use Rattle.state_sums.specs.State.{held_sums, fit_sums, begun, no_sums, updated}
use Rattle.incremental.specs.declared.Incremental.{Incremental}

-- 01, the table's row 8: no setting outside 1 to 3, no t above 65,536, no sum of 2^w or more and no unused place that is not zero
unfoldable pub fit_state : Incremental → Bool
fit_state s = fit_sums 65536 s.held

-- 02, "Eight": the sums are "worked out at opening"
unfoldable pub opened : ℕ → ℕ → ℕ → List ℕ → List ℕ → Incremental
opened w b n ms ks = record { held = updated (begun w b n 0) (length ms) (full_words w n ms ks) }

-- 01, below the table: the all-zero state
unfoldable pub no_incremental : Incremental
no_incremental = record { held = no_sums }

-- 02, "Eight", "let a replaced word correct them": each sum without what the old word gave and with what the new one gives, modulo 2^w; ks is
-- the key from the word under them on
unfoldable pub edit_sums : ℕ → ℕ → ℕ → List ℕ → List ℕ → List ℕ
edit_sums w old word ks sums = add_sums w (word ∷ []) ks (subtract_sums w (old ∷ []) ks sums)

-- 02, "Eight": the state after an accepted edit, which puts the word at the place
unfoldable pub edited : Incremental → List ℕ → List ℕ → ℕ → ℕ → Incremental
edited s ms ks place word =
    record {
      held = updated s.held s.held.count (edit_sums s.held.width (get_or ms place 0) word (drop place ks) (held_sums s.held));
    }
