-- Edits one after the other (document 02, "Eight"): "any run of edits under one key, each handed the state the last left, if nothing else writes
-- the row".
use Rattle.std.specs.Prelude.{List, [], ◌∷◌, ℕ}
use Rattle.incremental.specs.declared.Incremental.{Incremental}
use Rattle.incremental.specs.Calls.{edit_state, edit_message}

-- what one edit gives beside state and rows: "a place from 0, and the new word"
pub record Edit : Type 0 where
  pub place : ℕ
  pub word : ℕ

-- the state and the message after all edits, refused ones among them
unfoldable pub state_after_edits : Incremental → List ℕ → List ℕ → List Edit → Incremental
state_after_edits s ms ks [] = s
state_after_edits s ms ks (e ∷ es) = state_after_edits (edit_state s ms ks e.place e.word) (edit_message s ms ks e.place e.word) ks es

unfoldable pub message_after_edits : Incremental → List ℕ → List ℕ → List Edit → List ℕ
message_after_edits s ms ks [] = ms
message_after_edits s ms ks (e ∷ es) = message_after_edits (edit_state s ms ks e.place e.word) (edit_message s ms ks e.place e.word) ks es
