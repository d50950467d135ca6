-- Edits worked by hand: one that raises a sum by its reach and another by one more, and which refusal comes first (document 02, "Eight").
use Rattle.std.specs.Prelude.{◌≡◌, List, [], ◌∷◌, ℕ, suc, ◌+◌, ◌%◌, ◌^◌, get_or, replicate}
use Rattle.state_sums.specs.State.{reading}
use Rattle.incremental.specs.declared.Incremental.{Incremental}
use Rattle.incremental.specs.State.{no_incremental}
use Rattle.incremental.specs.Calls.{open_answer, open_state, edit_answer, edit_state, edit_message}
use Rattle.theory_incremental.specs.Claims.{reach}

-- 01, case C: w 8, b 8, n 2, message 3 7, key 10 20 100 250; the digest is 0xac 0xff
abbrev pub message : List ℕ
message = 3 ∷ 7 ∷ []

abbrev pub key : List ℕ
key = 10 ∷ 20 ∷ 100 ∷ 250 ∷ []

abbrev pub shown : Incremental
shown = record { held = record { width = 8; kept = 8; n = 2; count = 2; sums = 0xac ∷ 0xff ∷ replicate 6 0 } }

-- the 7 becomes 10, raised by 3 over the key words 20 100 for the first sum and 100 250 for the second
abbrev pub raised : Incremental
raised = edit_state shown message key 1 10

pub record Keystroke : Type 0 where
  pub opening : open_answer 8 8 2 message key ≡ 0
  pub state : open_state 8 8 2 message key ≡ shown
  pub answer : edit_answer shown message key 1 10 ≡ 0
  pub row : edit_message shown message key 1 10 ≡ 3 ∷ 10 ∷ []
  pub sums : reading raised.held ≡ 0xe9 ∷ 0x2e ∷ []
  -- 3·20 + (300 div 256), and 3·100 + (750 div 256)
  pub reaches : reach 8 3 20 100 ∷ reach 8 3 100 250 ∷ [] ≡ 61 ∷ 302 ∷ []
  -- both cases of the reach happen
  pub exactly : get_or raised.held.sums 0 0 ≡ (0xac + reach 8 3 20 100) % 2 ^ 8
  pub one_more : get_or raised.held.sums 1 0 ≡ (0xff + suc (reach 8 3 100 250)) % 2 ^ 8

-- the order of refusals: each of the first five calls has every fault of those before it. Then a word at the place and a last key word under it
-- that are out of range; and last another message word and another key word that are, at which Word does not look
unfoldable pub EditAnswers : Type 0
EditAnswers =
    edit_answer shown message key 1 256
    ∷ edit_answer shown message key 2 256
    ∷ edit_answer shown message (10 ∷ 20 ∷ 100 ∷ []) 2 256
    ∷ edit_answer shown (3 ∷ []) (10 ∷ 20 ∷ 100 ∷ []) 2 256
    ∷ edit_answer no_incremental (3 ∷ []) (10 ∷ 20 ∷ 100 ∷ []) 2 256
    ∷ edit_answer shown (3 ∷ 256 ∷ []) key 1 10
    ∷ edit_answer shown message (10 ∷ 20 ∷ 100 ∷ 256 ∷ []) 1 10
    ∷ edit_answer shown (256 ∷ 7 ∷ []) key 1 10
    ∷ edit_answer shown message (256 ∷ 20 ∷ 100 ∷ 250 ∷ []) 1 10
    ∷ []
    ≡ 7 ∷ 12 ∷ 5 ∷ 4 ∷ 8 ∷ 7 ∷ 7 ∷ 0 ∷ 0 ∷ []
