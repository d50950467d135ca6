-- What holds of an incremental digest under edits (document 02, "Eight").
use Rattle.std.specs.Prelude.{◌≡◌, true, false, ◌≢◌, ◌⊎◌, List, [], ◌∷◌, ℕ, suc, ◌+◌, ◌*◌, ◌/◌, ◌%◌, ◌^◌, ◌<◌, length, get_or, take, drop}
use Rattle.theory_counts.specs.Words.{fits}
use Rattle.theory_digest.specs.Digest.{full_words, digest}
use Rattle.range.specs.States.{padded}
use Rattle.digest_words.specs.Call.{digest_answer, digest_row}
use Rattle.state_sums.specs.State.{held_sums, reading}
use Rattle.incremental.specs.declared.Incremental.{Incremental}
use Rattle.incremental.specs.State.{fit_state, no_incremental}
use Rattle.incremental.specs.Calls.{open_answer, open_state, edit_answer, edit_state, edit_message, read_answer, read_row}
use Rattle.theory_incremental.specs.Edits.{Edit, state_after_edits, message_after_edits}

-- "a kept digest that was true of the row": the eight places hold the message's full-width digest words, and zeros
unfoldable pub TrueOf : Incremental → List ℕ → List ℕ → Type 0
TrueOf s ms ks = s.held.sums ≡ padded 8 (full_words s.held.width s.held.n ms ks)

-- "stays true after any run of edits under one key": of every state, message and key, fit or not
unfoldable pub StaysTrue : Type 0
StaysTrue =
    (s : Incremental) (ms ks : List ℕ) (es : List Edit)
    → TrueOf s ms ks
    → TrueOf (state_after_edits s ms ks es) (message_after_edits s ms ks es) ks

-- settings and t of a state are another's
pub record SameSettings (s s' : Incremental) : Type 0 where
  pub width : s.held.width ≡ s'.held.width
  pub kept : s.held.kept ≡ s'.held.kept
  pub n : s.held.n ≡ s'.held.n
  pub count : s.held.count ≡ s'.held.count

-- of "the settings, t and the n full-width sums" edits correct the sums alone
unfoldable pub OnlySums : Type 0
OnlySums = (s : Incremental) (ms ks : List ℕ) (es : List Edit) → SameSettings (state_after_edits s ms ks es) s

-- s is what opening with the message gives, and a reading of it is the word digest's call, whatever output row is lent; "Kept bits apply on
-- reading"
pub record Shows (w b n : ℕ) (s : Incremental) (ms ks : List ℕ) : Type 0 where
  pub accepts : open_answer w b n ms ks ≡ 0
  pub state : s ≡ open_state w b n ms ks
  pub words : reading s.held ≡ digest w b n ms ks
  pub answer : (out : List ℕ) → read_answer s out ≡ digest_answer w b n ms ks out
  pub row : (out : List ℕ) → read_row s out ≡ digest_row w b n ms ks out

-- an opening that is accepted, then any edits: the state shows the edited message
unfoldable pub EditedReads : Type 0
EditedReads =
    (w b n : ℕ) (ms ks : List ℕ) (es : List Edit)
    → open_answer w b n ms ks ≡ 0
    → Shows w b n (state_after_edits (open_state w b n ms ks) ms ks es) (message_after_edits (open_state w b n ms ks) ms ks es) ks

-- a fit state that is true of a message, however it came about, shows it if its words and the key's are as many as they must be and fit
unfoldable pub TrueReads : Type 0
TrueReads =
    (s : Incremental) (ms ks : List ℕ)
    → fit_state s ≡ true
    → TrueOf s ms ks
    → length ms ≡ s.held.count
    → length ks ≡ s.held.count + s.held.n
    → fits s.held.width ms ≡ true
    → fits s.held.width ks ≡ true
    → Shows s.held.width s.held.kept s.held.n s ms ks

-- two rows of sums, place by place, modulo 2^w
unfoldable pub plus : ℕ → List ℕ → List ℕ → List ℕ
plus w [] ys = []
plus w (x ∷ xs) [] = []
plus w (x ∷ xs) (y ∷ ys) = (x + y) % 2 ^ w ∷ plus w xs ys

-- "It adds exactly the change in the digest", also to sums that are not the message's: the sums after the edit and the old digest together are
-- the sums before it and the new digest
unfoldable pub AddsChange : Type 0
AddsChange =
    (s : Incremental) (ms ks : List ℕ) (place word : ℕ)
    → length s.held.sums ≡ 8
    → edit_answer s ms ks place word ≡ 0
    → plus s.held.width (held_sums (edit_state s ms ks place word).held) (full_words s.held.width s.held.n ms ks)
    ≡ plus s.held.width (held_sums s.held) (full_words s.held.width s.held.n (edit_message s ms ks place word) ks)

-- "how far a keystroke reaches": "c·k + (c·k' div 2^w)"
unfoldable pub reach : ℕ → ℕ → ℕ → ℕ → ℕ
reach w c k k' = c * k + c * k' / 2 ^ w

-- "raising a word by c, staying below 2^w, raises each sum by c·k + (c·k' div 2^w) or by one more, modulo 2^w, k and k' being that sum's two
-- key words under it": sum i has the key words i and i + 1 places after the one at the place. That the word stays below 2^w is no premise of its
-- own: Word is among the tests of an accepted edit, and looks at the new word
unfoldable pub Reach : Type 0
Reach =
    (s : Incremental) (ms ks : List ℕ) (place c i : ℕ)
    → length s.held.sums ≡ 8
    → edit_answer s ms ks place (get_or ms place 0 + c) ≡ 0
    → i < s.held.n
    → (get_or (edit_state s ms ks place (get_or ms place 0 + c)).held.sums i 0
    ≡ (get_or s.held.sums i 0 + reach s.held.width c (get_or ks (place + i) 0) (get_or ks (suc (place + i)) 0)) % 2 ^ s.held.width)
    ⊎ (get_or (edit_state s ms ks place (get_or ms place 0 + c)).held.sums i 0
    ≡ (get_or s.held.sums i 0 + suc (reach s.held.width c (get_or ks (place + i) 0) (get_or ks (suc (place + i)) 0))) % 2 ^ s.held.width)

-- a word replaced by itself: state and message are as they were, accepted or not
unfoldable pub SameWord : Type 0
SameWord =
    (s : Incremental) (ms ks : List ℕ) (place : ℕ)
    → length s.held.sums ≡ 8
    → (edit_state s ms ks place (get_or ms place 0) ≡ s) × (edit_message s ms ks place (get_or ms place 0) ≡ ms)

-- "Only that message word is written, and only by an accepted edit": the message before and after a call with this answer
pub record WritesOnly (answer place word : ℕ) (ms after : List ℕ) : Type 0 where
  pub long : length after ≡ length ms
  pub others : (i : ℕ) → i ≢ place → get_or after i 0 ≡ get_or ms i 0
  pub there : answer ≡ 0 → get_or after place 0 ≡ word
  pub refused : answer ≢ 0 → after ≡ ms

unfoldable pub OnlyThere : Type 0
OnlyThere =
    (s : Incremental) (ms ks : List ℕ) (place word : ℕ)
    → WritesOnly (edit_answer s ms ks place word) place word ms (edit_message s ms ks place word)

-- two messages and two keys, each of one length, with one word at the place and the same n + 1 key words under it
pub record Alike (n place : ℕ) (ms ms' ks ks' : List ℕ) : Type 0 where
  pub long : length ms ≡ length ms'
  pub there : get_or ms place 0 ≡ get_or ms' place 0
  pub words : length ks ≡ length ks'
  pub under : take (suc n) (drop place ks) ≡ take (suc n) (drop place ks')

-- "Word looks only at the word at the place, the new one and the n + 1 key words under them", and so do the sums
unfoldable pub LooksOnly : Type 0
LooksOnly =
    (s : Incremental) (ms ms' ks ks' : List ℕ) (place word : ℕ)
    → Alike s.held.n place ms ms' ks ks'
    → (edit_answer s ms ks place word ≡ edit_answer s ms' ks' place word)
    × (length s.held.sums ≡ 8 → edit_state s ms ks place word ≡ edit_state s ms' ks' place word)

-- 01, below the table: the all-zero state of a refused opening is not fit, so every call refuses it
unfoldable pub ZeroUnfit : Type 0
ZeroUnfit = fit_state no_incremental ≡ false
