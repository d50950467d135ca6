-- Demand 2: however a message is cut into parts, the stream gives the digest of the whole.
use Rattle.std.specs.Prelude.{true, ◌&&◌, ◌≡◌, List, [], ◌∷◌, ◌++◌, ℕ, ◌+◌, ◌≤◌, length, replicate}
use Rattle.theory_counts.specs.Words.{fits}
use Rattle.theory_digest.specs.Digest.{full_words, digest}
use Rattle.digest_words.specs.Call.{digest_answer, digest_row}
use Rattle.stream.specs.declared.Stream.{Stream}
use Rattle.range.specs.States.{padded}
use Rattle.state_sums.specs.State.{reading}
use Rattle.stream.specs.State.{fit_state, last_words, pushed}
use Rattle.stream.specs.Calls.{open_answer, open_state, push_answer, push_state, read_answer, read_row}

-- 01, "Stream": what one push gives
pub record Part : Type 0 where
  pub message : List ℕ
  pub key : List ℕ

-- all message words of the parts, and all key words
unfoldable pub message_of : List Part → List ℕ
message_of [] = []
message_of (p ∷ ps) = p.message ++ message_of ps

unfoldable pub key_of : List Part → List ℕ
key_of [] = []
key_of (p ∷ ps) = p.key ++ key_of ps

-- the state after all parts are pushed, one after the other, and what each push answers
unfoldable pub after_parts : Stream → List Part → Stream
after_parts s [] = s
after_parts s (p ∷ ps) = after_parts (push_state s p.message p.key) ps

unfoldable pub part_answers : Stream → List Part → List ℕ
part_answers s [] = []
part_answers s (p ∷ ps) = push_answer s p.message p.key ∷ part_answers (push_state s p.message p.key) ps

-- 01, "Stream": "some message words and equally many further key words", all below 2^w
pub record FitPart (w : ℕ) (p : Part) : Type 0 where
  pub words : length p.key ≡ length p.message
  pub fit : (fits w p.message && fits w p.key) ≡ true

unfoldable pub FitParts : ℕ → List Part → Type 0
FitParts w [] = Unit
FitParts w (p ∷ ps) = FitPart w p × FitParts w ps

-- a stream that has taken the message under the key: its count, the key's last n words, the full-width sums
unfoldable pub whole_state : ℕ → ℕ → ℕ → List ℕ → List ℕ → Stream
whole_state w b n ms ks =
    record {
      held = record { width = w; kept = b; n = n; count = length ms; sums = padded 8 (full_words w n ms ks) };
      keys = padded 8 (last_words n ks);
    }

-- an opened stream s after some parts, with ms and ks the words so far
pub record Whole (w b n : ℕ) (s : Stream) (ps : List Part) (ms ks : List ℕ) : Type 0 where
  pub answers : part_answers s ps ≡ replicate (length ps) 0
  pub state : after_parts s ps ≡ whole_state w b n ms ks
  pub words : reading (after_parts s ps).held ≡ digest w b n ms ks
  pub answer : (out : List ℕ) → read_answer (after_parts s ps) out ≡ digest_answer w b n ms ks out
  pub row : (out : List ℕ) → read_row (after_parts s ps) out ≡ digest_row w b n ms ks out

-- every cutting, at every moment: an opening that is accepted, then any parts; the words so far are the parts' own
unfoldable pub EveryCutting : Type 0
EveryCutting =
    (w b n : ℕ) (ks : List ℕ) (ps : List Part)
    → open_answer w b n ks ≡ 0
    → FitParts w ps
    → length (message_of ps) ≤ 65536
    → Whole w b n (open_state w b n ks) ps (message_of ps) (ks ++ key_of ps)

-- 01, "Stream", "none being allowed": a push of no words on a fit state is accepted and changes nothing
unfoldable pub EmptyPush : Type 0
EmptyPush =
    (s : Stream)
    → fit_state s ≡ true
    → length s.keys ≡ 8
    → length s.held.sums ≡ 8
    → (push_answer s [] [] ≡ 0) × (push_state s [] [] ≡ s)

-- a cutting on every fit state, however it came about: the parts give what one push of all their words gives
unfoldable pub EveryState : Type 0
EveryState =
    (s : Stream) (ps : List Part)
    → fit_state s ≡ true
    → length s.keys ≡ 8
    → length s.held.sums ≡ 8
    → FitParts s.held.width ps
    → s.held.count + length (message_of ps) ≤ 65536
    → (part_answers s ps ≡ replicate (length ps) 0) × (after_parts s ps ≡ pushed s (message_of ps) (key_of ps))
