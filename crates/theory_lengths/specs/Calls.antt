-- Two messages of bytes of different length (document 02, "Four"), as the agent compares them at the documents' ranges: a call of the byte digest for each, under
-- as many first words of the key as it needs, and the match of the n words that each wrote.
use Rattle.std.specs.Prelude.{◌≡◌, false, List, ℕ, ◌+◌, ◌≤◌, eqb, length, take}
use Rattle.theory_counts.specs.Count.{count}
use Rattle.theory_counts.specs.Words.{Row}
use Rattle.theory_digest.specs.Settings.{InRange}
use Rattle.answers.specs.Table.{bad_byte_width}
use Rattle.sum_bytes.specs.Bytes.{words_of, Bytes}
use Rattle.digest_bytes.specs.Call.{bytes_answer, bytes_row}
use Rattle.digest_match.specs.Match.{match_answer}
use Rattle.theory_lengths.specs.ByteMessages.{ByteMessages}
use Rattle.theory_digest.specs.Claims.{most_keys}

-- 01, "Match", and 02, "Four": how many keys of T + n words make the match of what two calls wrote, each into an output of its own, answer 100
unfoldable pub byte_calls_that_match : ℕ → ℕ → ℕ → ℕ → List ℕ → List ℕ → List ℕ → List ℕ → ℕ
byte_calls_that_match w b n T first second out out' =
    count w (T + n)
    (λ ks.
    eqb
    (match_answer n
    (take n (bytes_row w b n first (take (length (words_of w first) + n) ks) out))
    (take n (bytes_row w b n second (take (length (words_of w second) + n) ks) out')))
    100)

-- a false match, counted as the agent makes it
unfoldable pub FalseByteCalls : Type 0
FalseByteCalls =
    (w b n T : ℕ) (first second out out' : List ℕ)
    → InRange w b n
    → T ≤ 65536
    → n ≤ length out
    → n ≤ length out'
    → ByteMessages w T first second
    → byte_calls_that_match w b n T first second out out' ≤ most_keys w b n T

-- 01, "Numbers the agent sees": under each of these keys the call is accepted
unfoldable pub BytesAccepted : Type 0
BytesAccepted =
    (w b n T : ℕ) (bytes ks out : List ℕ)
    → InRange w b n
    → T ≤ 65536
    → n ≤ length out
    → bad_byte_width w ≡ false
    → Bytes bytes
    → length (words_of w bytes) ≤ T
    → Row w (T + n) ks
    → bytes_answer w b n bytes (take (length (words_of w bytes) + n) ks) out ≡ 0
