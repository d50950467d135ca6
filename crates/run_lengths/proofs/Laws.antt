-- The two digests, what the last key word adds to one of them, and the count over the keys in order.
use mathlib.Core.Path.{◌≡◌, refl, sym, ap, ap₂, ◌∙◌}
use mathlib.Core.Bool.{and-true}
use mathlib.Core.List.{List, [], ◌∷◌, append-nil}
use Prim.Native.Nat.{ℕ, zero, suc, ◌+◌, ◌*◌, ◌/◌, ◌%◌, ◌<◌}
use native.Mathlib.Nat.{add-zero, le_refl}
use native.Mathlib.Omega.{arith}
use borrow.Author.Tests.{lt-ltb}
use lib.Dec.{eqb}
use lib.ListN.{length, get_or}
use Rattle.theory_counts.specs.Words.{fits}
use Rattle.theory_digest.specs.Digest.{whole_sum, one_word, full_words, kept, digest}
use Rattle.theory_counts.specs.Count.{sum_to, count, over_rows, as_number, same_row}
use Rattle.theory_digest.specs.Settings.{InRange}
use Rattle.theory_counts.proofs.Sums.{sum_cong, sum_cong_below, sum_prod}
use Rattle.rows.specs.Written.{tabulate}
use Rattle.rows.proofs.Written.{tabulate_at}
use Rattle.answers.specs.Table.{bad_byte_width}
use Rattle.answers.proofs.Rows.{accepted_row}
use Rattle.sum_bytes.specs.Bytes.{little_endian, words_from, count_of, in_words, closed, words_of, Bytes}
use Rattle.digest_bytes.specs.Call.{bytes_answer, bytes_row, bytes_digest}
use Rattle.digest_match.specs.Match.{match_answer}
use Rattle.theory_matches.proofs.Matches.{match_agrees}
use Rattle.theory_lengths.specs.ByteMessages.{byte_keys, byte_keys_that_match, FalseByteMatches}
use Rattle.theory_lengths.specs.Calls.{BytesAccepted}
use Rattle.theory_lengths.proofs.ByteMessages.{false_byte_matches}
use Rattle.theory_lengths.proofs.Calls.{bytes_accepted}
use Rattle.run_lengths.specs.Agree.{keys_of, MatchesBounded, digest_word, last_word, LastWordAdds, agrees_at}

-- the words of the two messages
none_words : words_of 8 [] ≡ 128 ∷ []
unfolding words_of in_words closed count_of words_from little_endian
none_words = refl

one_words : (byte : ℕ) → words_of 8 (byte ∷ []) ≡ byte ∷ 128 ∷ []
unfolding words_of in_words closed count_of words_from little_endian
one_words byte = ap (λ (x : ℕ). x ∷ 128 ∷ []) (add-zero byte)

-- one word at width 8, all bits kept
one_digest : (message ks : List ℕ) → bytes_digest 8 8 1 message ks ≡ digest_word message ks ∷ []
unfolding digest_word digest full_words
one_digest message ks = refl

word_below : (message ks : List ℕ) → digest_word message ks < 256
unfolding digest_word digest full_words kept one_word
word_below message ks = omega arith

-- each of the two as its sum
none_sum : (k₁ k₂ : ℕ) → digest_word [] (k₁ ∷ k₂ ∷ []) ≡ (128 * k₁ + 128 * k₂ / 256) % 256
unfolding digest_word digest full_words kept one_word whole_sum
none_sum k₁ k₂ = rw none_words (omega arith)

one_sum : (byte k₁ k₂ k₃ : ℕ) → digest_word (byte ∷ []) (k₁ ∷ k₂ ∷ k₃ ∷ []) ≡ (byte * k₁ + byte * k₂ / 256 + 128 * k₂ + 128 * k₃ / 256) % 256
unfolding digest_word digest full_words kept one_word whole_sum
one_sum byte k₁ k₂ k₃ = rw one_words (omega arith)

pub last_word_adds : LastWordAdds
unfolding LastWordAdds last_word
last_word_adds byte k₁ k₂ k₃ = omega (arith, one_sum byte k₁ k₂ k₃, one_sum byte k₁ k₂ 0, none_sum 0 k₃)

-- a call's answer and its word: at width 8 a message of no bytes and two key words, or a message of one byte and three
module _ (message ks row : List ℕ) (accepted : bytes_answer 8 8 1 message ks (0 ∷ []) ≡ 0) (wrote : row ≡ bytes_row 8 8 1 message ks (0 ∷ [])) where
  pub call_word : get_or row 0 0 ≡ digest_word message ks
  unfolding bytes_row digest_word digest full_words
  call_word = ap (λ (l : List ℕ). get_or l 0 0) (wrote ∙ accepted_row (bytes_answer 8 8 1 message ks (0 ∷ [])) (bytes_digest 8 8 1 message ks) (0 ∷ []) accepted)

  pub call_small : get_or row 0 0 < 256
  call_small = omega (arith, call_word, word_below message ks)

settings : InRange 8 8 1
settings = record { some_width = omega arith; width = omega arith; some_kept = omega arith; kept = omega arith; some_words = omega arith; words = omega arith }

no_bytes : Bytes []
no_bytes i = omega arith

one_byte : (byte : ℕ) → byte < 256 → Bytes (byte ∷ [])
one_byte byte h zero = h
one_byte byte h (suc i) = omega arith

pub none_accepted : (k₁ k₂ : ℕ) → k₁ < 256 → k₂ < 256 → bytes_answer 8 8 1 [] (k₁ ∷ k₂ ∷ []) (0 ∷ []) ≡ 0
unfolding BytesAccepted bad_byte_width words_of in_words closed count_of words_from fits
none_accepted k₁ k₂ h₁ h₂ =
    bytes_accepted 8 8 1 1 [] (k₁ ∷ k₂ ∷ []) (0 ∷ []) settings (omega arith) (omega arith) refl no_bytes (omega arith)
    (record { long = refl; below = rw (lt-ltb k₁ 256 h₁, lt-ltb k₂ 256 h₂) tt })

pub one_accepted : (byte k₁ k₂ : ℕ) → byte < 256 → k₁ < 256 → k₂ < 256 → bytes_answer 8 8 1 (byte ∷ []) (k₁ ∷ k₂ ∷ 0 ∷ []) (0 ∷ []) ≡ 0
unfolding BytesAccepted bad_byte_width words_of in_words closed count_of words_from fits
one_accepted byte k₁ k₂ h h₁ h₂ =
    bytes_accepted 8 8 1 2 (byte ∷ []) (k₁ ∷ k₂ ∷ 0 ∷ []) (0 ∷ []) settings (omega arith) (omega arith) refl (one_byte byte h) (omega arith)
    (record { long = refl; below = rw (lt-ltb k₁ 256 h₁, lt-ltb k₂ 256 h₂) tt })

-- 1 where the two messages match under the key, else 0
match_under : ℕ → ℕ → ℕ → ℕ → ℕ
match_under byte k₁ k₂ k₃ = as_number (eqb (digest_word [] (k₁ ∷ k₂ ∷ [])) (digest_word (byte ∷ []) (k₁ ∷ k₂ ∷ k₃ ∷ [])))

-- the claims' test under one key
one_key : (byte k₁ k₂ k₃ : ℕ)
    → as_number (eqb (match_answer 1 (bytes_digest 8 8 1 [] (k₁ ∷ k₂ ∷ [])) (bytes_digest 8 8 1 (byte ∷ []) (k₁ ∷ k₂ ∷ k₃ ∷ []))) 100)
    ≡ match_under byte k₁ k₂ k₃
unfolding match_under same_row
one_key byte k₁ k₂ k₃ =
    ap₂ (λ (x y : List ℕ). as_number (eqb (match_answer 1 x y) 100)) (one_digest [] (k₁ ∷ k₂ ∷ [])) (one_digest (byte ∷ []) (k₁ ∷ k₂ ∷ k₃ ∷ []))
    ∙ ap as_number (match_agrees 1 (digest_word [] (k₁ ∷ k₂ ∷ []) ∷ []) (digest_word (byte ∷ []) (k₁ ∷ k₂ ∷ k₃ ∷ []) ∷ []) (omega arith) (omega arith) refl refl ∙ and-true _)

-- how many keys with these first two words match
pub keys_after : ℕ → ℕ → ℕ → ℕ
keys_after byte k₁ k₂ = sum_to 256 (match_under byte k₁ k₂)

-- and with this first word
pub keys_from : ℕ → ℕ → ℕ
keys_from byte k₁ = sum_to 256 (keys_after byte k₁)

pub first_word_done : (byte k₁ : ℕ) → sum_to 256 (keys_after byte k₁) ≡ keys_from byte k₁
unfolding keys_from
first_word_done byte k₁ = refl

pub in_order : (byte : ℕ) → keys_of byte ≡ sum_to 256 (keys_from byte)
unfolding keys_of byte_keys_that_match byte_keys count over_rows keys_after keys_from words_of in_words closed count_of words_from
in_order byte = sum_cong 256 (λ k₁. sum_cong 256 (λ k₂. sum_cong 256 (λ k₃. one_key byte k₁ k₂ k₃)))

-- the same with the first two words as one number i
pub keys_at : ℕ → ℕ → ℕ
keys_at byte i = sum_to 256 (match_under byte (i / 256) (i % 256))

pub in_order_by_pairs : (byte : ℕ) → keys_of byte ≡ sum_to 65536 (keys_at byte)
unfolding keys_at keys_from keys_after
in_order_by_pairs byte =
    in_order byte
    ∙ sym
    (sum_prod 256 256 (keys_at byte)
    ∙ sum_cong 256 (λ k₁. sum_cong_below 256 _ _ (λ k₂ h. parts k₁ k₂ h)))
  where
    parts : (k₁ k₂ : ℕ) → k₂ < 256 → sum_to 256 (match_under byte ((k₁ * 256 + k₂) / 256) ((k₁ * 256 + k₂) % 256)) ≡ sum_to 256 (match_under byte k₁ k₂)
    parts k₁ k₂ h =
        let q : (k₁ * 256 + k₂) / 256 ≡ k₁ = omega arith in
        let r : (k₁ * 256 + k₂) % 256 ≡ k₂ = omega arith in
        rw (q, r)

-- a turn of the loop over the first two words: the messages' digests under them and a last word of 0, and what each last word adds
pub one_turn : (byte k₁ k₂ wanted start r : ℕ) (lasts : List ℕ) → lasts ≡ tabulate last_word 256
    → wanted ≡ digest_word [] (k₁ ∷ k₂ ∷ [])
    → start ≡ digest_word (byte ∷ []) (k₁ ∷ k₂ ∷ 0 ∷ [])
    → r ≡ sum_to 256 (agrees_at wanted start lasts)
    → r ≡ keys_after byte k₁ k₂
unfolding keys_after agrees_at match_under LastWordAdds
one_turn byte k₁ k₂ wanted start r lasts row w s e =
    e
    ∙ sum_cong_below 256 _ _
    (λ k h.
    let last : get_or lasts k 0 ≡ last_word k = ap (λ (l : List ℕ). get_or l k 0) (row ∙ sym (append-nil (tabulate last_word 256))) ∙ tabulate_at last_word 256 k [] h in
    ap₂ (λ (x y : ℕ). as_number (eqb x y)) w (ap₂ (λ (x y : ℕ). (x + y) % 256) s last ∙ sym (last_word_adds byte k₁ k₂ k)))

-- the claims' bound holds of every message
pub bounded : MatchesBounded
unfolding MatchesBounded keys_of FalseByteMatches bad_byte_width words_of in_words closed count_of words_from
bounded byte h =
    false_byte_matches 8 8 1 2 [] (byte ∷ []) (le_refl 8)
    (record { byte_width = refl; bytes = no_bytes; bytes' = one_byte byte h; different = λ e. omega (arith, ap length e); few = omega arith; few' = omega arith })
