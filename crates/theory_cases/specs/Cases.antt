-- Document 01's starred cases, and document 02's of the code: what the definitions give, and what the document says. One row for each case.
use Rattle.std.specs.Prelude.{◌≡◌, List, [], ◌∷◌, map, ℕ, ◌+◌, ◌<◌, length, get_or, take, replicate}
use Prim.Native.String.{String}
use Rattle.theory_counts.specs.Count.{count, same_row}
use Rattle.theory_digest.specs.Claims.{keys_that_differ, keys_that_give, most_keys}
use Rattle.sum_bytes.specs.Bytes.{words_of}
use Rattle.digest_words.specs.Call.{digest_answer, digest_row}
use Rattle.digest_code.specs.Call.{code_answer, code_row}
use Rattle.stream.specs.Calls.{open_state, push_state, read_row}
use Rattle.mt19937.specs.Published.{seeded}

-- a row: the case's letter, the numbers that the definitions give, and those of the document
pub record Case : Type 0 where
  pub letter : String
  pub given : List ℕ
  pub written : List ℕ

abbrev pub case : String → List ℕ → List ℕ → Case
case letter given written = record { letter = letter; given = given; written = written }

-- the answer and the digest words of a call on an output of n zeros
unfoldable pub called : ℕ → ℕ → ℕ → List ℕ → List ℕ → List ℕ
called w b n ms ks = digest_answer w b n ms ks (replicate n 0) ∷ digest_row w b n ms ks (replicate n 0)

-- A: w 8, b 8, n 1, message 1, key 5 200
abbrev pub case_a : Case
case_a = case "A" (called 8 8 1 (1 ∷ []) (5 ∷ 200 ∷ [])) (0 ∷ 0x05 ∷ [])

-- B: w 8, b 8, n 1, message 255, key 255 255
abbrev pub case_b : Case
case_b = case "B" (called 8 8 1 (255 ∷ []) (255 ∷ 255 ∷ [])) (0 ∷ 0xff ∷ [])

-- C: w 8, b 8, n 2, message 3 7, key 10 20 100 250
abbrev pub case_c : Case
case_c = case "C" (called 8 8 2 (3 ∷ 7 ∷ []) (10 ∷ 20 ∷ 100 ∷ 250 ∷ [])) (0 ∷ 0xac ∷ 0xff ∷ [])

-- D: C with b 4
abbrev pub case_d : Case
case_d = case "D" (called 8 4 2 (3 ∷ 7 ∷ []) (10 ∷ 20 ∷ 100 ∷ 250 ∷ [])) (0 ∷ 0x0c ∷ 0x0f ∷ [])

-- E: w 32, b 32, n 1, all three words 0xffffffff
abbrev pub case_e : Case
case_e = case "E" (called 32 32 1 (0xffff_ffff ∷ []) (0xffff_ffff ∷ 0xffff_ffff ∷ [])) (0 ∷ 0xffff_ffff ∷ [])

-- F: w 8, b 8, n 1, no message, key 7
abbrev pub case_f : Case
case_f = case "F" (called 8 8 1 [] (7 ∷ [])) (0 ∷ 0x00 ∷ [])

-- G: C streamed reads 0x1e 0x3d after its first word
abbrev pub case_g : Case
case_g = case "G" (read_row (push_state (open_state 8 8 2 (10 ∷ 20 ∷ [])) (3 ∷ []) (100 ∷ [])) (0 ∷ 0 ∷ [])) (0x1e ∷ 0x3d ∷ [])

-- H: bytes 01 02 03 at width 16 are the words 0x0201 0x8003 (document 02, "One")
abbrev pub case_h : Case
case_h = case "H" (words_of 16 (0x01 ∷ 0x02 ∷ 0x03 ∷ [])) (0x0201 ∷ 0x8003 ∷ [])

-- I: w 2, t 1, n 1, b 2: messages 1 and 3 agree under 6 of 16 keys; the bound is 8
abbrev pub case_i : Case
case_i =
    case "I"
    (keys_that_differ 2 2 1 1 (1 ∷ []) (3 ∷ []) (0 ∷ [])
    ∷ count 2 (1 + 1) (λ ks. same_row ks ks)
    ∷ most_keys 2 2 1 1
    ∷ [])
    (6 ∷ 16 ∷ 8 ∷ [])

-- J: same settings, message 3: each digest has exactly 4 keys
abbrev pub case_j : Case
case_j =
    case "J"
    (keys_that_give 2 2 1 1 (3 ∷ []) (0 ∷ [])
    ∷ keys_that_give 2 2 1 1 (3 ∷ []) (1 ∷ [])
    ∷ keys_that_give 2 2 1 1 (3 ∷ []) (2 ∷ [])
    ∷ keys_that_give 2 2 1 1 (3 ∷ []) (3 ∷ [])
    ∷ [])
    (4 ∷ 4 ∷ 4 ∷ 4 ∷ [])

-- K: seed 0 makes state words 0, 1, 1812433255 first, in the new generator's own state
abbrev pub case_k : Case
case_k = case "K" (take 3 (seeded 0).words) (0 ∷ 1 ∷ 1812433255 ∷ [])

-- 02, "Two": at w 8 and d 2 the digest 255, which is B's, is the byte 0x55; the answer, then the output row
abbrev pub case_code : Case
case_code =
    case "code"
    (code_answer 8 2 (255 ∷ []) (255 ∷ 255 ∷ []) (0 ∷ []) ∷ code_row 8 2 (255 ∷ []) (255 ∷ 255 ∷ []) (0 ∷ []))
    (0 ∷ 0x55 ∷ [])

unfoldable pub cases : List Case
cases = case_a ∷ case_b ∷ case_c ∷ case_d ∷ case_e ∷ case_f ∷ case_g ∷ case_h ∷ case_i ∷ case_j ∷ case_k ∷ case_code ∷ []

-- every case is there: document 01's from A to K, and document 02's of the code
unfoldable pub EveryLetter : Type 0
EveryLetter = map (λ c. c.letter) cases ≡ "A" ∷ "B" ∷ "C" ∷ "D" ∷ "E" ∷ "F" ∷ "G" ∷ "H" ∷ "I" ∷ "J" ∷ "K" ∷ "code" ∷ []

-- and of each the definitions give what the document says
unfoldable pub EveryCase : Type 0
EveryCase = (i : ℕ) → i < length cases → (get_or cases i (case "" [] [])).given ≡ (get_or cases i (case "" [] [])).written
