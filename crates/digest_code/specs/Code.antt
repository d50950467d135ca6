-- The code for the telephone (document 02, "Two"): a number, its decimal digits, and their bytes.
use Rattle.std.specs.Prelude.{cond, List, [], ◌∷◌, ◌++◌, ℕ, zero, suc, ◌+◌, ◌*◌, ◌/◌, ◌%◌, ◌^◌, eqb, length, get_or}
use Rattle.theory_digest.specs.Digest.{digest}

-- the number: the only word of the digest of one word, of which every bit is kept, modulo 10^d
unfoldable pub code_number : ℕ → ℕ → List ℕ → List ℕ → ℕ
code_number w d ms ks = get_or (digest w w 1 ms ks) 0 0 % 10 ^ d

-- the last d decimal digits of a number, the highest first; leading zeros are digits too
unfoldable pub digits : ℕ → ℕ → List ℕ
digits zero x = []
digits (suc d) x = digits d (x / 10) ++ (x % 10 ∷ [])

-- with a zero in front where their number is odd
unfoldable pub evened : List ℕ → List ℕ
evened ds = cond (eqb (length ds % 2) 0) ds (0 ∷ ds)

-- two of them to a byte, the higher in its upper half; a digit that is left alone, which an even number of digits has not, is an upper half
unfoldable pub pack_pairs : List ℕ → List ℕ
pack_pairs [] = []
pack_pairs (high ∷ []) = high * 16 ∷ []
pack_pairs (high ∷ low ∷ ds) = (high * 16 + low) ∷ pack_pairs ds

-- packed decimal
unfoldable pub packed : List ℕ → List ℕ
packed ds = pack_pairs (evened ds)

-- the code of a message under a key, as bytes
unfoldable pub code : ℕ → ℕ → List ℕ → List ℕ → List ℕ
code w d ms ks = packed (digits d (code_number w d ms ks))
