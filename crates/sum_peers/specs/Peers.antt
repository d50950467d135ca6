-- The sums of up to sixteen peers (document 02, "Five", which calls them a crew): sixteen rows of eight, a row for each peer, under the peer's own key.
use Rattle.std.specs.Prelude.{◌≡◌, ℕ, ◌+◌, ◌*◌, ◌/◌, ◌%◌, ◌^◌, ◌<◌, ◌≤◌, Bool, true, false, not, ◌&&◌, List, [], length, drop, replicate, slice_index, slice_index_or, Result, Ok, Err, is_ok}
use Rattle.theory_counts.specs.Words.{fits}
use Rattle.theory_digest.specs.Digest.{whole_sum}
use Rattle.answers.specs.Table.{bad_peers}
use Rattle.sum_terms.specs.Sums.{summable}

-- a row of eight places, in which each of n sums is what it was and what the message adds, modulo 2^64, and the others are as they were
abbrev pub RowAccumulated : ℕ → ℕ → List ℕ → List ℕ → List ℕ → List ℕ → Type 0
RowAccumulated w n ms ks old new =
    (length new ≡ 8)
    × ((i : ℕ) → i < n → slice_index new i ≡ (slice_index old i + whole_sum w ms (drop i ks)) % 2 ^ 64)
    × ((i : ℕ) → n ≤ i → slice_index new i ≡ slice_index old i)

-- sixteen rows, of which the first p are so, each under the keys from its own on; a key has size words. The others are as they were
abbrev pub RowsAccumulated : ℕ → ℕ → ℕ → ℕ → List ℕ → List ℕ → List (List ℕ) → List (List ℕ) → Type 0
RowsAccumulated w n p size ms ks old new =
    (length new ≡ 16)
    × ((q : ℕ) → q < p → RowAccumulated w n ms (drop (q * size) ks) (slice_index_or old q []) (slice_index_or new q []))
    × ((q : ℕ) → p ≤ q → slice_index_or new q [] ≡ slice_index_or old q [])

-- sixteen rows of eight
abbrev pub Sixteen : List (List ℕ) → Type 0
Sixteen rows = (length rows ≡ 16) × ((q : ℕ) → q < 16 → length (slice_index_or rows q []) ≡ 8)

-- where the code sums, of t message words and k key words: Peers passes, and an equal share of the keys has words for n sums of each peer
unfoldable pub peers_summable : ℕ → ℕ → ℕ → ℕ → ℕ → Bool
peers_summable w n p t k = not (bad_peers p) && summable w n t (k / p)

-- rows in which nothing is summed
abbrev pub zeros : List (List ℕ)
zeros = replicate 16 (replicate 8 0)

-- for every input: the rows of what the message adds, and whether its words fit; or rows of zeros, and false
abbrev pub PeersSums : ℕ → ℕ → ℕ → List ℕ → List ℕ → List (List ℕ) → Bool → Type 0
PeersSums w n p ms ks rows fit =
    (peers_summable w n p (length ms) (length ks) ≡ true → RowsAccumulated w n p (length ms + n) ms ks zeros rows × (fit ≡ fits w ms))
    × (peers_summable w n p (length ms) (length ks) ≡ false → (rows ≡ zeros) × (fit ≡ false))

-- rows, in whichever case they come
abbrev pub rows_of : Result (List (List ℕ)) (List (List ℕ)) → List (List ℕ)
rows_of (Ok rows) = rows
rows_of (Err rows) = rows

-- both in one value: the rows, Ok where the message's words fit
abbrev pub PeersResult : ℕ → ℕ → ℕ → List ℕ → List ℕ → Result (List (List ℕ)) (List (List ℕ)) → Type 0
PeersResult w n p ms ks result = PeersSums w n p ms ks (rows_of result) (is_ok result)
