-- The digests of one message under the keys of several peers (document 02, "Five", which calls them a crew): keys and digests lie end to end, peer by peer.
use Rattle.std.specs.Prelude.{List, [], ◌++◌, ℕ, zero, suc, ◌+◌, ◌*◌, length, take, drop}
use Rattle.theory_digest.specs.Digest.{digest}

-- row i of rows that lie end to end and have size words each
abbrev pub row_at : ℕ → ℕ → List ℕ → List ℕ
row_at size i rows = take size (drop (i * size) rows)

-- the rows of p peers: row i is the digest under key i alone, by the word digest's own definition. A key has t + n words
unfoldable pub peers_rows : ℕ → ℕ → ℕ → ℕ → List ℕ → List ℕ → List ℕ
peers_rows w b n zero ms ks = []
peers_rows w b n (suc i) ms ks = peers_rows w b n i ms ks ++ digest w b n ms (row_at (length ms + n) i ks)
