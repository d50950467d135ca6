-- The rows as the code writes them: the low bits of its sums.
use Rattle.std.specs.Prelude.{List, [], ◌++◌, ℕ, zero, suc, get_or}
use Rattle.rows.specs.Written.{tabulate}
use Rattle.theory_digest.specs.Digest.{kept}

-- the low b bits of the first n sums
abbrev pub kept_row : ℕ → ℕ → List ℕ → List ℕ
kept_row b n sums = tabulate (λ i. kept b (get_or sums i 0)) n

-- of p rows, end to end
unfoldable pub kept_rows : ℕ → ℕ → ℕ → List (List ℕ) → List ℕ
kept_rows b n zero rows = []
kept_rows b n (suc p) rows = kept_rows b n p rows ++ kept_row b n (get_or rows p [])
