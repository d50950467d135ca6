-- `sum_bytes::decode` meets its contract: all words are full, or all but the last.
use mathlib.Core.Path.{refl, ap, ◌∙◌}
use mathlib.Core.List.{List, ◌++◌, append-nil}
use Prim.Native.Nat.{ℕ, ◌*◌, min}
use native.Mathlib.Omega.{arith}
use lib.ListN.{length, set, drop, drop_of_length-le}
use lib.Seq.{length-take-le}
use Rattle.rows.proofs.Parts.{part_to_end}
use Rattle.sum_bytes.specs.Bytes.{little_endian, words_from, closed}
use Rattle.sum_bytes.specs.Sizes.{bytes_of}
use Rattle.sum_bytes.proofs.Sizes.{size_range}
use Rattle.sum_bytes.proofs.Blocks.{whole_words, full_fit, one_more, last_row}
use Rattle.sum_bytes.proofs.decode.Goals as goal

pub returns-then-full-row : goal.returns-then-full-row
returns-then-full-row c =
    let row = c.args.row.now in
    let xs = c.args.bytes.now in
    let full = c.min-full.result in
    let size = bytes_of c.args.size in
    let range = size_range c.args.size in
    let fit = c.min-full.ensures ∙ ap (min (length row)) c.full_words.ensures in
    let ends = one_more size (length row) _ (length xs) range.0 fit c.requires (omega arith) in
    let rest = part_to_end (length xs) (full * c.bytes.result) xs refl ∙ ap (λ (k : ℕ). drop (full * k) xs) c.bytes.ensures in
    ap (λ (l : List ℕ). set (l ++ drop full row) full c.last.result)
    (c.decode_full.ensures ∙ ap (λ (t : ℕ). words_from size t xs) (length-take-le full row (omega arith)))
    ∙ last_row size full c.last.result xs row range.1 ends.0 (full_fit size (length row) _ (length xs) range.0 fit) ends.1
    (c.last.ensures ∙ ap (λ (l : List ℕ). little_endian 4 (closed l)) rest)

pub returns-else-full-row : goal.returns-else-full-row
returns-else-full-row c =
    let row = c.args.row.now in
    let xs = c.args.bytes.now in
    let full = c.min-full.result in
    let size = bytes_of c.args.size in
    let fit = c.min-full.ensures ∙ ap (min (length row)) c.full_words.ensures in
    ap (λ (l : List ℕ). l ++ drop full row)
    (c.decode_full.ensures ∙ ap (λ (t : ℕ). words_from size t xs) (length-take-le full row (omega arith)))
    ∙ ap (λ (l : List ℕ). words_from size full xs ++ l) (drop_of_length-le row {i = full} (omega arith))
    ∙ append-nil (words_from size full xs)
    ∙ whole_words size full xs (full_fit size (length row) _ (length xs) (size_range c.args.size).0 fit)
    ∙ ap (λ (t : ℕ). words_from size t (closed xs)) (omega arith)
