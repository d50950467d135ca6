-- The match's promise (01, "Match").
use Rattle.std.specs.Prelude.{cond, List, [], ◌∷◌, ℕ, length, fold}
use Rattle.std.specs.List.{zip}
use Rattle.std.specs.Int.Bits.{bit_or, bit_xor}
use Rattle.theory_counts.specs.Count.{same_row}
use Rattle.answers.specs.Answers.{first_of}
use Rattle.answers.specs.Table.{count_test, match_tray_test}

-- 01, "Match" and "Numbers the agent sees": Count, Tray, then 100 where the rows agree at all n places, else 101
unfoldable pub match_answer : ℕ → List ℕ → List ℕ → ℕ
match_answer n first second = first_of (count_test n ∷ match_tray_test n (length first) (length second) ∷ []) (cond (same_row first second) 100 101)

-- all bits in which some place of two rows differs
abbrev pub differing : List ℕ → List ℕ → ℕ
differing first second = fold (λ (bits : ℕ) (p : ℕ × ℕ). bit_or bits (bit_xor p.0 p.1)) 0 (zip first second)
