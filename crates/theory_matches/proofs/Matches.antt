-- The match of two messages' digests answers 100 under no more keys than demand 3 allows.
-- Assumes nothing.
use mathlib.Core.Path.{◌≡◌, refl, ap, ◌∙◌}
use mathlib.Core.Bool.{Bool, true, false, cond}
use mathlib.Core.List.{List, [], ◌∷◌}
use Prim.Native.Nat.{ℕ, ◌+◌, ◌≤◌, zero-le}
use native.Mathlib.Nat.{le_refl, le_trans}
use lib.Dec.{eqb}
use lib.ListN.{length}
use Rattle.theory_counts.specs.Count.{as_number, count, same_row}
use Rattle.theory_digest.specs.Corollaries.{keys_that_collide, Collisions}
use Rattle.theory_counts.proofs.Rows.{rows_le}
use Rattle.theory_digest.proofs.Corollaries.{collisions}
use Rattle.digest_match.specs.Match.{match_answer}
use Rattle.theory_matches.specs.Matches.{keys_that_match, FalseMatches}
use Rattle.answers.specs.Answers.{first_of}
use Rattle.answers.specs.Table.{bad_count, bad_rows, match_tray_test}
use Rattle.answers.proofs.Validation.{passes, none_holds, count_passes, rows_pass}

-- two rows of n words match exactly where they are equal
pub match_agrees : (n : ℕ) (xs ys : List ℕ) → 1 ≤ n → n ≤ 8 → length xs ≡ n → length ys ≡ n → eqb (match_answer n xs ys) 100 ≡ same_row xs ys
unfolding match_answer
match_agrees n xs ys low high hx hy =
    ap (λ (a : ℕ). eqb a 100)
    (passes 3 (match_tray_test n (length xs) (length ys) ∷ []) yes_or_no refl (count_passes n low high)
    (passes 6 [] yes_or_no refl (rows_pass n (length xs) (length ys) hx hy) (none_holds yes_or_no)))
    ∙ hundred (same_row xs ys)
  where
    yes_or_no : ℕ
    yes_or_no = cond (same_row xs ys) 100 101

    hundred : (b : Bool) → eqb (cond b 100 101) 100 ≡ b
    hundred true = refl
    hundred false = refl

-- and of no rows but equal ones does it answer 100, whatever n is
pub match_at_most : (n : ℕ) (xs ys : List ℕ) → as_number (eqb (match_answer n xs ys) 100) ≤ as_number (same_row xs ys)
unfolding match_answer first_of as_number
match_at_most n xs ys = go (bad_count n) (bad_rows n (length xs) (length ys)) (same_row xs ys)
  where
    go : (count rows same : Bool) → as_number (eqb (cond count 3 (cond rows 6 (cond same 100 101))) 100) ≤ as_number same
    go true rows same = zero-le
    go false true same = zero-le
    go false false true = le_refl 1
    go false false false = zero-le

pub false_matches : FalseMatches
unfolding FalseMatches keys_that_match keys_that_collide count Collisions
false_matches w b n t first second le m m' ne =
    le_trans (rows_le w (t + n) _ _ (λ ks _. match_at_most n _ _)) (collisions w b n t first second le m m' ne)
