-- The numbers of the refusals (document 01, "Numbers the agent sees"), and what a call answers by its outcome.
use Rattle.std.specs.Prelude.{ℕ, Result, Ok, Err}
use Rattle.answers.specs.declared.Refusal.{Refusal}
use Rattle.answers.specs.declared.Verdict.{Verdict}
use Rattle.answers.specs.declared.Verdict.TheVariants.{Match, NoMatch}
use Rattle.answers.specs.declared.Refusal.TheVariants.{State, Width, Digits, Seed, Kept, Count, Peers, Long, Key, Place, Tray, Word}

-- the first column of the table
abbrev pub number : Refusal → ℕ
number State = 8
number Width = 1
number Digits = 9
number Seed = 11
number Kept = 2
number Count = 3
number Peers = 10
number Long = 4
number Key = 5
number Place = 12
number Tray = 6
number Word = 7

-- 0 is an accepted call; a refused one answers its refusal's number
abbrev pub answer_of : {A : Type 0} → Result A Refusal → ℕ
answer_of (Ok value) = 0
answer_of (Err refusal) = number refusal

-- a match answers 100 or 101 where it is accepted
abbrev pub match_answer_of : Result Verdict Refusal → ℕ
match_answer_of (Ok Match) = 100
match_answer_of (Ok NoMatch) = 101
match_answer_of (Err refusal) = number refusal
