-- A one-word array is not the plain seed: its first state word is 2^31, the seed's is the seed. And which bit of that word a next reads.
use Prim.Native.Nat.{ℕ, zero, suc, ◌+◌}
use mathlib.Core.Path.{◌≡◌, refl, sym, ap, ◌∙◌}
use mathlib.Core.Bool.{Bool, true, false, cond}
use mathlib.Core.List.{List, [], ◌∷◌, append-nil}
use native.Mathlib.Omega.{arith}
use lib.Bits.{bit_and, and_comm, and_shifted}
use lib.Dec.{leb}
use lib.ListN.{get_or, set, length, length-set}
use lib.Seq.{get_or-set_same}
use Rattle.rows.specs.Written.{tabulate}
use Rattle.rows.proofs.Written.{length_tabulate, tabulate_at}
use Rattle.answers.specs.Answers.{first_of}
use Rattle.answers.specs.Table.{bad_seed}
use Rattle.mt19937.specs.Published.{steps, generator, new_word, new_words, seeded, concatenated, twist, refill, ready, taken, next_answer, next_of}
use Rattle.mt19937_array.specs.SeedArray.{put, seed_step, index_step, array_words, array_answer, arrayed}
use Rattle.theory_seeds.specs.Claims.{OneWordIsNoSeed, LowBitsUnread, OneWordTopBit}
use Rattle.mt19937.specs.declared.Generator.{Generator}

put_long : (i word : ℕ) (ws : List ℕ) → length (put i word ws) ≡ length ws
unfolding put
put_long i word ws = go (leb 624 (i + 1))
  where
    go : (wraps : Bool) → length (cond wraps (set (set ws i word) 0 (get_or (set ws i word) 623 0)) (set ws i word)) ≡ length ws
    go true = length-set (set ws i word) 0 _ ∙ length-set ws i word
    go false = length-set ws i word

-- steps of which each leaves the words as many as they were
steps_long : (f : ℕ → List ℕ → List ℕ) → ((k : ℕ) (ws : List ℕ) → length (f k ws) ≡ length ws) → (n : ℕ) (ws : List ℕ)
    → length (steps f n ws) ≡ length ws
unfolding steps
steps_long f one zero ws = refl
steps_long f one (suc n) ws = one n (steps f n ws) ∙ steps_long f one n ws

first_of_array : (seed : List ℕ) → get_or (array_words seed) 0 0 ≡ 0x8000_0000
unfolding array_words new_words seed_step index_step
first_of_array seed =
    let filled = new_words 19650218 624 in
    let first = steps (seed_step seed) 624 filled in
    let long : length (steps index_step 623 first) ≡ 624 =
    steps_long index_step (λ k ws. put_long _ _ ws) 623 first ∙ steps_long (seed_step seed) (λ k ws. put_long _ _ ws) 624 filled ∙ length_tabulate _ 624 in
    get_or-set_same (steps index_step 623 first) 0 0x8000_0000 0 (rw long (omega arith))

first_of_seed : (seed : ℕ) → get_or (new_words seed 624) 0 0 ≡ seed
unfolding new_words new_word
first_of_seed seed =
    ap (λ (ws : List ℕ). get_or ws 0 0) (sym (append-nil (tabulate (new_word seed) 624))) ∙ tabulate_at (new_word seed) 624 0 [] (omega arith)

pub one_word_is_no_seed : OneWordIsNoSeed
unfolding OneWordIsNoSeed arrayed array_answer first_of bad_seed seeded
one_word_is_no_seed seed ne e =
    ne (sym (sym (first_of_array (seed ∷ [])) ∙ ap (λ (g : Generator). get_or g.words 0 0) e ∙ first_of_seed seed))

pub one_word_top_bit : OneWordTopBit
unfolding OneWordTopBit arrayed array_answer first_of bad_seed seeded
one_word_top_bit seed h = (
  ap (λ (x : ℕ). bit_and x 0x8000_0000) (first_of_array (seed ∷ [])),
  ap (λ (x : ℕ). bit_and x 0x8000_0000) (first_of_seed seed) ∙ and_comm seed 0x8000_0000 ∙ and_shifted 1 31 seed h,
)

same_first_twist : (this other : ℕ) (ws : List ℕ) → bit_and this 0x8000_0000 ≡ bit_and other 0x8000_0000 → twist 0 (this ∷ ws) ≡ twist 0 (other ∷ ws)
unfolding twist concatenated
same_first_twist this other ws e = rw e

same_twists : (this other : List ℕ) → twist 0 this ≡ twist 0 other → (n : ℕ) → steps twist (suc n) this ≡ steps twist (suc n) other
unfolding steps
same_twists this other e zero = e
same_twists this other e (suc n) = ap (twist (suc n)) (same_twists this other e n)

pub low_bits_unread : LowBitsUnread
unfolding LowBitsUnread next_of next_answer first_of ready refill
low_bits_unread this other ws e =
    ap (λ (x : List ℕ). taken (generator x 0)) (same_twists (this ∷ ws) (other ∷ ws) (same_first_twist this other ws e) 623)
