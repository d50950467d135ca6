-- A generator that is made new from a seed array has words below 2^32.
use Rattle.std.proofs.Common.{ℕ, zero, suc, ◌+◌, ◌^◌, ◌<◌, Bool, true, false, cond, eqb, leb, List, get_or, set, replicate, mod-lt, arith, pow_pos}
use Rattle.mt19937.specs.Published.{steps, generator, new_words}
use Rattle.mt19937_array.specs.SeedArray.{put, seed_word, seed_step, index_word, index_step, array_words, array_answer, no_generator, arrayed}
use Rattle.mt19937.proofs.Below.{Below, ReadyBelow, set_below, steps_below, words_ready, filled_below}

put_below : (i word : ℕ) (ws : List ℕ) → Below ws → word < 2 ^ 32 → Below (put i word ws)
unfolding put
put_below i word ws h b = go (leb 624 (i + 1))
  where
    one : Below (set ws i word)
    one = set_below ws i word h b

    go : (wraps : Bool) → Below (cond wraps (set (set ws i word) 0 (get_or (set ws i word) 623 0)) (set ws i word))
    go true = set_below (set ws i word) 0 _ one (one 623)
    go false = one

seed_step_below : (seed : List ℕ) (k : ℕ) (ws : List ℕ) → Below ws → Below (seed_step seed k ws)
unfolding seed_step seed_word
seed_step_below seed k ws h = put_below _ _ ws h (mod-lt _ (pow_pos 32))

index_step_below : (k : ℕ) (ws : List ℕ) → Below ws → Below (index_step k ws)
unfolding index_step index_word
index_step_below k ws h = put_below _ _ ws h (mod-lt _ (pow_pos 32))

array_below : (seed : List ℕ) → Below (array_words seed)
unfolding array_words
array_below seed =
    let filled = new_words 19650218 624 in
    let first = steps (seed_step seed) 624 filled in
    let b = steps_below (seed_step seed) (seed_step_below seed) 624 filled (filled_below 19650218 (omega arith)) in
    set_below (steps index_step 623 first) 0 0x8000_0000 (steps_below index_step index_step_below 623 first b) (omega arith)

zeros_below : (n : ℕ) → Below (replicate n 0)
zeros_below zero i = pow_pos 32
zeros_below (suc n) zero = pow_pos 32
zeros_below (suc n) (suc i) = zeros_below n i

pub arrayed_below : (seed : List ℕ) → ReadyBelow (arrayed seed)
unfolding arrayed no_generator
arrayed_below seed = words_ready (arrayed seed) (go (eqb (array_answer seed) 0))
  where
    go : (accepted : Bool) → Below (cond accepted (generator (array_words seed) 624) no_generator).words
    go true = array_below seed
    go false = zeros_below 624
