-- A generator's outputs are below 2^32, and so are its words once it is ready, however it was made new.
use Rattle.std.proofs.Common.{◌≡◌, ℕ, zero, suc, ◌*◌, ◌/◌, ◌%◌, ◌^◌, ◌<◌, Bool, true, false, cond, eqb, List, [], ◌∷◌, ◌++◌, get_or, set, sym, refl, ap, subst, lt_of_le_of_lt, mod-lt, arith, pow_pos}
use lib.Bits.{bit_and, bit_xor, xor_lt, or_lt, and_le_l, and_le_r}
use lib.Pow.{shr_le}
use Rattle.rows.specs.Written.{tabulate}
use Rattle.mt19937.specs.Published.{steps, generator, following, new_word, new_words, seeded, concatenated, twisted, twist, refill, ready, temper, taken, next_answer, next_of}
use Rattle.mt19937.specs.declared.Generator.{Generator}

-- every word of a row of the generator's
abbrev pub Below : List ℕ → Type 0
Below ws = (i : ℕ) → get_or ws i 0 < 2 ^ 32

none_below : Below []
none_below i = pow_pos 32

append_below : (a b : List ℕ) → Below a → Below b → Below (a ++ b)
append_below [] b ha hb i = hb i
append_below (x ∷ a) b ha hb zero = ha zero
append_below (x ∷ a) b ha hb (suc i) = append_below a b (λ j. ha (suc j)) hb i

tabulate_below : (f : ℕ → ℕ) (n : ℕ) → ((i : ℕ) → f i < 2 ^ 32) → Below (tabulate f n)
unfolding tabulate
tabulate_below f zero h = none_below
tabulate_below f (suc n) h = append_below (tabulate f n) (f n ∷ []) (tabulate_below f n h) one
  where
    one : Below (f n ∷ [])
    one zero = h n
    one (suc i) = pow_pos 32

-- a table by its first word
tabulate_first : (f : ℕ → ℕ) (n : ℕ) → tabulate f (suc n) ≡ f zero ∷ tabulate (λ (i : ℕ). f (suc i)) n
unfolding tabulate
tabulate_first f zero = refl
tabulate_first f (suc n) = ap (λ (ws : List ℕ). ws ++ (f (suc n) ∷ [])) (tabulate_first f n)

pub set_below : (ws : List ℕ) (i v : ℕ) → Below ws → v < 2 ^ 32 → Below (set ws i v)
set_below [] i v h hv j = none_below j
set_below (x ∷ ws) zero v h hv zero = hv
set_below (x ∷ ws) zero v h hv (suc j) = h (suc j)
set_below (x ∷ ws) (suc i) v h hv zero = h zero
set_below (x ∷ ws) (suc i) v h hv (suc j) = set_below ws i v (λ k. h (suc k)) hv j

shift_below : (y k : ℕ) → y < 2 ^ 32 → y / 2 ^ k < 2 ^ 32
shift_below y k h = lt_of_le_of_lt (shr_le y k) h

mask_below : (y m : ℕ) → y < 2 ^ 32 → bit_and y m < 2 ^ 32
mask_below y m h = lt_of_le_of_lt (and_le_l y m) h

twisted_below : (far y : ℕ) → far < 2 ^ 32 → y < 2 ^ 32 → twisted far y < 2 ^ 32
unfolding twisted
twisted_below far y hf hy = xor_lt 32 _ _ (xor_lt 32 far (y / 2 ^ 1) hf (shift_below y 1 hy)) (go (eqb (y % 2) 1))
  where
    go : (odd : Bool) → cond odd 0x9908_B0DF 0 < 2 ^ 32
    go true = omega arith
    go false = pow_pos 32

-- whatever the two words are, since the masks are below
concatenated_below : (this next : ℕ) → concatenated this next < 2 ^ 32
unfolding concatenated
concatenated_below this next =
    or_lt 32 _ _ (lt_of_le_of_lt (and_le_r this 0x8000_0000) (omega arith)) (lt_of_le_of_lt (and_le_r next 0x7FFF_FFFF) (omega arith))

twist_below : (i : ℕ) (ws : List ℕ) → Below ws → Below (twist i ws)
unfolding twist
twist_below i ws h = set_below ws i _ h (twisted_below _ _ (h _) (concatenated_below _ _))

-- the first step reads one bit of word 0 and replaces it, so nothing is asked of that word
first_twist_below : (x : ℕ) (ws : List ℕ) → Below ws → Below (twist 0 (x ∷ ws))
unfolding twist
first_twist_below x ws h zero = twisted_below _ _ (h 396) (concatenated_below _ _)
first_twist_below x ws h (suc i) = h i

-- steps of which each leaves the words below
pub steps_below : (f : ℕ → List ℕ → List ℕ) → ((k : ℕ) (ws : List ℕ) → Below ws → Below (f k ws)) → (n : ℕ) (ws : List ℕ) → Below ws → Below (steps f n ws)
unfolding steps
steps_below f one zero ws h = h
steps_below f one (suc n) ws h = one n (steps f n ws) (steps_below f one n ws h)

twists_below : (x : ℕ) (ws : List ℕ) → Below ws → (n : ℕ) → Below (steps twist (suc n) (x ∷ ws))
unfolding steps
twists_below x ws h zero = first_twist_below x ws h
twists_below x ws h (suc n) = twist_below (suc n) _ (twists_below x ws h n)

refill_below : (x : ℕ) (ws : List ℕ) → Below ws → Below (refill (x ∷ ws))
unfolding refill
refill_below x ws h = twists_below x ws h 623

-- a generator whose words are below once it is ready: what its outputs come from
abbrev pub ReadyBelow : Generator → Type 0
ReadyBelow g = Below (ready g).words

pub words_ready : (g : Generator) → Below g.words → ReadyBelow g
unfolding ready refill
words_ready g h = go (eqb g.at 624)
  where
    go : (used : Bool) → Below (cond used (generator (refill g.words) 0) g).words
    go true = steps_below twist twist_below 624 g.words h
    go false = h

temper_below : (y : ℕ) → y < 2 ^ 32 → temper y < 2 ^ 32
unfolding temper
temper_below y h = right 18 _ (left 15 0xEFC6_0000 _ (left 7 0x9D2C_5680 _ (right 11 y h)))
  where
    right : (k x : ℕ) → x < 2 ^ 32 → bit_xor x (x / 2 ^ k) < 2 ^ 32
    right k x b = xor_lt 32 x (x / 2 ^ k) b (shift_below x k b)

    left : (k m x : ℕ) → x < 2 ^ 32 → bit_xor x (bit_and (x * 2 ^ k % 2 ^ 32) m) < 2 ^ 32
    left k m x b = xor_lt 32 x (bit_and (x * 2 ^ k % 2 ^ 32) m) b (mask_below (x * 2 ^ k % 2 ^ 32) m (mod-lt (x * 2 ^ k) (pow_pos 32)))

-- a state filled from a seed: the seed, and the words that follow
unfoldable later_words : ℕ → List ℕ
later_words seed = tabulate (λ (i : ℕ). new_word seed (suc i)) 623

filled : (seed : ℕ) → new_words seed 624 ≡ seed ∷ later_words seed
unfolding new_words new_word later_words
filled seed = tabulate_first (new_word seed) 623

later_below : (seed : ℕ) → Below (later_words seed)
unfolding later_words new_word following
later_below seed = tabulate_below _ 623 (λ i. mod-lt _ (pow_pos 32))

-- a generator new from a seed of any size
pub seeded_below : (seed : ℕ) → ReadyBelow (seeded seed)
unfolding seeded ready
seeded_below seed = subst (λ (ws : List ℕ). Below (refill ws)) (sym (filled seed)) (refill_below seed (later_words seed) (later_below seed))

pub filled_below : (seed : ℕ) → seed < 2 ^ 32 → Below (new_words seed 624)
filled_below seed h = subst Below (sym (filled seed)) whole
  where
    whole : Below (seed ∷ later_words seed)
    whole zero = h
    whole (suc i) = later_below seed i

-- an output, and the state after it
pub next_below : (g : Generator) → ReadyBelow g → ((next_of g).word < 2 ^ 32) × ReadyBelow (next_of g).state
unfolding next_of taken
next_below g h = go (eqb (next_answer g) 0)
  where
    go : (fit : Bool)
        → let n = cond fit (taken (ready g)) (record { answer = next_answer g; word = 0; state = g }) in
        (n.word < 2 ^ 32) × ReadyBelow n.state
    go true = (temper_below _ (h _), words_ready (taken (ready g)).state h)
    go false = (pow_pos 32, h)
