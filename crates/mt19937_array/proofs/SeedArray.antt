-- Laws of the two indices of a seed array's initialisation, of its words, and of what is refused.
use Rattle.std.proofs.Common.{◌≡◌, ℕ, ◌+◌, ◌-◌, ◌%◌, ◌^◌, ◌<◌, ◌≤◌, Bool, true, false, cond, leb, List, [], ◌∷◌, length, slice_index, sym, refl, ap, ◌∙◌, add-one, arith, leb-false}
use native.Mathlib.Nat.{mod-add-mod, add-mod_right, mod-eq_of_lt}
use borrow.Author.Tests.{ne_eqb}
use Rattle.answers.specs.declared.Refusal.{Refusal}
use Rattle.answers.specs.Answers.{first_of, Validates}
use Rattle.answers.specs.Refusals.{number}
use Rattle.answers.specs.Table.{bad_seed, seed_test}
use Rattle.answers.proofs.Refused.{some_number}
use Rattle.answers.proofs.Validation.{refusal_stands, passed}
use Rattle.mt19937.specs.Published.{generator}
use Rattle.mt19937_array.specs.SeedArray.{onward, turned, place_at, mixed, seed_word, index_word, array_words, array_answer, no_generator, arrayed, made}

-- the index i before turn k, which lies between its ends
pub record Index (start end k i : ℕ) : Type 0 where
  pub place : i ≡ turned start end k
  pub low : start ≤ i
  pub high : i < end

pub index_first : (start end : ℕ) → start < end → Index start end 0 start
unfolding turned
index_first start end h = record { place = refl; low = omega arith; high = h }

-- an index that goes on stays between its ends
pub onward_within : (start end i : ℕ) {next : ℕ} → start < end → start ≤ i → next ≡ onward start end i → (start ≤ next) × (next < end)
unfolding onward
onward_within start end i h low e = rw e (go (leb end (i + 1)) refl)
  where
    go : (wraps : Bool) → leb end (i + 1) ≡ wraps → (start ≤ cond wraps start (i + 1)) × (cond wraps start (i + 1) < end)
    go true t = (omega arith, h)
    go false t = (omega arith, leb-false end (i + 1) t)

pub index_next : (start end k i : ℕ) {next : ℕ} → start < end → Index start end k i → next ≡ onward start end i → Index start end (k + 1) next
unfolding turned
index_next start end k i h b e =
    let within = onward_within start end i h b.low e in
    record { place = e ∙ ap (onward start end) b.place ∙ ap (turned start end) (sym (add-one k)); low = within.0; high = within.1 }

-- the place of the state word that the next turn changes
pub place_first : (i : ℕ) → i ≡ 1 → i ≡ place_at 0
unfolding turned
place_first i e = e

pub place_next : (k : ℕ) {i next : ℕ} → i ≡ place_at k → next ≡ onward 1 624 i → next ≡ place_at (k + 1)
unfolding turned
place_next k e f = f ∙ ap (onward 1 624) e ∙ ap (turned 1 624) (sym (add-one k))

-- what gives a when b is added is a less b, modulo m
pub sub_back : (m r a b : ℕ) → r < m → b ≤ m → (r + b) % m ≡ a → r ≡ (a + m - b) % m
sub_back m r a b h k e =
    let whole : r + b + (m - b) ≡ r + m = omega arith in
    let taken : a + m - b ≡ a + (m - b) = omega arith in
    sym
    (ap (λ (x : ℕ). x % m) (taken ∙ ap (λ (x : ℕ). x + (m - b)) (sym e))
    ∙ mod-add-mod (r + b) m (m - b)
    ∙ ap (λ (x : ℕ). x % m) whole
    ∙ add-mod_right r m
    ∙ mod-eq_of_lt h)

-- a seed of no words or of too many is refused, another makes its words
module _ (seed : List ℕ) where
  pub making_refused : (refusal : Refusal) → Validates (seed_test (length seed) ∷ []) (number refusal) → number refusal ≡ (made seed).answer
  unfolding made array_answer
  making_refused refusal j = refusal_stands _ j 0 (some_number refusal)

  pub none_made : (refusal : Refusal) → Validates (seed_test (length seed) ∷ []) (number refusal) → no_generator ≡ (made seed).state
  unfolding made arrayed array_answer
  none_made refusal j =
      rw (ne_eqb (first_of (seed_test (length seed) ∷ []) 0) 0 (λ z. some_number refusal (refusal_stands _ j 0 (some_number refusal) ∙ z)))

  pub making_passed : Validates (seed_test (length seed) ∷ []) 0 → bad_seed (length seed) ≡ false
  making_passed j = (passed 10 _ [] 0 (j 0)).0

  pub making_accepted : (ws : List ℕ) → Validates (seed_test (length seed) ∷ []) 0 → ws ≡ array_words seed
      → (0 ≡ (made seed).answer) × (generator ws 624 ≡ (made seed).state)
  unfolding made array_answer arrayed
  making_accepted ws j w =
      let e : first_of (seed_test (length seed) ∷ []) 0 ≡ 0 = j 0 in
      (sym e, rw (w, e))

-- the words of the two loops, from the word that is mixed
module _ (ws : List ℕ) (i : ℕ) {word : ℕ} where
  pub seed_word_mixed : (seed : List ℕ) (j : ℕ) → word ≡ mixed 1664525 ws i → ((word + slice_index seed j) % 2 ^ 32 + j) % 2 ^ 32 ≡ seed_word seed i j ws
  unfolding seed_word
  seed_word_mixed seed j e = rw e (mod-add-mod _ (2 ^ 32) _)

  pub index_word_mixed : i ≤ 2 ^ 32 → word ≡ mixed 1566083941 ws i → (word + (2 ^ 32 - i)) % 2 ^ 32 ≡ index_word i ws
  unfolding index_word
  index_word_mixed h e = rw e (ap (λ (x : ℕ). x % 2 ^ 32) (omega arith))
