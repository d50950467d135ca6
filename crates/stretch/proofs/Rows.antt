-- Rows of key words: one row after another, and the block that one filled state gives.
use Prim.Native.Nat.{ℕ, zero, suc, ◌+◌, ◌-◌, ◌≤◌, ◌<◌, min}
use mathlib.Core.Path.{◌≡◌, refl, sym, ap, ◌∙◌}
use mathlib.Core.List.{List, ◌∷◌, ◌++◌, map, map-append, append_assoc, append-nil}
use native.Mathlib.Nat.{zero-add, suc-add, add-zero}
use native.Mathlib.Numerals.{add-one}
use native.Mathlib.Omega.{arith}
use lib.ListN.{length, take, drop, length-append, length-take, length-drop}
use lib.Seq.{take_at, take_all, length-take-le, drop-length}
use Rattle.rows.specs.Written.{tabulate}
use Rattle.mt19937.specs.Published.{Next, generator, ready, taken, next_of}
use Rattle.stretch.specs.Stretch.{outputs, after, key_word, key_from, key_row}
use Rattle.mt19937.specs.declared.Generator.{Generator}
use Rattle.mt19937.proofs.Laws.{ready_left, next_taken, next_within}

-- a row of outputs and then a row of those that follow are one row
pub outputs_append : (k m : ℕ) (g : Generator) → outputs (k + m) g ≡ outputs k g ++ outputs m (after k g)
unfolding outputs after
outputs_append zero m g = rw zero-add
outputs_append (suc k) m g = rw (suc-add k m) (ap (λ (l : List ℕ). (next_of g).word ∷ l) (outputs_append k m (next_of g).state))

-- so a longer row of key words goes on from the state after its first part
pub row_more : (w n m : ℕ) (g : Generator) → key_row w g (n + m) ≡ key_row w g n ++ key_row w (after n g) m
unfolding key_row
row_more w n m g = ap (map (key_word w)) (outputs_append n m g) ∙ map-append (key_word w) (outputs n g) (outputs m (after n g))

pub after_more : (n m : ℕ) (g : Generator) → after (n + m) g ≡ after m (after n g)
unfolding after
after_more zero m g = rw zero-add
after_more (suc n) m g = rw (suc-add n m) (after_more n m (next_of g).state)

pub row_length : (w n : ℕ) (g : Generator) → length (key_row w g n) ≡ n
unfolding key_row outputs
row_length w zero g = refl
row_length w (suc n) g = ap suc (row_length w n (next_of g).state)

-- a row is known by the state that it is drawn from
pub row_of : (w n : ℕ) {g g' : Generator} {row : List ℕ} → g ≡ g' → row ≡ key_row w g n → row ≡ key_row w g' n
row_of w n e wrote = wrote ∙ ap (λ (x : Generator). key_row w x n) e

-- a row that fills the whole of an old one leaves nothing of it
pub row_whole : (w : ℕ) (g : Generator) (old : List ℕ) → let row = key_row w g (length old) in row ≡ row ++ drop (length row) old
row_whole w g old = sym (rw (row_length w (length old) g, drop-length old) (append-nil (key_row w g (length old))))

-- the k words from a position on, within one filled state
block : (w : ℕ) (ws : List ℕ) (from k : ℕ) → from + k ≤ 624
    → (key_row w (generator ws from) k ≡ tabulate (key_from w ws from) k) × (after k (generator ws from) ≡ generator ws (from + k))
unfolding key_row outputs after tabulate key_from taken
block w ws from zero h = (refl, rw add-zero)
block w ws from (suc k) h =
    let g = generator ws from in
    let b = block w ws from k (omega arith) in
    let n = next_within ws (from + k) (omega arith) in
    let p : from + k + 1 ≡ from + suc k = omega arith in (
      ap (key_row w g) (sym (add-one k)) ∙ row_more w k 1 g ∙ rw (b.0, b.1, n),
      ap (λ (i : ℕ). after i g) (sym (add-one k)) ∙ after_more k 1 g ∙ ap (after 1) b.1 ∙ ap (λ (x : Next). x.state) n ∙ ap (generator ws) p,
    )

-- the k words from any state on, where those words are left once it is ready
block_ready : (w k : ℕ) (g : Generator) (ws : List ℕ) (from : ℕ) → g.at ≤ 624 → generator ws from ≡ ready g → from < 624 → 0 < k → from + k ≤ 624
    → (key_row w g k ≡ tabulate (key_from w ws from) k) × (after k g ≡ generator ws (from + k))
unfolding key_row outputs after
block_ready w zero g ws from h e r p b = absurd (omega arith)
block_ready w (suc k) g ws from h e r p b =
    let n : next_of g ≡ next_of (generator ws from) = next_taken g h ∙ ap taken (sym e) ∙ sym (next_within ws from r) in
    let here = block w ws from (suc k) b in
    (rw n here.0, rw n here.1)

-- before a turn of the loop: the first done places are written, and the state is the one after them
pub record Begun (w : ℕ) (g : Generator) (n : ℕ) (ws : List ℕ) (used : ℕ) (out : List ℕ) (done : ℕ) : Type 0 where
  pub within : done ≤ n
  pub long : length out ≡ n
  pub fit : used ≤ 624
  pub row : take done out ≡ key_row w g done
  pub state : generator ws used ≡ after done g

pub row_none : (w : ℕ) (ws : List ℕ) (used : ℕ) (out : List ℕ) → used ≤ 624 → Begun w (generator ws used) (length out) ws used out 0
unfolding key_row outputs after
row_none w ws used out h = record { within = omega arith; long = refl; fit = h; row = refl; state = refl }

-- one more block, in the form in which a part of a row is lent
pub row_next : (w n from end done used : ℕ) (g : Generator) (ws ws' out part : List ℕ) → done < n
    → generator ws' from ≡ ready (generator ws used) → end ≡ min (done + (624 - from)) n
    → part ≡ tabulate (key_from w ws' from) (length (take (end - done) (drop done out)))
    → Begun w g n ws used out done
    → Begun w g n ws' (from + (end - done)) (take done out ++ (part ++ drop (end - done) (drop done out))) end
row_next w n from end done used g ws ws' out part h e m p b =
    let r = ready_left (generator ws used) b.fit e in
    let k = end - done in
    let whole : done + k ≡ end = omega arith in
    let size : length (take k (drop done out)) ≡ k = simp (length-take, length-drop) (omega arith) in
    let here = block_ready w k (generator ws used) ws' from b.fit e r (omega arith) (omega arith) in
    let words : part ≡ key_row w (after done g) k = p ∙ ap (tabulate (key_from w ws' from)) size ∙ sym here.0 ∙ ap (λ (x : Generator). key_row w x k) b.state in
    let front : length (take done out) ≡ done = length-take-le done out (omega arith) in
    let mid : length part ≡ k = ap length words ∙ row_length w k (after done g) in
    record {
      within = omega arith;
      long = simp (length-append, length-drop) (omega arith);
      fit = omega arith;
      row = take_two (take done out) part (drop k (drop done out)) end (omega arith) ∙ rw (b.row, words) (sym (row_more w done k g) ∙ ap (key_row w g) whole);
      state = sym here.1 ∙ ap (after k) b.state ∙ sym (after_more done k g) ∙ ap (λ (i : ℕ). after i g) whole;
    }
  where
    -- the two first of three parts
    take_two : (a b c : List ℕ) (i : ℕ) → length a + length b ≡ i → take i (a ++ (b ++ c)) ≡ a ++ b
    take_two a b c i e = rw (← append_assoc a b c) (take_at (a ++ b) c i (length-append a b ∙ e))

pub row_all : (w n used done : ℕ) (g : Generator) (ws out : List ℕ) → n ≤ done → Begun w g n ws used out done
    → (out ≡ key_row w g n) × (generator ws used ≡ after n g) × (used ≤ 624)
row_all w n used done g ws out h b =
    let all : done ≡ n = omega arith in
    let row : take done out ≡ out = take_all done out (omega arith) in
    (sym row ∙ b.row ∙ ap (key_row w g) all, b.state ∙ ap (λ (i : ℕ). after i g) all, b.fit)
