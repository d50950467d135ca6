-- Laws of steps made in place, and of one next.
use Rattle.std.proofs.Common.{◌≡◌, ℕ, ◌+◌, ◌<◌, ◌≤◌, Bool, true, false, cond, eqb, List, sym, refl, ap, ◌∙◌, subst, add-one, arith, eq-eqb, ne_eqb, le-leb}
use borrow.Author.Tests.{lt-leb, eqb-false}
use Rattle.answers.specs.Answers.{first_of}
use Rattle.mt19937.specs.Published.{steps, generator, refill, ready, taken, next_answer, next_of}
use Rattle.mt19937.specs.declared.Generator.{Generator}

-- the first run of steps starts at the words themselves
pub steps_none : (f : ℕ → List ℕ → List ℕ) (ws : List ℕ) → ws ≡ steps f 0 ws
unfolding steps
steps_none f ws = refl

pub steps_next : (f : ℕ → List ℕ → List ℕ) (n : ℕ) (ws : List ℕ) → steps f (n + 1) ws ≡ f n (steps f n ws)
unfolding steps
steps_next f n ws = rw add-one

-- a state at position 624 is refilled, another is not
pub ready_used : (ws : List ℕ) (at : ℕ) → at ≡ 624 → generator (refill ws) 0 ≡ ready (generator ws at)
unfolding ready
ready_used ws at e = rw (eq-eqb at 624 e)

pub ready_other : (ws : List ℕ) (at : ℕ) → (at ≡ 624 → ⊥) → generator ws at ≡ ready (generator ws at)
unfolding ready
ready_other ws at ne = rw (ne_eqb at 624 ne)

-- a state that is ready has a word left
pub ready_left : (g : Generator) {ws : List ℕ} {at : ℕ} → g.at ≤ 624 → generator ws at ≡ ready g → at < 624
unfolding ready
ready_left g {ws} {at} h e = subst (λ (x : Generator). x.at < 624) (sym e) (go (eqb g.at 624) refl)
  where
    go : (used : Bool) → eqb g.at 624 ≡ used → (cond used (generator (refill g.words) 0) g).at < 624
    go true t = omega arith
    go false t = let ne = eqb-false g.at 624 t in omega arith

-- a next from a position above 624 is refused, from another it takes the word
pub next_refused : (g : Generator) → 624 < g.at → record { answer = 8; word = 0; state = g } ≡ next_of g
unfolding next_of next_answer first_of
next_refused g h = rw (lt-leb g.at 624 h)

pub next_taken : (g : Generator) → g.at ≤ 624 → next_of g ≡ taken (ready g)
unfolding next_of next_answer first_of
next_taken g h = rw (le-leb g.at 624 h)

pub next_within : (ws : List ℕ) (at : ℕ) → at < 624 → next_of (generator ws at) ≡ taken (generator ws at)
next_within ws at h = next_taken (generator ws at) (omega arith) ∙ sym (ap taken (ready_other ws at (omega arith)))
