-- Tests in a row, each with what it gives: the first that refuses is the answer, and where none does the call has passed.
use mathlib.Core.Path.{◌≡◌, refl, sym, ap, subst, ◌∙◌}
use mathlib.Core.Bool.{Bool, true, false, not, ◌&&◌, ◌||◌, cond}
use mathlib.Core.Logic.{◌⊎◌, inl, inr}
use mathlib.Core.List.{List, [], ◌∷◌, ◌++◌}
use Prim.Native.Nat.{ℕ, ◌+◌, ◌≤◌, ◌<◌}
use native.Mathlib.Omega.{arith}
use native.Mathlib.Decide.{ℕ_discrete}
use lib.Dec.{ltb, eqb}
use borrow.Author.Tests.{eq-eqb, ne_eqb, lt-ltb, le-ltb}
use Rattle.std.specs.Prelude.{Result, Ok, Err, IsErrAnd, IfOk, is_err, is_ok}
use Rattle.std.specs.Result.{result_unwrap_or}
use Rattle.answers.specs.declared.Refusal.{Refusal}
use Rattle.answers.specs.declared.Refusal.TheVariants.{State, Width, Digits, Seed, Kept, Count, Peers, Long, Key, Place, Tray, Word}
use Rattle.answers.specs.Answers.{Test, test, first_of, Validates, state_after, afterwards}
use Rattle.answers.proofs.Rows.{refused}
use Rattle.answers.proofs.States.{state_refused}
use Rattle.answers.proofs.Validation as validation
use Rattle.answers.specs.declared.Verdict.{Verdict}
use Rattle.answers.specs.Refusals.{number, answer_of, match_answer_of}

pub some_number : (refusal : Refusal) → number refusal ≡ 0 → ⊥
some_number State e = omega arith
some_number Width e = omega arith
some_number Digits e = omega arith
some_number Seed e = omega arith
some_number Kept e = omega arith
some_number Count e = omega arith
some_number Peers e = omega arith
some_number Long e = omega arith
some_number Key e = omega arith
some_number Place e = omega arith
some_number Tray e = omega arith
some_number Word e = omega arith

-- one row of the table, by whether its condition holds
module _ (refusal : Refusal) {holds : Bool} where
  pub refuses : holds ≡ true → Validates (test (number refusal) holds ∷ []) (number refusal)
  unfolding first_of
  refuses e later = rw e (sym (rw (ne_eqb (number refusal) 0 (some_number refusal)) refl))

  pub lets_pass : holds ≡ false → Validates (test (number refusal) holds ∷ []) 0
  unfolding first_of
  lets_pass e later = rw e refl

-- the first test refuses: so do all of them
pub first_stops : (t : Test) (ts : List Test) (refusal : Refusal) → Validates (t ∷ []) (number refusal) → Validates (t ∷ ts) (number refusal)
unfolding first_of
first_stops t ts refusal j later = go t.holds (j 0) (j later)
  where
    none : eqb (number refusal) 0 ≡ false
    none = ne_eqb (number refusal) 0 (some_number refusal)

    go : (h : Bool) → cond h t.number 0 ≡ cond (eqb (number refusal) 0) 0 (number refusal) → cond h t.number later ≡ cond (eqb (number refusal) 0) later (number refusal)
        → cond h t.number (first_of ts later) ≡ cond (eqb (number refusal) 0) later (number refusal)
    go true e₀ e = e
    go false e₀ e = absurd (some_number refusal (sym (e₀ ∙ ap (λ (x : Bool). cond x 0 (number refusal)) none)))

-- the first test lets the call pass: the rest decide, by a refusal or by what comes of them
pub rest_decides : (t : Test) (ts : List Test) (r : ℕ) → Validates (t ∷ []) 0 → Validates ts r → Validates (t ∷ ts) r
unfolding first_of
rest_decides t ts r j rest later = j (first_of ts later) ∙ rest later

pub later_stops : (t : Test) (ts : List Test) (refusal : Refusal) → Validates (t ∷ []) 0 → Validates ts (number refusal) → Validates (t ∷ ts) (number refusal)
later_stops t ts refusal = rest_decides t ts (number refusal)

pub last_decides : (t : Test) (ts : List Test) (r : Result Unit Refusal) → Validates (t ∷ []) 0 → Validates ts (answer_of r) → Validates (t ∷ ts) (answer_of r)
last_decides t ts r = rest_decides t ts (answer_of r)

pub nothing_refuses : Validates [] 0
unfolding first_of
nothing_refuses later = refl

-- one row alone, by whether its condition holds
module _ (n : ℕ) {h : Bool} (later : ℕ) where
  pub row_stops : h ≡ true → first_of (test n h ∷ []) later ≡ n
  unfolding first_of
  row_stops e = rw e

  pub row_passes : h ≡ false → first_of (test n h ∷ []) later ≡ later
  unfolding first_of
  row_passes e = rw e

-- a number below a range, above it, in it
module _ (x low high : ℕ) where
  pub below_range : x < low → (ltb x low || ltb high x) ≡ true
  below_range h = rw (lt-ltb x low h)

  pub above_range : low ≤ x → high < x → (ltb x low || ltb high x) ≡ true
  above_range k h = rw (le-ltb x low k, lt-ltb high x h)

  pub in_range : low ≤ x → x ≤ high → (ltb x low || ltb high x) ≡ false
  in_range h k = rw (le-ltb x low h, le-ltb high x k)

-- a number that is one of three, or none of them
pub one_of_three : (a b c x : ℕ) → (x ≡ a) ⊎ ((x ≡ b) ⊎ (x ≡ c)) → not (eqb x a || eqb x b || eqb x c) ≡ false
one_of_three a b c x (inl e) = rw (eq-eqb x a e)
one_of_three a b c x (inr (inl e)) = go (eqb x a) (eqb x b) (eqb x c) (eq-eqb x b e)
  where
    go : (p q r : Bool) → q ≡ true → not (p || q || r) ≡ false
    go true q r e = refl
    go false q r e = rw e
one_of_three a b c x (inr (inr e)) = go (eqb x a) (eqb x b) (eqb x c) (eq-eqb x c e)
  where
    go : (p q r : Bool) → r ≡ true → not (p || q || r) ≡ false
    go true q r e = refl
    go false true r e = refl
    go false false r e = rw e

pub none_of_three : (a b c x : ℕ) → (x ≡ a → ⊥) → (x ≡ b → ⊥) → (x ≡ c → ⊥) → not (eqb x a || eqb x b || eqb x c) ≡ true
none_of_three a b c x na nb nc = rw (ne_eqb x a na, ne_eqb x b nb, ne_eqb x c nc)

pub ruleset row_of_numbers = (row_stops, row_passes, one_of_three, none_of_three)

pub ruleset row_of_a_range = (row_stops, row_passes, below_range, above_range, in_range)

-- what `?` hands on is the refusal that came
pub handed_on : {A : Type 0} (ts : List Test) (r : Result A Refusal) (refusal : Refusal) → IsErrAnd r (λ e. e ≡ refusal) → Validates ts (number refusal) → Validates ts (answer_of r)
handed_on ts (Ok value) refusal (is) j = absurd is
handed_on ts (Err e) refusal is j = subst (λ (x : Refusal). Validates ts (number x)) (sym is) j

-- a row of two conditions, one check after the other: either holds, or one of two things does not
module _ (n : ℕ) (a b : Bool) where
  pub either_stops : (refusal : Refusal) → Validates (test n a ∷ []) (number refusal) → Validates (test n (a || b) ∷ []) (number refusal)
  unfolding first_of
  either_stops refusal j later = go a (j 0) (j later)
    where
      go : (h : Bool) → cond h n 0 ≡ cond (eqb (number refusal) 0) 0 (number refusal) → cond h n later ≡ cond (eqb (number refusal) 0) later (number refusal)
          → cond (h || b) n later ≡ cond (eqb (number refusal) 0) later (number refusal)
      go true e₀ e = e
      go false e₀ e = absurd (some_number refusal (sym (e₀ ∙ ap (λ (x : Bool). cond x 0 (number refusal)) (ne_eqb (number refusal) 0 (some_number refusal)))))

  pub other_decides : (r : ℕ) → Validates (test n a ∷ []) 0 → Validates (test n b ∷ []) r → Validates (test n (a || b) ∷ []) r
  unfolding first_of
  other_decides r j k later = go a (j 1) (j 2) (k later)
    where
      go : (h : Bool) → cond h n 1 ≡ 1 → cond h n 2 ≡ 2 → cond b n later ≡ cond (eqb r 0) later r → cond (h || b) n later ≡ cond (eqb r 0) later r
      go true e₁ e₂ e = absurd (omega arith)
      go false e₁ e₂ e = e

pub not_both : (a b : Bool) → (not a || not b) ≡ not (a && b)
not_both true b = refl
not_both false b = refl

module _ (n : ℕ) (a b : Bool) where
  pub first_fails : (refusal : Refusal) → Validates (test n (not a) ∷ []) (number refusal) → Validates (test n (not (a && b)) ∷ []) (number refusal)
  first_fails refusal j = subst (λ (h : Bool). Validates (test n h ∷ []) (number refusal)) (not_both a b) (either_stops n (not a) (not b) refusal j)

  pub second_decides : (r : ℕ) → Validates (test n (not a) ∷ []) 0 → Validates (test n (not b) ∷ []) r → Validates (test n (not (a && b)) ∷ []) r
  second_decides r j k = subst (λ (h : Bool). Validates (test n h ∷ []) r) (not_both a b) (other_decides n (not a) (not b) r j k)

-- for a function that checks in a row
pub ruleset checks = (handed_on, first_stops, rest_decides, nothing_refuses, either_stops, other_decides, first_fails, second_decides)

-- whether a row refuses is whether its condition holds
pub refuses_where : (n : ℕ) (h : Bool) (r : Result Unit Refusal) → Validates (test n h ∷ []) (answer_of r) → is_err r ≡ h
unfolding first_of
refuses_where n true (Ok value) j = absurd (omega (arith, j 0, j (1 + n)))
refuses_where n false (Ok value) j = refl
refuses_where n true (Err e) j = refl
refuses_where n false (Err e) j = absurd (some_number e (sym (j 0 ∙ ap (λ (x : Bool). cond x 0 (number e)) (ne_eqb (number e) 0 (some_number e)))))

-- what `?` hands on, by its number: of a call, and of a match
pub number_handed_on : {A : Type 0} (r : Result A Refusal) (refusal : Refusal) (answer : ℕ) → IsErrAnd r (λ e. e ≡ refusal) → number refusal ≡ answer → answer_of r ≡ answer
number_handed_on (Ok value) refusal answer (is) e = absurd is
number_handed_on (Err other) refusal answer is e = ap number is ∙ e

pub match_handed_on : (r : Result Verdict Refusal) (refusal : Refusal) (answer : ℕ) → IsErrAnd r (λ e. e ≡ refusal) → number refusal ≡ answer → match_answer_of r ≡ answer
match_handed_on (Ok value) refusal answer (is) e = absurd is
match_handed_on (Err other) refusal answer is e = ap number is ∙ e

-- a refusal by the first tests is the answer, whatever comes later
pub stands : (ts : List Test) (refusal : Refusal) (later : ℕ) → Validates ts (number refusal) → number refusal ≡ first_of ts later
stands ts refusal later j = sym (j later ∙ ap (λ (t : Bool). cond t later (number refusal)) (ne_eqb (number refusal) 0 (some_number refusal)))

-- a condition that is known by another name
pub told : (n : ℕ) (h k : Bool) (r : ℕ) → h ≡ k → Validates (test n h ∷ []) r → Validates (test n k ∷ []) r
told n h k r e j = subst (λ (x : Bool). Validates (test n x ∷ []) r) e j

-- a row that let the call pass: its condition does not hold
pub row_passed : (n : ℕ) (h : Bool) → Validates (test n h ∷ []) 0 → h ≡ false
unfolding first_of
row_passed n true j = absurd (omega (arith, j 0, j (1 + n)))
row_passed n false j = refl

-- a call passes where its answer is 0
pub says_ok : {A : Type 0} (r : Result A Refusal) → is_ok r ≡ eqb (answer_of r) 0
says_ok (Ok value) = refl
says_ok (Err e) = sym (ne_eqb (number e) 0 (some_number e))

-- what `?` hands on has the number of the refusal that came
pub same_refusal : {A : Type 0} (r : Result A Refusal) (refusal : Refusal) → IsErrAnd r (λ e. e ≡ refusal) → answer_of r ≡ number refusal
same_refusal (Ok value) refusal (is) = absurd is
same_refusal (Err e) refusal is = ap number is

-- whether a row lets a call pass is whether its condition does not hold
pub says_not : (n : ℕ) (h : Bool) (r : Result Unit Refusal) → Validates (test n h ∷ []) (answer_of r) → is_ok r ≡ not h
says_not n h (Ok value) j = ap not (refuses_where n h (Ok value) j)
says_not n h (Err e) j = ap not (refuses_where n h (Err e) j)

-- tests that nothing follows: the answer is what they make of the call
pub states_all : (ts : List Test) (r : ℕ) → Validates ts r → r ≡ first_of ts 0
states_all ts r j = sym (j 0 ∙ zero (ℕ_discrete r 0))
  where
    zero : Dec (r ≡ 0) → cond (eqb r 0) 0 r ≡ r
    zero (yes e) = rw e refl
    zero (no ne) = rw (ne_eqb r 0 ne) refl

-- tests in two lists, the first of which let the call pass
pub states_later : (xs ys : List Test) (r : Result Unit Refusal) → Validates xs 0 → Validates ys (answer_of r) → Validates (xs ++ ys) (answer_of r)
states_later xs ys r j k later = validation.second_decides xs ys j refl later (k later)

-- r is what `?` handed on of a call with this answer
module _ {A : Type 0} (r : Result A Refusal) (refusal : Refusal) (is : IsErrAnd r (λ e. e ≡ refusal)) {answer : ℕ} (same : number refusal ≡ answer) where
  answered : answer_of r ≡ answer
  answered = same_refusal r refusal is ∙ same

  refuses_it : answer_of r ≡ 0 → ⊥
  refuses_it z = some_number refusal (sym (same_refusal r refusal is) ∙ z)

  -- a state and a lent row stay as they were
  pub state_stays : {S : Type 0} (new old : S) → (answer_of r ≡ answer) × (old ≡ state_after answer new old)
  state_stays new old = state_refused new old answered refuses_it

  pub slice_stays : (words old : List ℕ) → (answer_of r ≡ answer) × (old ≡ afterwards answer words old)
  slice_stays words old = refused words old answered refuses_it

-- a refusal gives no value
pub still_none : {A : Type 0} (r : Result A Refusal) (refusal : Refusal) → IsErrAnd r (λ e. e ≡ refusal) → (d : A) → result_unwrap_or r d ≡ d
still_none (Ok value) refusal (is) d = absurd is
still_none (Err e) refusal is d = refl

-- any fact of a value, where `?` handed a refusal on
pub still_vacuous : {A : Type 0} (P : A → Type 0) (r : Result A Refusal) (refusal : Refusal) → IsErrAnd r (λ e. e ≡ refusal) → IfOk r P
still_vacuous P (Ok value) refusal (is) = absurd is
still_vacuous P (Err e) refusal is = tt
