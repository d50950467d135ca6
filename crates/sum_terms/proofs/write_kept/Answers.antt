-- `sum_terms::write_kept` meets its contract: all eight sums kept, and the first n of them written.
use Rattle.std.proofs.Common.{◌≡◌, ℕ, suc, zero, ◌+◌, ◌<◌, ◌≤◌, min, List, length, map, get_or, sym, ap, ◌∙◌, subst, arith, rules}
use native.Mathlib.Decide.{dec_lt}
use denote.Param.Members.{Mut, Called}
use Rattle.std.specs.Array.{MapsFrom}
use Rattle.std.proofs.lemmas.Grind.{same_number_lists}
use Rattle.std.proofs.lemmas.List.{get_or-map, length-map, take-map, take_min}
use Rattle.rows.specs.Written.{over}
use Rattle.theory_digest.specs.Digest.{kept}
use Rattle.sum_terms.proofs.write_kept.Goals as goal

-- calls that leave the closure as it is map each element
mapped : {F : Type 0} (g : Mut F (ℕ × Unit {0}) ℕ) (h : ℕ → ℕ) (f : F)
    → ((x y : ℕ) (q : F) → Called g f (x, tt) y q → (y ≡ h x) × (q ≡ f))
    → (xs ys : List ℕ) (n i : ℕ) → MapsFrom g f xs ys i n
    → (k : ℕ) → i ≤ k → k < i + n → get_or ys k 0 ≡ h (get_or xs k 0)
mapped g h f same xs ys zero i m k le lt = absurd (omega arith)
mapped {F} g h f same xs ys (suc n) i m k le lt =
    let told = same m.1 m.2 m.0 m.5 in
    let rest : MapsFrom g f xs ys (i + 1) n = subst (λ (q : F). MapsFrom g q xs ys (i + 1) n) told.1 m.6 in
    let here : get_or ys i 0 ≡ h (get_or xs i 0) = m.4.1 0 ∙ told.0 ∙ ap h (sym (m.3.1 0)) in
    elim (dec_lt i k) [
      | yes later ↦ mapped g h f same xs ys n (i + 1) rest k (omega arith) (omega arith)
      | no first ↦ let e : k ≡ i = omega arith in rw e here
    ]

pub returns : goal.returns
returns c =
    let a = c.args in
    let items = c.map-words.ensures.items in
    let eight : length a.sums ≡ 8 = search rules in
    let all : c.map-words.result ≡ map (kept a.b) a.sums =
    same_number_lists _ _ (items.long ∙ sym eight ∙ sym (length-map a.sums (kept a.b))) (λ k lt.
    let below : k < 8 = omega (arith, items.long) in
    mapped _ (kept a.b) _ (λ x y q k. search rules) a.sums c.map-words.result 8 0 items.each k (omega arith) below
    ∙ sym (get_or-map (kept a.b) a.sums k 0 0 (omega arith))) in
    let few : min a.n 8 ≡ min a.n (length a.sums) = ap (min a.n) (sym eight) in
    c.copy.ensures
    ∙ rw (all, c.min.ensures, few) (ap (λ (l : List ℕ). over l a.row.now) (take-map (kept a.b) _ a.sums ∙ ap (map (kept a.b)) (take_min a.n a.sums)))
