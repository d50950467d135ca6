-- The held key words and the pushed ones: how they are joined, what the sums over the joint row give, and the last n of them.
use mathlib.Core.Path.{◌≡◌, refl, sym, ap, ap₂, ◌∙◌}
use mathlib.Core.Bool.{Bool, true, ◌&&◌, and_assoc, and_self}
use mathlib.Core.List.{List, ◌++◌, append_assoc}
use Prim.Native.Nat.{ℕ, ◌+◌, ◌-◌, min, ◌≤◌, ◌<◌}
use native.Mathlib.Omega.{arith}
use lib.ListN.{length, take, drop, length-append, length-take, length-drop, take-append-drop}
use lib.Seq.{take_at, drop_at, take_all, drop-drop, drop-append-le, drop-append-add, length-take-le}
use borrow.Rule.Slice.PartMut.{put_mid}
use Rattle.rows.proofs.Parts.{part_to_end}
use Rattle.theory_counts.specs.Words.{fits}
use Rattle.theory_counts.proofs.Fits.{fits_append}
use Rattle.sum_terms.specs.Sums.{add_sums, checked_sums, tests, checked_fit}
use Rattle.sum_terms.proofs.Summable.{Sums, middle, checked_fit_lem}
use Rattle.sum_terms.proofs.Each.{sums_more, checked_sums_lem, checked_append}
use Rattle.stream.specs.State.{last_words}

-- a row whose first n places and then the next k ones are written
pub two_copies : (n k : ℕ) (held ks zeros one two : List ℕ) → length held ≡ n → k ≡ length ks → one ≡ held → two ≡ ks
    → put_mid n k (one ++ drop n zeros) two ≡ (held ++ ks) ++ drop (n + length ks) zeros
two_copies n k held ks zeros one two len count e₁ e₂ =
    let rest : List ℕ = drop n zeros in
    let after : drop k rest ≡ drop (n + length ks) zeros = drop-drop k n zeros ∙ ap (λ (m : ℕ). drop (n + m) zeros) count in
    rw (e₁, e₂, take_at held rest n len, drop_at held rest n len, after) (sym (append_assoc held ks (drop (n + length ks) zeros)))

-- the last n of the held and then the pushed words start after as many as were pushed
module _ (n : ℕ) (held ks : List ℕ) (len : length held ≡ n) where
  pub last_after : last_words n (held ++ ks) ≡ drop (length ks) (held ++ ks)
  unfolding last_words
  last_after =
      let e : length (held ++ ks) - n ≡ length ks = omega (arith, length-append held ks) in
      ap (λ (m : ℕ). drop m (held ++ ks)) e

  pub length_last : length (last_words n (held ++ ks)) ≡ n
  length_last = ap length last_after ∙ length-drop (length ks) (held ++ ks) ∙ omega (arith, length-append held ks)

  -- a part as long as the held words, or longer, leaves none of them
  pub last_pushed : n ≤ length ks → take (length ks - (length ks - n)) (drop (length ks - n) ks) ≡ last_words n (held ++ ks)
  last_pushed le =
      let e : length held + (length ks - n) ≡ length ks = omega arith in
      part_to_end (length ks) (length ks - n) ks refl
      ∙ sym (drop-append-add held ks (length ks - n))
      ∙ ap (λ (m : ℕ). drop m (held ++ ks)) e
      ∙ sym last_after

  pub last_joint : (joint after : List ℕ) → joint ≡ (held ++ ks) ++ after → take (length ks + n - length ks) (drop (length ks) joint) ≡ last_words n (held ++ ks)
  last_joint joint after e =
      let z : length ks + n - length ks ≡ n = omega arith in
      ap₂ (λ (m : ℕ) (l : List ℕ). take m l) z (ap (drop (length ks)) e ∙ drop-append-le (length ks) (held ++ ks) after (omega (arith, length-append held ks)))
      ∙ take_at (drop (length ks) (held ++ ks)) after n (ap length (sym last_after) ∙ length_last)
      ∙ sym last_after

-- where a push sums: settings in range, and as many pushed key words as message words after the n held ones
pub held_sums_lem : (w n : ℕ) (held ms ks : List ℕ) → 1 ≤ w → w ≤ 32 → 1 ≤ n → n ≤ 8 → length held ≡ n → length ms ≡ length ks → Sums w n (length ms) (length (held ++ ks))
held_sums_lem w n held ms ks some narrow one few len same =
    record { some_width = some; width = narrow; some_words = one; words = few; keys = omega (arith, length-append held ks) }

-- the first words of a row that fits are among its words
fits_whole : (w m : ℕ) (ks : List ℕ) → (fits w (take m ks) && fits w ks) ≡ fits w ks
fits_whole w m ks =
    let first : Bool = fits w (take m ks) in
    let rest : Bool = fits w (drop m ks) in
    let parts : fits w ks ≡ (first && rest) = ap (fits w) (sym (take-append-drop m ks)) ∙ fits_append w (take m ks) (drop m ks) in
    ap (λ (t : Bool). first && t) parts ∙ sym (and_assoc first first rest) ∙ ap (λ (t : Bool). t && rest) (and_self first) ∙ sym parts

-- the first words of a message over the held key words and as many pushed ones, joined, and the rest over the pushed key
module _ (w n first : ℕ) (held ms ks : List ℕ) (len : length held ≡ n) (same : length ms ≡ length ks) (most : first ≡ min n (length ks)) (s : Sums w n (length ms) (length (held ++ ks))) (sums : List ℕ) where
  joined : List ℕ
  joined = held ++ take first ks

  taken : length (take first ms) ≡ first
  taken = length-take-le first ms (omega arith)

  joined_length : length joined ≡ n + first
  unfolding joined
  joined_length = length-append held (take first ks) ∙ omega (arith, length-take-le first ks (omega arith))

  -- the first words reach no further than the joined ones
  joined_reads : (more : List ℕ) → checked_sums w n (take first ms) (joined ++ more) sums ≡ add_sums w (take first ms) joined (take n sums) ++ drop n sums
  joined_reads more =
      checked_sums_lem w n (take first ms) (joined ++ more) sums
      (record { some_width = s.some_width; width = s.width; some_words = s.some_words; words = s.words; keys = omega (arith, taken, joined_length, length-append joined more) })
      ∙ ap (λ (l : List ℕ). l ++ drop n sums) (sums_more w (take first ms) joined more (take n sums) (omega (arith, taken, joined_length, length-take n sums)))

  begun : (joint after : List ℕ) → joint ≡ (held ++ take first ks) ++ after → checked_sums w n (take first ms) joint sums ≡ checked_sums w n (take first ms) (held ++ ks) sums
  unfolding joined
  begun joint after e =
      let over-key : List ℕ → List ℕ = λ (l : List ℕ). checked_sums w n (take first ms) l sums in
      ap over-key e
      ∙ joined_reads after
      ∙ sym (joined_reads (drop first ks))
      ∙ ap over-key (append_assoc held (take first ks) (drop first ks) ∙ ap (λ (l : List ℕ). held ++ l) (take-append-drop first ks))

  -- in the parts that the code lends: what it makes of the sums over the joint row, and then of those over the pushed key
  pub joint_begun : (joint after one : List ℕ) → joint ≡ (held ++ take first ks) ++ after → one ≡ checked_sums w n (take first ms) joint sums → length ks < n → one ≡ checked_sums w n ms (held ++ ks) sums
  joint_begun joint after one e e₁ short = e₁ ∙ begun joint after e ∙ ap (λ (l : List ℕ). checked_sums w n l (held ++ ks) sums) (take_all first ms (omega arith))

  pub joint_sums : (joint after one two : List ℕ)
      → joint ≡ (held ++ take first ks) ++ after
      → one ≡ checked_sums w n (take first ms) joint sums
      → two ≡ checked_sums w n (take (length ms - first) (drop first ms)) ks one
      → n ≤ length ks
      → two ≡ checked_sums w n ms (held ++ ks) sums
  joint_sums joint after one two e e₁ e₂ many =
      let all : length (take first ms) ≡ n = omega (arith, taken) in
      let after-held : drop (length (take first ms)) (held ++ ks) ≡ ks = ap (λ (m : ℕ). drop m (held ++ ks)) all ∙ drop_at held ks n len in
      e₂
      ∙ ap₂ (λ (rest new : List ℕ). checked_sums w n rest ks new) (part_to_end (length ms) first ms refl) (e₁ ∙ begun joint after e)
      ∙ ap (λ (l : List ℕ). checked_sums w n (drop first ms) l (checked_sums w n (take first ms) (held ++ ks) sums)) (sym after-held)
      ∙ checked_append w n (take first ms) (drop first ms) (held ++ ks) sums (rw (take-append-drop first ms) s)
      ∙ ap (λ (l : List ℕ). checked_sums w n l (held ++ ks) sums) (take-append-drop first ms)

  -- the range test over the joint row, and then over the pushed key: of the held words, which fit, nothing is left of it
  module _ (held-fit : fits w held ≡ true) (joint after : List ℕ) (e : joint ≡ (held ++ take first ks) ++ after) {begun : Bool} (e₁ : begun ≡ checked_fit true w n (take first ms) joint) where
    begun_fit : begun ≡ (fits w (take first ms) && fits w (take first ks))
    unfolding tests joined
    begun_fit =
        let read : take (length (take first ms) + n) joint ≡ joined = ap (take (length (take first ms) + n)) e ∙ take_at joined after (length (take first ms) + n) (omega (arith, taken, joined_length)) in
        e₁
        ∙ checked_fit_lem true w n (take first ms) joint
        (record { some_width = s.some_width; width = s.width; some_words = s.some_words; words = s.words; keys = rw e (omega (arith, taken, joined_length, length-append joined after)) })
        ∙ ap (λ (l : List ℕ). fits w (take first ms) && fits w l) read
        ∙ ap (λ (t : Bool). fits w (take first ms) && t) (fits_append w held (take first ks) ∙ ap (λ (t : Bool). t && fits w (take first ks)) held-fit)

    -- a part that is shorter than the held words
    pub short_fit : length ks < n → begun ≡ (fits w ms && fits w ks)
    short_fit short = begun_fit ∙ ap₂ (λ (x y : List ℕ). fits w x && fits w y) (take_all first ms (omega arith)) (take_all first ks (omega arith))

    pub both_fit : {ended : Bool} → n ≤ length ks → ended ≡ checked_fit true w n (take (length ms - first) (drop first ms)) ks → (begun && ended) ≡ (fits w ms && fits w ks)
    unfolding tests
    both_fit many e₂ =
        let rest : List ℕ = drop first ms in
        let all : length rest + n ≡ length ks = omega (arith, length-drop first ms) in
        ap₂ (λ (x y : Bool). x && y) begun_fit
        (e₂
        ∙ ap (λ (l : List ℕ). checked_fit true w n l ks) (part_to_end (length ms) first ms refl)
        ∙ checked_fit_lem true w n rest ks (record { some_width = s.some_width; width = s.width; some_words = s.some_words; words = s.words; keys = omega arith })
        ∙ ap (λ (l : List ℕ). fits w rest && fits w l) (take_all (length rest + n) ks (omega arith)))
        ∙ middle (fits w (take first ms)) (fits w (take first ks)) (fits w rest) (fits w ks)
        ∙ ap₂ (λ (x y : Bool). x && y) (sym (fits_append w (take first ms) rest) ∙ ap (fits w) (take-append-drop first ms)) (fits_whole w first ks)
