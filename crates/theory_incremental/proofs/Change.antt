-- One word of a message replaced by another: what becomes of n sums, of every one of them and of one.
-- Assumes nothing.
use mathlib.Core.Path.{◌≡◌, refl, sym, ap, ap₂, ◌∙◌}
use mathlib.Core.Bool.{true}
use mathlib.Core.Logic.{◌⊎◌, inl, inr, ⊎_elim}
use mathlib.Core.List.{List, [], ◌∷◌}
use Prim.Native.Nat.{ℕ, suc, ◌+◌, ◌*◌, ◌-◌, ◌/◌, ◌%◌, ◌^◌, ◌≤◌, ◌<◌}
use native.Mathlib.Nat.{add-zero, add-mul, mul-add, mod-lt, add-mod-mod, div-add-mod, mul-add-div, div-eq_of_lt, div-eq-sub-div}
use native.Mathlib.Decide.{dec_lt}
use native.Mathlib.Omega.{arith}
use lib.Pow.{pow_pos}
use lib.ListN.{length, get_or, set, take, drop, replicate}
use lib.Seq.{length-take-le, set_split, set-get_or}
use Rattle.theory_counts.specs.Words.{fits}
use Rattle.theory_digest.specs.Digest.{whole_sum, one_word, full_words}
use Rattle.theory_digest.proofs.Laws.{sum_reads}
use Rattle.sum_terms.specs.Sums.{add_sums, lack, subtract_sums}
use Rattle.sum_terms.proofs.Changes.{changed, changed_at, changed_reads, changed_twice}
use Rattle.sum_terms.proofs.Each.{sums_changed, sums_append, sums_zero, sums_fit}
use Rattle.sum_terms.proofs.Orders.{lack_fills, lacking, less_changed, sums_commute, less_commute, added_back, taken_off}
use Rattle.incremental.specs.State.{edit_sums}
use Rattle.incremental.proofs.Made.{length_edit}
use Rattle.theory_incremental.specs.Claims.{plus}

-- any sums
module _ (w old word : ℕ) (ks sums : List ℕ) where
  pub edit_fits : fits w (edit_sums w old word ks sums) ≡ true
  unfolding edit_sums
  edit_fits = sums_fit w (word ∷ []) ks (subtract_sums w (old ∷ []) ks sums)

  -- each sum gets what the old word's lacks and the new word's, in one
  pub edit_changed : edit_sums w old word ks sums ≡ changed w (λ l. lacking w (old ∷ []) l + whole_sum w (word ∷ []) l) ks sums
  unfolding edit_sums
  edit_changed =
      sums_changed w (word ∷ []) ks (subtract_sums w (old ∷ []) ks sums)
      ∙ ap (changed w (whole_sum w (word ∷ [])) ks) (less_changed w (old ∷ []) ks sums)
      ∙ changed_twice w (whole_sum w (word ∷ [])) (lacking w (old ∷ [])) ks sums

  -- a message added before an edit or after it
  pub edit_commute : (ms keys : List ℕ) → add_sums w ms keys (edit_sums w old word ks sums) ≡ edit_sums w old word ks (add_sums w ms keys sums)
  unfolding edit_sums
  edit_commute ms keys =
      sums_commute w ms (word ∷ []) keys ks (subtract_sums w (old ∷ []) ks sums)
      ∙ ap (add_sums w (word ∷ []) ks) (sym (less_commute w (old ∷ []) ms ks keys sums))

-- a word replaced by itself
pub edit_same : (w word : ℕ) (ks sums : List ℕ) → fits w sums ≡ true → edit_sums w word word ks sums ≡ sums
unfolding edit_sums
edit_same w word ks sums fit = added_back w (word ∷ []) ks sums fit

-- the sums read one key word more than they are
pub edit_reads : (w old word : ℕ) (ks sums : List ℕ) → edit_sums w old word (take (suc (length sums)) ks) sums ≡ edit_sums w old word ks sums
edit_reads w old word ks sums =
    edit_changed w old word (take (suc (length sums)) ks) sums
    ∙ changed_reads w (λ l. lacking w (old ∷ []) l + whole_sum w (word ∷ []) l)
    (λ l. ap₂ (λ (x y : ℕ). lack w x + y) (sum_reads w (old ∷ []) l) (sum_reads w (word ∷ []) l)) ks sums
    ∙ sym (edit_changed w old word ks sums)

-- a message with any word at a place: that word's sums over those of the words before and after it
module _ (w : ℕ) (ms ks sums : List ℕ) (place : ℕ) (inside : place < length ms) where
  others : List ℕ
  others = add_sums w (drop (suc place) ms) (drop 1 (drop place ks)) (add_sums w (take place ms) ks sums)

  with_word : (word : ℕ) → add_sums w (set ms place word) ks sums ≡ add_sums w (word ∷ []) (drop place ks) others
  unfolding others
  with_word word =
      let before : List ℕ = take place ms in
      let after : List ℕ = drop (suc place) ms in
      let so_far : List ℕ = add_sums w before ks sums in
      ap (λ (l : List ℕ). add_sums w l ks sums) (set_split ms place word inside)
      ∙ sym (sums_append w before (word ∷ after) ks sums)
      ∙ ap (λ (m : ℕ). add_sums w (word ∷ after) (drop m ks) so_far) (length-take-le place ms (omega arith))
      ∙ sym (sums_append w (word ∷ []) after (drop place ks) so_far)
      ∙ sums_commute w after (word ∷ []) (drop 1 (drop place ks)) (drop place ks) so_far

  -- what the message added becomes what the edited message adds
  pub added_edited : (word : ℕ) → edit_sums w (get_or ms place 0) word (drop place ks) (add_sums w ms ks sums) ≡ add_sums w (set ms place word) ks sums
  unfolding edit_sums others
  added_edited word =
      let old : ℕ = get_or ms place 0 in
      let key : List ℕ = drop place ks in
      let there : add_sums w ms ks sums ≡ add_sums w (old ∷ []) key others = ap (λ (l : List ℕ). add_sums w l ks sums) (sym (set-get_or ms place 0)) ∙ with_word old in
      ap (λ (l : List ℕ). add_sums w (word ∷ []) key (subtract_sums w (old ∷ []) key l)) there
      ∙ ap (add_sums w (word ∷ []) key) (taken_off w (old ∷ []) key others (sums_fit w (drop (suc place) ms) (drop 1 key) (add_sums w (take place ms) ks sums)))
      ∙ sym (with_word word)

-- the message's full-width words become the edited message's
pub full_edited : (w n : ℕ) (ms ks : List ℕ) (place word : ℕ) → place < length ms
    → edit_sums w (get_or ms place 0) word (drop place ks) (full_words w n ms ks) ≡ full_words w n (set ms place word) ks
full_edited w n ms ks place word inside =
    ap (edit_sums w (get_or ms place 0) word (drop place ks)) (sym (sums_zero w n ms ks))
    ∙ added_edited w ms ks (replicate n 0) place inside word
    ∙ sums_zero w n (set ms place word) ks

-- as many full-width words as there are sums
plus_full : (w : ℕ) (ms ks sums : List ℕ) → plus w sums (full_words w (length sums) ms ks) ≡ add_sums w ms ks sums
unfolding plus full_words one_word add_sums
plus_full w ms ks [] = refl
plus_full w ms ks (s ∷ sums) = ap₂ (λ (x : ℕ) (xs : List ℕ). x ∷ xs) (add-mod-mod s (whole_sum w ms ks) (2 ^ w)) (plus_full w ms (drop 1 ks) sums)

-- any sums are changed as the digest is
pub sums_change : (w n : ℕ) (ms ks sums : List ℕ) (place word : ℕ) → place < length ms → length sums ≡ n
    → plus w (edit_sums w (get_or ms place 0) word (drop place ks) sums) (full_words w n ms ks) ≡ plus w sums (full_words w n (set ms place word) ks)
sums_change w n ms ks sums place word inside len =
    let old : ℕ = get_or ms place 0 in
    let after : List ℕ = edit_sums w old word (drop place ks) sums in
    ap (λ (m : ℕ). plus w after (full_words w m ms ks)) (sym (length_edit w old word (drop place ks) sums ∙ len))
    ∙ plus_full w ms ks after
    ∙ edit_commute w old word (drop place ks) sums ms ks
    ∙ added_edited w ms ks sums place inside word
    ∙ sym (plus_full w (set ms place word) ks sums)
    ∙ ap (λ (m : ℕ). plus w sums (full_words w m (set ms place word) ks)) len

-- what one word gives to a sum
abbrev pub share : ℕ → ℕ → List ℕ → ℕ
share w word ks = word * get_or ks 0 0 + word * get_or ks 1 0 / 2 ^ w

-- each sum has the key from its own place on
pub edit_at : (w old word i : ℕ) (ks sums : List ℕ) → i < length sums
    → get_or (edit_sums w old word ks sums) i 0 ≡ (get_or sums i 0 + (lack w (share w old (drop i ks)) + share w word (drop i ks))) % 2 ^ w
unfolding whole_sum
edit_at w old word i ks sums lt =
    let one : (x : ℕ) → whole_sum w (x ∷ []) (drop i ks) ≡ share w x (drop i ks) = λ x. add-zero (share w x (drop i ks)) in
    ap (λ (l : List ℕ). get_or l i 0) (edit_changed w old word ks sums)
    ∙ changed_at w (λ l. lacking w (old ∷ []) l + whole_sum w (word ∷ []) l) i ks sums lt
    ∙ ap₂ (λ (x y : ℕ). (get_or sums i 0 + (lack w x + y)) % 2 ^ w) (one old) (one word)

-- a sum's quotient is the sum of the quotients, or one more
quotients : (M x y : ℕ) → 0 < M → ((x + y) / M ≡ x / M + y / M) ⊎ ((x + y) / M ≡ suc (x / M + y / M))
quotients M x y pos = go (dec_lt (x % M + y % M) M)
  where
    quotient : (x + y) / M ≡ x / M + y / M + (x % M + y % M) / M
    quotient =
        let whole : x + y ≡ M * (x / M + y / M) + (x % M + y % M) = omega (arith, div-add-mod x M, div-add-mod y M, mul-add M (x / M) (y / M)) in
        ap (λ (z : ℕ). z / M) whole ∙ mul-add-div pos (x / M + y / M) (x % M + y % M)

    go : Dec (x % M + y % M < M) → ((x + y) / M ≡ x / M + y / M) ⊎ ((x + y) / M ≡ suc (x / M + y / M))
    go (yes lt) = inl (omega (arith, quotient, div-eq_of_lt lt))
    go (no ge) =
        let most : M ≤ x % M + y % M = omega arith in
        let rest : x % M + y % M - M < M = omega (arith, mod-lt x pos, mod-lt y pos) in
        inr (omega (arith, quotient, div-eq-sub-div pos most, div-eq_of_lt rest))

module _ (w m c : ℕ) (ks : List ℕ) where
  -- a raised word gives what the word gave and the raise gives, or one more
  shares : (share w (m + c) ks ≡ share w c ks + share w m ks) ⊎ (share w (m + c) ks ≡ suc (share w c ks) + share w m ks)
  shares =
      let k : ℕ = get_or ks 0 0 in
      let k' : ℕ = get_or ks 1 0 in
      let high : (m + c) * k' / 2 ^ w ≡ (m * k' + c * k') / 2 ^ w = ap (λ (z : ℕ). z / 2 ^ w) (add-mul m c k') in
      ⊎_elim
      (λ q. inl (omega (arith, high, q, add-mul m c k)))
      (λ q. inr (omega (arith, high, q, add-mul m c k)))
      (quotients (2 ^ w) (m * k') (c * k') (pow_pos w))

  -- the old word's share, in the new one's, is filled up to a multiple of 2^w
  taken : (s r : ℕ) → share w (m + c) ks ≡ r + share w m ks → (s + (lack w (share w m ks) + share w (m + c) ks)) % 2 ^ w ≡ (s + r) % 2 ^ w
  taken s r e =
      let x : ℕ = share w m ks in
      let order : s + (lack w x + share w (m + c) ks) ≡ s + r + (x + lack w x) = omega (arith, e) in
      ap (λ (z : ℕ). z % 2 ^ w) order
      ∙ sym (add-mod-mod (s + r) (x + lack w x) (2 ^ w))
      ∙ ap (λ (z : ℕ). (s + r + z) % 2 ^ w) (lack_fills w x)
      ∙ ap (λ (z : ℕ). z % 2 ^ w) (add-zero (s + r))

  -- a sum whose word is raised
  pub raised : (s : ℕ)
      → ((s + (lack w (share w m ks) + share w (m + c) ks)) % 2 ^ w ≡ (s + share w c ks) % 2 ^ w)
      ⊎ ((s + (lack w (share w m ks) + share w (m + c) ks)) % 2 ^ w ≡ (s + suc (share w c ks)) % 2 ^ w)
  raised s = ⊎_elim (λ e. inl (taken s (share w c ks) e)) (λ e. inr (taken s (suc (share w c ks)) e)) shares
