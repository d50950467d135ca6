-- Words in blocks: all but the last have their bytes in the message, a block's words are the message's, and its sums go on from those before.
use mathlib.Core.Path.{◌≡◌, refl, sym, ap, ap₂, ◌∙◌}
use mathlib.Core.Bool.{Bool, true, false, ◌&&◌}
use mathlib.Core.List.{List, [], ◌∷◌, ◌++◌}
use Prim.Native.Nat.{ℕ, zero, suc, ◌+◌, ◌-◌, ◌*◌, ◌/◌, min, ◌≤◌, ◌<◌}
use native.Mathlib.Nat.{zero-mul, suc-mul, mul-le-mul_right, add-mul}
use native.Mathlib.Decide.{dec_le}
use native.Mathlib.Omega.{arith}
use lib.ListN.{length, get_or, set, take, drop, length-drop, drop_of_length-le}
use lib.Seq.{length-take-le, drop-cons, set_at}
use Rattle.rows.proofs.Parts.{part_to_end}
use Rattle.sum_terms.specs.Sums.{checked_sums, checked_fit}
use Rattle.sum_terms.proofs.Summable.{Sums, checked_fit_append}
use Rattle.sum_terms.proofs.Each.{checked_append}
use Rattle.sum_bytes.specs.Bytes.{little_endian, words_from, closed, sums_from, fit_from}
use Rattle.sum_bytes.proofs.Closing.{closed_length, closed_drop}
use Rattle.sum_bytes.proofs.Words.{full_there, little_filled, words_front, words_length, words_append}

-- words whose bytes are all the message's own
pub whole_words : (c t : ℕ) (xs : List ℕ) → t * c ≤ length xs → words_from c t xs ≡ words_from c t (closed xs)
unfolding closed
whole_words c t xs there = sym (words_front c t xs (0x80 ∷ []) there)

-- a row that may have one place more than the message has full words: as many of them as it has places for
module _ (c size full n : ℕ) (pos : 1 ≤ c) (is : full ≡ min size (n / c)) where
  pub full_fit : full * c ≤ n
  full_fit = let few : full ≤ n / c = omega arith in omega (arith, full_there c (n / c) n pos refl, mul-le-mul_right c few)

  pub one_more : size * c ≤ n + c → full < size → (size ≡ full + 1) × (n < full * c + c)
  one_more fits less = go (dec_le (full + 2) size)
    where
      all : full ≡ n / c
      all = omega arith

      go : Dec (full + 2 ≤ size) → (size ≡ full + 1) × (n < full * c + c)
      go (yes more) = absurd (omega (arith, full_there c full n pos all, mul-le-mul_right c more, add-mul full 2 c))
      go (no last) = (omega arith, (full_there c full n pos all).1)

-- a row of full words but for its last place, into which the word with the closing byte goes
pub last_row : (c full word : ℕ) (xs row : List ℕ) → c ≤ 4 → length row ≡ full + 1 → full * c ≤ length xs → length xs < full * c + c
    → word ≡ little_endian 4 (closed (drop (full * c) xs))
    → set (words_from c full xs ++ drop full row) full word ≡ words_from c (length row) (closed xs)
unfolding words_from
last_row c full word xs row small long there ends read =
    let front : List ℕ = words_from c full xs in
    let rest : length (drop (full * c) (closed xs)) ≤ c = omega (arith, length-drop (full * c) (closed xs), closed_length xs) in
    let one : (word ∷ []) ≡ words_from c 1 (drop (full * c) (closed xs)) = ap (λ (m : ℕ). m ∷ []) (read ∙ ap (little_endian 4) (sym (closed_drop (full * c) xs there)) ∙ little_filled c 4 (drop (full * c) (closed xs)) rest small) in
    ap (λ (l : List ℕ). set (front ++ l) full word)
    (drop-cons row full 0 (omega arith) ∙ ap (λ (l : List ℕ). get_or row full 0 ∷ l) (drop_of_length-le row {i = suc full} (omega arith)))
    ∙ set_at front (get_or row full 0) [] word full (words_length c full xs)
    ∙ ap₂ (λ (l r : List ℕ). l ++ r) (whole_words c full xs there) one
    ∙ words_append c full 1 (closed xs)
    ∙ ap (λ (t : ℕ). words_from c t (closed xs)) (sym long)

-- t words, of which only the last can want bytes: each of them starts within the message
pub word_starts : (c t at n : ℕ) → at < t → t * c ≤ n + c → at * c ≤ n
word_starts c t at n lt there = omega (arith, suc-mul at c, mul-le-mul_right c lt)

-- the full words and one more, in blocks of at most `most`: where a block starts, and where it and the last one end
module _ (full most i : ℕ) (some : 1 ≤ most) where
  pub block_place : i < full / most + 1 → i * most < full + 1
  block_place more = let le : i ≤ full / most = omega arith in omega (arith, full_there most (full / most) full some refl, mul-le-mul_right most le)

  pub block_end : i < full / most + 1 → i * most + min most (full + 1 - i * most) ≡ min (full + 1) ((i + 1) * most)
  block_end more = omega (arith, block_place more, add-mul i 1 most)

  pub blocks_end : full / most + 1 ≤ i → min (full + 1) (i * most) ≡ full + 1
  blocks_end all = omega (arith, full_there most (full / most) full some refl, mul-le-mul_right most all, add-mul (full / most) 1 most)

-- a block of the t words, lent as the part from its place on: it has as many bytes as are wanted, and its words are those of the message
module _ (c t at size : ℕ) (xs row : List ℕ) (there : t * c ≤ length xs + c) (inside : at + size ≤ t) (more : at < t) where
  starts : at * c ≤ length xs
  starts = word_starts c t at (length xs) more there

  pub block_fits : size ≤ length row → length (take size row) * c ≤ length (take (length xs - at * c) (drop (at * c) xs)) + c
  block_fits room =
      rw (length-take-le size row room, part_to_end (length xs) (at * c) xs refl, length-drop (at * c) xs)
      (omega (arith, starts, add-mul at size c, mul-le-mul_right c inside))

  pub block_words : size ≤ length row
      → words_from c (length (take size row)) (closed (take (length xs - at * c) (drop (at * c) xs))) ≡ words_from c size (drop (at * c) (closed xs))
  block_words room = rw (length-take-le size row room, part_to_end (length xs) (at * c) xs refl) (ap (words_from c size) (sym (closed_drop (at * c) xs starts)))

-- the sums and the range test after the first t words; before the first of them the sums are as they were, and no word is read
unfoldable pub sums_to : ℕ → ℕ → ℕ → ℕ → List ℕ → List ℕ → List ℕ → List ℕ
sums_to w n c zero xs ks sums = sums
sums_to w n c (suc t) xs ks sums = sums_from w n c (suc t) xs ks sums

unfoldable pub fit_to : ℕ → ℕ → ℕ → ℕ → List ℕ → List ℕ → Bool
fit_to w n c zero xs ks = true
fit_to w n c (suc t) xs ks = fit_from w n c (suc t) xs ks

module _ (w n c t : ℕ) (xs ks : List ℕ) (some : 1 ≤ t) where
  pub sums_to_lem : (sums : List ℕ) → sums_to w n c t xs ks sums ≡ sums_from w n c t xs ks sums
  unfolding sums_to
  sums_to_lem sums = go t some
    where
      go : (t : ℕ) → 1 ≤ t → sums_to w n c t xs ks sums ≡ sums_from w n c t xs ks sums
      go zero none = absurd (omega arith)
      go (suc t) some = refl

  pub fit_to_lem : fit_to w n c t xs ks ≡ fit_from w n c t xs ks
  unfolding fit_to
  fit_to_lem = go t some
    where
      go : (t : ℕ) → 1 ≤ t → fit_to w n c t xs ks ≡ fit_from w n c t xs ks
      go zero none = absurd (omega arith)
      go (suc t) some = refl

-- a block more: its words, under the key from its place on
module _ (w n c t : ℕ) (xs ks block part : List ℕ) (can : Sums w n t (length ks)) where
  reaches : (at size end : ℕ) → at + size ≡ end → end ≤ t → Sums w n (length (words_from c at (closed xs) ++ words_from c size (drop (at * c) (closed xs)))) (length ks)
  reaches at size end next few =
      record {
        some_width = can.some_width;
        width = can.width;
        some_words = can.some_words;
        words = can.words;
        keys = omega (arith, can.keys, ap length (words_append c at size (closed xs)), words_length c (at + size) (closed xs));
      }

  pub sums_step : (at size end : ℕ) (sums held : List ℕ) {after : List ℕ} → at + size ≡ end → 1 ≤ size → end ≤ t
      → block ≡ words_from c size (drop (at * c) (closed xs))
      → part ≡ drop at ks
      → held ≡ sums_to w n c at xs ks sums
      → after ≡ checked_sums w n block part held
      → after ≡ sums_to w n c end xs ks sums
  unfolding sums_to
  sums_step zero size end sums held next some few words keys before added =
      let same : size ≡ end = omega arith in
      added ∙ rw (words, keys, before, zero-mul c, same) (sym (sums_to_lem w n c end xs ks (omega arith) sums))
  sums_step (suc at) size end sums held next some few words keys before added =
      let both = checked_append w n (words_from c (suc at) (closed xs)) (words_from c size (drop (suc at * c) (closed xs))) ks sums (reaches (suc at) size end next few) in
      added
      ∙ rw (words, keys, before) (rw (words_length c (suc at) (closed xs), words_append c (suc at) size (closed xs), next) at both)
      ∙ sym (sums_to_lem w n c end xs ks (omega arith) sums)

  pub fit_step : (at size end : ℕ) (fit : Bool) {one after : Bool} → at + size ≡ end → 1 ≤ size → end ≤ t
      → block ≡ words_from c size (drop (at * c) (closed xs))
      → part ≡ drop at ks
      → fit ≡ fit_to w n c at xs ks
      → one ≡ checked_fit false w n block part
      → after ≡ (fit && one)
      → after ≡ fit_to w n c end xs ks
  unfolding fit_to
  fit_step zero size end fit next some few words keys before tested both =
      let same : size ≡ end = omega arith in
      both ∙ rw (tested, words, keys, before, zero-mul c, same) (sym (fit_to_lem w n c end xs ks (omega arith)))
  fit_step (suc at) size end fit next some few words keys before tested both =
      let all = checked_fit_append false w n (words_from c (suc at) (closed xs)) (words_from c size (drop (suc at * c) (closed xs))) ks (reaches (suc at) size end next few) in
      both
      ∙ rw (tested, words, keys, before) (rw (words_length c (suc at) (closed xs), words_append c (suc at) size (closed xs), next) at all)
      ∙ sym (fit_to_lem w n c end xs ks (omega arith))
