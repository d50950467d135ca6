-- A peer's row is of its own key, whatever the others are; another key reaches the answer in one way, by a word that does not fit, which refuses the
-- call for all; one peer alone is the word digest.
-- Assumes nothing.
use mathlib.Core.Path.{◌≡◌, refl, sym, ap, ap₂, ◌∙◌}
use mathlib.Core.Bool.{Bool, true, false, ◌&&◌, cond, true≢false}
use mathlib.Core.Logic.{◌≢◌, ◌⊎◌, inl, inr}
use mathlib.Core.List.{List, [], ◌∷◌}
use Prim.Native.Nat.{ℕ, ◌+◌, ◌*◌}
use native.Mathlib.Nat.{one-mul, zero-mul}
use native.Mathlib.Decide.{ℕ_discrete}
use native.Mathlib.Omega.{arith}
use lib.ListN.{length, drop}
use lib.Seq.{take_all}
use Rattle.theory_counts.specs.Words.{fits}
use Rattle.theory_digest.specs.Digest.{digest}
use Rattle.theory_counts.proofs.Fits.{fits_parts, fits_at}
use Rattle.answers.specs.Answers.{Test, first_of, afterwards}
use Rattle.answers.specs.Table.{bad_peers, word_test}
use Rattle.answers.proofs.Validation.{passed, words_passed, word_last, none_holds}
use Rattle.answers.proofs.Rows.{accepted_row, refused_row}
use Rattle.digest_words.specs.Call.{digest_answer, digest_row, digest_tests}
use Rattle.digest_peers.specs.Peers.{row_at, peers_rows}
use Rattle.digest_peers.specs.Call.{peers_answer, peers_row, peers_tests}
use Rattle.theory_peers.specs.Claims.{RowAlone, OnePeer, OtherKeysDoNotReach, TooLarge, AnyKeyRefuses, RefusedAsWord, Reached, OneWayOnly, KeysReplaced}
use Rattle.digest_peers.proofs.EndToEnd.{row_of}
use Rattle.digest_peers.proofs.Valid.{by_length, peers_answer_lem, peers_key}

pub row_alone : RowAlone
unfolding RowAlone peers_row
row_alone w b n p i ms ks out lt accepted =
    ap (row_at n i) (accepted_row (peers_answer w b n p ms ks out) (peers_rows w b n p ms ks) out accepted)
    ∙ row_of w b n ms ks p i (drop (length (peers_rows w b n p ms ks)) out) lt

pub other_keys_do_not_reach : OtherKeysDoNotReach
unfolding OtherKeysDoNotReach RowAlone
other_keys_do_not_reach w b n p i ms ks ks' out out' lt accepted accepted' same =
    row_alone w b n p i ms ks out lt accepted ∙ ap (digest w b n ms) same ∙ sym (row_alone w b n p i ms ks' out' lt accepted')

-- tests that all pass give the later answer, and others give one whatever comes later
later_or_not : (ts : List Test) → ((x : ℕ) → first_of ts x ≡ x) ⊎ ((x y : ℕ) → first_of ts x ≡ first_of ts y)
unfolding first_of
later_or_not [] = inl (λ x. refl)
later_or_not (t ∷ ts) = go t.holds (later_or_not ts)
  where
    go : (h : Bool) → ((x : ℕ) → first_of ts x ≡ x) ⊎ ((x y : ℕ) → first_of ts x ≡ first_of ts y)
        → ((x : ℕ) → cond h t.number (first_of ts x) ≡ x) ⊎ ((x y : ℕ) → cond h t.number (first_of ts x) ≡ cond h t.number (first_of ts y))
    go true rest = inr (λ x y. refl)
    go false rest = rest

-- Word as the last test of a call, whose other tests are ts
module _ (w : ℕ) (ts : List Test) (ms : List ℕ) where
  abbrev answered : List ℕ → ℕ
  answered ks = first_of ts (first_of (word_test w ms ks ∷ []) 0)

  by_fit : (ks : List ℕ) (m k : Bool) → fits w ms ≡ m → fits w ks ≡ k → answered ks ≡ first_of ts (cond (m && k) 0 7)
  by_fit ks m k em ek = ap (first_of ts) (sym (word_last w ms ks (ap₂ (λ (x y : Bool). x && y) (sym em) (sym ek))))

  -- the first slice has a word of 2^w or more, the second has none
  module _ (ks ks' : List ℕ) (unfit : fits w ks ≡ false) (fit : fits w ks' ≡ true) where
    one_way : (m : Bool) → fits w ms ≡ m → (answered ks ≡ answered ks') ⊎ Reached w (answered ks) ks (answered ks') ks'
    one_way false em = inl (by_fit ks false false em unfit ∙ sym (by_fit ks' false true em fit))
    one_way true em = go (later_or_not ts)
      where
        go : ((x : ℕ) → first_of ts x ≡ x) ⊎ ((x y : ℕ) → first_of ts x ≡ first_of ts y) → (answered ks ≡ answered ks') ⊎ Reached w (answered ks) ks (answered ks') ks'
        go (inl later) = inr (by_fit ks true false em unfit ∙ later 7, unfit, by_fit ks' true true em fit ∙ later 0, fit)
        go (inr stopped) = inl (by_fit ks true false em unfit ∙ stopped 7 0 ∙ sym (by_fit ks' true true em fit))

  ways : (ks ks' : List ℕ) (k k' : Bool) → fits w ks ≡ k → fits w ks' ≡ k'
      → (answered ks ≡ answered ks') ⊎ (Reached w (answered ks) ks (answered ks') ks' ⊎ Reached w (answered ks') ks' (answered ks) ks)
  ways ks ks' true true e e' = inl (by_fit ks _ true refl e ∙ sym (by_fit ks' _ true refl e'))
  ways ks ks' false false e e' = inl (by_fit ks _ false refl e ∙ sym (by_fit ks' _ false refl e'))
  ways ks ks' false true e e' = go (one_way ks ks' e e' _ refl)
    where
      go : (answered ks ≡ answered ks') ⊎ Reached w (answered ks) ks (answered ks') ks'
          → (answered ks ≡ answered ks') ⊎ (Reached w (answered ks) ks (answered ks') ks' ⊎ Reached w (answered ks') ks' (answered ks) ks)
      go (inl same) = inl same
      go (inr one) = inr (inl one)
  ways ks ks' true false e e' = go (one_way ks' ks e' e _ refl)
    where
      go : (answered ks' ≡ answered ks) ⊎ Reached w (answered ks') ks' (answered ks) ks
          → (answered ks ≡ answered ks') ⊎ (Reached w (answered ks) ks (answered ks') ks' ⊎ Reached w (answered ks') ks' (answered ks) ks)
      go (inl same) = inl (sym same)
      go (inr one) = inr (inr one)

pub one_way_only : OneWayOnly
unfolding OneWayOnly
one_way_only w b n p ms ks ks' out e e' =
    let same : peers_tests w b n p ms ks' out ≡ peers_tests w b n p ms ks out = by_length w b n p ms ks' ks out (e' ∙ sym e) in
    rw (← peers_answer_lem w b n p ms ks out, ← peers_answer_lem w b n p ms ks' out, same) (ways w (peers_tests w b n p ms ks out) ms ks ks' (fits w ks) (fits w ks') refl refl)

-- the keys of an accepted call fit
peers_fit : (w b n p : ℕ) (ms ks out : List ℕ) → peers_answer w b n p ms ks out ≡ 0 → fits w ks ≡ true
unfolding peers_answer peers_tests
peers_fit w b n p ms ks out e =
    let p₄ = passed 9 _ _ _ (passed 2 _ _ _ (passed 1 _ _ _ (passed 0 _ _ _ e).1).1).1 in
    let p₇ = passed 5 _ _ _ (passed 4 _ _ _ (passed 3 _ _ _ p₄.1).1).1 in
    (words_passed w ms ks (passed 6 _ _ _ (sym (none_holds _) ∙ p₇.1)).0).1

module _ (w b n p i j : ℕ) (ms ks out : List ℕ) (large : TooLarge w (length ms + n) i j ks) where
  key_refused : peers_answer w b n p ms ks out ≢ 0
  key_refused e =
      let size : ℕ = length ms + n in
      let key = (fits_parts w size (drop (i * size) ks) (fits_parts w (i * size) ks (peers_fit w b n p ms ks out e)).1).0 in
      omega (arith, large, fits_at w (row_at size i ks) j key)

pub any_key_refuses : AnyKeyRefuses
unfolding AnyKeyRefuses peers_row
any_key_refuses w b n p i j ms ks out large =
    let refused = key_refused w b n p i j ms ks out large in
    (refused, refused_row (peers_answer w b n p ms ks out) (peers_rows w b n p ms ks) out refused)

pub refused_as_word : RefusedAsWord
unfolding RefusedAsWord OneWayOnly
refused_as_word w b n p i j ms ks ks' out large long accepted =
    let right = peers_key w b n p ms ks' out accepted in
    go (one_way_only w b n p ms ks ks' out (long ∙ right) right)
  where
    go : (peers_answer w b n p ms ks out ≡ peers_answer w b n p ms ks' out)
        ⊎ (Reached w (peers_answer w b n p ms ks out) ks (peers_answer w b n p ms ks' out) ks'
        ⊎ Reached w (peers_answer w b n p ms ks' out) ks' (peers_answer w b n p ms ks out) ks)
        → peers_answer w b n p ms ks out ≡ 7
    go (inl alike) = absurd (key_refused w b n p i j ms ks out large (alike ∙ accepted))
    go (inr (inl one)) = one.0
    go (inr (inr one)) = absurd (key_refused w b n p i j ms ks out large one.2)

pub keys_replaced : KeysReplaced
unfolding KeysReplaced OneWayOnly OtherKeysDoNotReach
keys_replaced w b n p i ms ks ks' out lt accepted long fit same =
    let again = go (one_way_only w b n p ms ks ks' out (peers_key w b n p ms ks out accepted) long) in
    (again, other_keys_do_not_reach w b n p i ms ks ks' out out lt accepted again same)
  where
    go : (peers_answer w b n p ms ks out ≡ peers_answer w b n p ms ks' out)
        ⊎ (Reached w (peers_answer w b n p ms ks out) ks (peers_answer w b n p ms ks' out) ks'
        ⊎ Reached w (peers_answer w b n p ms ks' out) ks' (peers_answer w b n p ms ks out) ks)
        → peers_answer w b n p ms ks' out ≡ 0
    go (inl alike) = sym alike ∙ accepted
    go (inr (inl one)) = one.2
    go (inr (inr one)) = absurd (true≢false (sym fit ∙ one.1))

-- one peer alone
module _ (w b n : ℕ) (ms ks out : List ℕ) where
  one_answer : peers_answer w b n 1 ms ks out ≡ digest_answer w b n ms ks out
  unfolding peers_answer peers_tests digest_answer digest_tests first_of bad_peers
  one_answer = rw (one-mul (length ms + n), one-mul n)

  one_digest : length ks ≡ length ms + n → peers_rows w b n 1 ms ks ≡ digest w b n ms ks
  unfolding peers_rows
  one_digest e = rw (zero-mul (length ms + n), take_all (length ms + n) ks (omega arith))

  one_row : Dec (peers_answer w b n 1 ms ks out ≡ 0) → peers_row w b n 1 ms ks out ≡ digest_row w b n ms ks out
  unfolding peers_row digest_row
  one_row (yes accepted) =
      ap₂ (λ (a : ℕ) (l : List ℕ). afterwards a l out) one_answer
      (one_digest (peers_key w b n 1 ms ks out accepted ∙ one-mul (length ms + n)))
  one_row (no refused) =
      refused_row (peers_answer w b n 1 ms ks out) (peers_rows w b n 1 ms ks) out refused
      ∙ sym (refused_row (digest_answer w b n ms ks out) (digest w b n ms ks) out (λ z. refused (one_answer ∙ z)))

pub one_peer : OnePeer
unfolding OnePeer
one_peer w b n ms ks out = (one_answer w b n ms ks out, one_row w b n ms ks out (ℕ_discrete (peers_answer w b n 1 ms ks out) 0))
