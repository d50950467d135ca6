-- What a call has passed that reaches its sums, and what it answers.
-- Assumes nothing.
use mathlib.Core.Path.{◌≡◌, refl, sym, ap, ◌∙◌}
use mathlib.Core.Bool.{Bool, true, ◌&&◌, cond}
use mathlib.Core.List.{List, [], ◌∷◌}
use Prim.Native.Nat.{ℕ, ◌+◌, ◌*◌, ◌/◌, ◌≤◌}
use native.Mathlib.Nat.{zero-add, zero-div, mul_comm, add-mul-div_right}
use native.Mathlib.Omega.{arith}
use lib.ListN.{length}
use Rattle.theory_counts.specs.Words.{fits}
use Rattle.theory_digest.specs.Settings.{InRange}
use Rattle.answers.specs.Answers.{first_of, Validates}
use Rattle.answers.specs.Table.{word_test, width_test, kept_test, count_test, peers_test, long_test, key_test, tray_test}
use Rattle.answers.proofs.Validation.{passed, in_range, peers_passed, peers_pass, key_passed, tray_passed, refusal_stands, later_stands, word_last}
use Rattle.sum_terms.proofs.Summable.{are_sums}
use Rattle.sum_peers.specs.Peers.{peers_summable}
use Rattle.sum_peers.proofs.Suffices.{peers_can}
use Rattle.digest_peers.specs.Call.{peers_answer, peers_tests}

-- what the tests before Word have passed
pub record PeersValid (w b n p : ℕ) (ms ks out : List ℕ) : Type 0 where
  pub settings : InRange w b n
  pub some_peers : 1 ≤ p
  pub peers : p ≤ 16
  pub keys : length ks ≡ p * (length ms + n)
  pub room : p * n ≤ length out

-- each peer's share of the keys, and that it suffices
module _ {w b n p : ℕ} {ms ks out : List ℕ} (h : PeersValid w b n p ms ks out) where
  pub share : length ks / p ≡ length ms + n
  share =
      let size : ℕ = length ms + n in
      ap (λ (k : ℕ). k / p) (h.keys ∙ mul_comm p size ∙ sym (zero-add (size * p)))
      ∙ add-mul-div_right 0 size h.some_peers
      ∙ ap (λ (x : ℕ). x + size) (zero-div p)
      ∙ zero-add size

  pub suffices : peers_summable w n p (length ms) (length ks) ≡ true
  suffices =
      let s = h.settings in
      peers_can w n p (length ms) (length ks) (peers_pass p h.some_peers h.peers)
      (are_sums w n (length ms) (length ks / p) (record { some_width = s.some_width; width = s.width; some_words = s.some_words; words = s.words; keys = omega (arith, share) }))

-- only the keys' length tells in the tests before Word
pub by_length : (w b n p : ℕ) (ms ks ks' out : List ℕ) → length ks ≡ length ks' → peers_tests w b n p ms ks out ≡ peers_tests w b n p ms ks' out
unfolding peers_tests
by_length w b n p ms ks ks' out e =
    ap (λ (k : ℕ). width_test w ∷ kept_test w b ∷ count_test n ∷ peers_test p ∷ long_test (length ms) ∷ key_test (p * (length ms + n)) k ∷ tray_test (p * n) (length out) ∷ []) e

module _ (w b n p : ℕ) (ms ks out : List ℕ) where
  pub peers_answer_lem : first_of (peers_tests w b n p ms ks out) (first_of (word_test w ms ks ∷ []) 0) ≡ peers_answer w b n p ms ks out
  unfolding peers_answer
  peers_answer_lem = refl

  call_valid : first_of (peers_tests w b n p ms ks out) 0 ≡ 0 → PeersValid w b n p ms ks out
  unfolding peers_tests
  call_valid e =
      let p₁ = passed 0 _ _ _ e in
      let p₂ = passed 1 _ _ _ p₁.1 in
      let p₃ = passed 2 _ _ _ p₂.1 in
      let p₄ = passed 9 _ _ _ p₃.1 in
      let p₅ = passed 4 _ _ _ (passed 3 _ _ _ p₄.1).1 in
      record {
        settings = in_range w b n p₁.0 p₂.0 p₃.0;
        some_peers = (peers_passed p p₄.0).0;
        peers = (peers_passed p p₄.0).1;
        keys = key_passed (p * (length ms + n)) (length ks) p₅.0;
        room = tray_passed (p * n) (length out) (passed 5 _ _ _ p₅.1).0;
      }

  -- the keys of an accepted call
  pub peers_key : peers_answer w b n p ms ks out ≡ 0 → length ks ≡ p * (length ms + n)
  unfolding peers_answer peers_tests
  peers_key e =
      let p₄ = passed 9 _ _ _ (passed 2 _ _ _ (passed 1 _ _ _ (passed 0 _ _ _ e).1).1).1 in
      key_passed (p * (length ms + n)) (length ks) (passed 4 _ _ _ (passed 3 _ _ _ p₄.1).1).0

  -- r is what the tests before Word gave: a refusal, or a call that the words' range answers
  module _ {r : ℕ} (validated : Validates (peers_tests w b n p ms ks out) r) where
    pub peers_refused : (r ≡ 0 → ⊥) → r ≡ peers_answer w b n p ms ks out
    peers_refused ne = refusal_stands (peers_tests w b n p ms ks out) validated (first_of (word_test w ms ks ∷ []) 0) ne ∙ peers_answer_lem

    module _ (none : r ≡ 0) where
      pub peers_reached : PeersValid w b n p ms ks out
      peers_reached = call_valid (sym (later_stands (peers_tests w b n p ms ks out) validated 0 none))

      pub peers_answered : {fit : Bool} → fit ≡ (fits w ms && fits w ks) → cond fit 0 7 ≡ peers_answer w b n p ms ks out
      peers_answered e =
          word_last w ms ks e
          ∙ later_stands (peers_tests w b n p ms ks out) validated (first_of (word_test w ms ks ∷ []) 0) none
          ∙ peers_answer_lem
