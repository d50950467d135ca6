-- However a message is cut into parts, the stream holds the sums of the whole message and reads its digest.
-- Assumes nothing.
use mathlib.Core.Path.{◌≡◌, refl, sym, ap, ap₂, subst, ◌∙◌}
use mathlib.Core.Bool.{Bool, true, ◌&&◌}
use mathlib.Core.List.{List, [], ◌∷◌, ◌++◌, map}
use Prim.Native.Nat.{ℕ, ◌+◌, ◌≤◌}
use native.Mathlib.Nat.{zero-add}
use native.Mathlib.Omega.{arith}
use lib.ListN.{length, replicate, length-append}
use Rattle.theory_counts.specs.Words.{fits}
use Rattle.theory_digest.specs.Digest.{full_words, kept, digest}
use Rattle.answers.specs.Answers.{first_of, afterwards}
use Rattle.theory_counts.proofs.Fits.{both, fits_append}
use Rattle.answers.proofs.Validation.{width_passes, kept_passes, count_passes, long_passes, key_passes, words_pass}
use Rattle.sum_terms.specs.Sums.{add_sums}
use Rattle.sum_terms.proofs.Each.{sums_zero, length_full}
use Rattle.digest_words.specs.Call.{digest_answer, digest_row, digest_tests}
use Rattle.stream.specs.declared.Stream.{Stream}
use Rattle.range.specs.States.{padded}
use Rattle.state_sums.specs.State.{held_sums, begun, updated, reading}
use Rattle.state_sums.proofs.Shared.{begun_good, begun_held}
use Rattle.stream.specs.State.{fit_state, held_keys, last_words, pushed, opened}
use Rattle.stream.specs.Calls.{open_answer, open_state, push_answer, push_state, read_answer, read_row}
use Rattle.theory_stream.specs.Cutting.{Part, message_of, key_of, after_parts, part_answers, FitPart, FitParts, whole_state, Whole, EveryCutting, EmptyPush, EveryState}
use Rattle.stream.proofs.Valid.{fit, fit_state_lem, Takes, taken, Opens, opens}
use Rattle.answers.proofs.States.{new_state}
use Rattle.range.proofs.States.{padded_length, padded_held, padded_row}
use Rattle.stream.proofs.Pushes.{Good, good_fit, pushed_good, pushed_none, pushed_twice}

-- the parts' words, all together, are a fit part
joined_fit : (w : ℕ) (ps : List Part) → FitParts w ps → FitPart w (record { message = message_of ps; key = key_of ps })
unfolding FitParts message_of key_of fits
joined_fit w [] h = record { words = refl; fit = refl }
joined_fit w (p ∷ ps) h = join h.0 (joined_fit w ps h.1)
  where
    join : FitPart w p → FitPart w (record { message = message_of ps; key = key_of ps }) → FitPart w (record { message = p.message ++ message_of ps; key = p.key ++ key_of ps })
    join f g =
        let f' = both (fits w p.message) (fits w p.key) f.fit in
        let g' = both (fits w (message_of ps)) (fits w (key_of ps)) g.fit in
        record {
          words = length-append p.key (key_of ps) ∙ ap₂ (λ (x y : ℕ). x + y) f.words g.words ∙ sym (length-append p.message (message_of ps));
          fit =
              ap₂ (λ (x y : Bool). x && y)
              (fits_append w p.message (message_of ps) ∙ ap₂ (λ (x y : Bool). x && y) f'.0 g'.0)
              (fits_append w p.key (key_of ps) ∙ ap₂ (λ (x y : Bool). x && y) f'.1 g'.1);
        }

takes_from : (s : Stream) → Good s → (ms ks : List ℕ) → s.held.count + length ms ≤ 65536 → length ks ≡ length ms → fits s.held.width ms ≡ true → fits s.held.width ks ≡ true → Takes s ms ks
takes_from s good ms ks room words message key = record { ready = record { state = good_fit s good; room = room; words = words }; message = message; key = key }

good_from : (s : Stream) → fit_state s ≡ true → length s.keys ≡ 8 → length s.held.sums ≡ 8 → Good s
good_from s f keys_eight sums-eight = let h = fit s f in record { held = record { fit = h.held; eight = sums-eight }; keys = h.keys; keys_eight = keys_eight }

-- the parts, pushed one after the other, and all their words in one push
push_parts : (s : Stream) (ps : List Part) → Good s → FitParts s.held.width ps → s.held.count + length (message_of ps) ≤ 65536
    → (part_answers s ps ≡ replicate (length ps) 0) × (after_parts s ps ≡ pushed s (message_of ps) (key_of ps))
unfolding FitParts message_of key_of after_parts part_answers push_state pushed updated
push_parts s [] good h room = (refl, sym (pushed_none s good))
push_parts s (p ∷ ps) good h room =
    let fits_both = both (fits s.held.width p.message) (fits s.held.width p.key) h.0.fit in
    let t : Takes s p.message p.key = takes_from s good p.message p.key (omega (arith, length-append p.message (message_of ps))) h.0.words fits_both.0 fits_both.1 in
    let none = taken s p.message p.key t in
    let next : push_state s p.message p.key ≡ pushed s p.message p.key = new_state (push_answer s p.message p.key) (pushed s p.message p.key) s none in
    let rest = push_parts (pushed s p.message p.key) ps (pushed_good s good p.message p.key t) h.1 (omega (arith, length-append p.message (message_of ps))) in (
      ap₂ (λ (x : ℕ) (xs : List ℕ). x ∷ xs) none (ap (λ (s : Stream). part_answers s ps) next ∙ rest.0),
      ap (λ (s : Stream). after_parts s ps) next ∙ rest.1 ∙ pushed_twice s good p.message p.key (message_of ps) (key_of ps) t,
    )

pub every_state : EveryState
unfolding EveryState
every_state s ps f keys_eight sums-eight h room = push_parts s ps (good_from s f keys_eight sums-eight) h room

pub empty_push : EmptyPush
unfolding EmptyPush push_state fits
empty_push s f keys_eight sums-eight =
    let good : Good s = good_from s f keys_eight sums-eight in
    let t : Takes s [] [] = takes_from s good [] [] (omega (arith, good.held.fit.count)) refl refl refl in
    let none = taken s [] [] t in
    (none, new_state (push_answer s [] []) (pushed s [] []) s none ∙ pushed_none s good)

module _ (w b n : ℕ) (ks : List ℕ) (o : Opens w b n ks) where
  few : n ≤ 8
  few = o.settings.words

  opened_good : Good (opened w b n ks)
  unfolding opened begun
  opened_good =
      record {
        held = begun_good 65536 w b n 0 o.settings (omega arith);
        keys = padded_row 8 n ks o.words few w o.fit;
        keys_eight = padded_length 8 n ks o.words few;
      }

  opened_keys : held_keys (opened w b n ks) ≡ ks
  unfolding opened begun
  opened_keys = padded_held 8 n ks o.words few

  opened_sums : held_sums (opened w b n ks).held ≡ replicate n 0
  unfolding opened
  opened_sums = begun_held 65536 w b n 0 o.settings

  -- all words in one push on an opened stream
  pushed_opened : (ms more : List ℕ) → pushed (opened w b n ks) ms more ≡ whole_state w b n ms (ks ++ more)
  unfolding pushed opened begun updated whole_state
  pushed_opened ms more =
      ap₂ {C = Stream}
      (λ (held sums : List ℕ). record { held = record { width = w; kept = b; n = n; count = 0 + length ms; sums = padded 8 (add_sums w ms (held ++ more) sums) }; keys = padded 8 (last_words n (held ++ more)) })
      opened_keys opened_sums
      ∙ ap₂ {C = Stream} (λ (t : ℕ) (sums : List ℕ). record { held = record { width = w; kept = b; n = n; count = t; sums = padded 8 sums }; keys = padded 8 (last_words n (ks ++ more)) })
      (zero-add (length ms)) (sums_zero w n ms (ks ++ more))

  module _ (ms ks' : List ℕ) (long : length ms ≤ 65536) (words : length ks' ≡ length ms + n) (message : fits w ms ≡ true) (key : fits w ks' ≡ true) (s : Stream) (good : Good s) (e : s ≡ whole_state w b n ms ks') where
    whole_words : reading s.held ≡ digest w b n ms ks'
    unfolding reading digest whole_state
    whole_words = ap (λ (s : Stream). reading s.held) e ∙ ap (map (kept b)) (padded_held 8 n (full_words w n ms ks') (length_full w n ms ks') few)

    -- of both calls only Tray is left to hold
    whole_answer : (out : List ℕ) → read_answer s out ≡ digest_answer w b n ms ks' out
    unfolding read_answer digest_tests digest_answer whole_state first_of
    whole_answer out =
        let r = o.settings in
        let count : s.held.n ≡ n = ap (λ (s : Stream). s.held.n) e in
        rw (
          fit_state_lem s (good_fit s good),
          count,
          width_passes w r.some_width r.width,
          kept_passes w b r.some_kept r.kept,
          count_passes n r.some_words r.words,
          long_passes 65536 (length ms) long,
          key_passes (length ms + n) (length ks') words,
          words_pass w ms ks' message key,
        )

    whole_row : (out : List ℕ) → read_row s out ≡ digest_row w b n ms ks' out
    unfolding read_row digest_row
    whole_row out = ap₂ (λ (a : ℕ) (l : List ℕ). afterwards a l out) (whole_answer out) whole_words

opened_whole : (w b n : ℕ) (ks : List ℕ) (ps : List Part) → Opens w b n ks → FitParts w ps → length (message_of ps) ≤ 65536 → Whole w b n (opened w b n ks) ps (message_of ps) (ks ++ key_of ps)
unfolding opened begun
opened_whole w b n ks ps o h long =
    let ms = message_of ps in
    let more = key_of ps in
    let s = opened w b n ks in
    let good = opened_good w b n ks o in
    let room : 0 + length ms ≤ 65536 = omega arith in
    let all = joined_fit w ps h in
    let both_fit = both (fits w ms) (fits w more) all.fit in
    let pushes = push_parts s ps good h room in
    let t : Takes s ms more = takes_from s good ms more room all.words both_fit.0 both_fit.1 in
    let words : length (ks ++ more) ≡ length ms + n = omega (arith, length-append ks more, o.words, all.words) in
    let key : fits w (ks ++ more) ≡ true = fits_append w ks more ∙ ap₂ (λ (x y : Bool). x && y) o.fit both_fit.1 in
    let end : Good (after_parts s ps) = subst Good (sym pushes.1) (pushed_good s good ms more t) in
    let state = pushes.1 ∙ pushed_opened w b n ks o ms more in
    record {
      answers = pushes.0;
      state = state;
      words = whole_words w b n ks o ms (ks ++ more) long words both_fit.0 key (after_parts s ps) end state;
      answer = whole_answer w b n ks o ms (ks ++ more) long words both_fit.0 key (after_parts s ps) end state;
      row = whole_row w b n ks o ms (ks ++ more) long words both_fit.0 key (after_parts s ps) end state;
    }

pub every_cutting : EveryCutting
unfolding EveryCutting open_state
every_cutting w b n ks ps a h long =
    subst (λ (s : Stream). Whole w b n s ps (message_of ps) (ks ++ key_of ps)) (sym (new_state (open_answer w b n ks) _ _ a)) (opened_whole w b n ks ps (opens w b n ks a) h long)
