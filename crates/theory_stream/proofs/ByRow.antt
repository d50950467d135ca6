-- Calls on the row of a state do what the calls by value do on the state. Assumes nothing.
use mathlib.Core.Path.{◌≡◌, refl, sym, ap, ap₂, subst, ◌∙◌}
use mathlib.Core.Bool.{true}
use mathlib.Core.List.{List, [], ◌∷◌}
use Prim.Native.Nat.{ℕ}
use native.Mathlib.Decide.{ℕ_discrete}
use lib.ListN.{length, take, drop}
use lib.Seq.{take_at}
use Rattle.answers.specs.Answers.{state_after}
use Rattle.answers.specs.Table.{word_test}
use Rattle.answers.proofs.States.{old_state, new_state}
use Rattle.answers.proofs.Rows.{accepted_row}
use Rattle.answers.proofs.Validation.{none_holds, passed}
use Rattle.range.proofs.States.{padded_length}
use Rattle.state_rows.proofs.Calls.{answer_by_value, left_by_value, with_room}
use Rattle.state_sums.specs.State.{settings_tests, begun}
use Rattle.stream.specs.declared.Stream.{Stream}
use Rattle.stream.specs.State.{pushed, opened}
use Rattle.stream.specs.Calls.{open_tests, open_answer, open_state, push_answer, push_state, read_answer, read_row}
use Rattle.stream.proofs.Valid.{takes, opens}
use Rattle.stream.proofs.Pushes.{pushed_good}
use Rattle.stream_rows.specs.Rows.{row_of, state_of, is_stream}
use Rattle.stream_rows.specs.Calls.{open_row_answer, open_row, push_row_answer, push_row, read_row_answer, read_row_out}
use Rattle.stream_rows.proofs.Rows.{all_words, row_is, state_kept}
use Rattle.theory_stream.specs.Cutting.{Part, after_parts, part_answers, EveryCutting}
use Rattle.theory_stream.specs.ByRow.{StateKept, row_after_parts, row_part_answers, EveryCuttingByRow}
use Rattle.theory_stream.proofs.Cutting.{every_cutting}

pub state_is_kept : StateKept
unfolding StateKept
state_is_kept s keys sums = (row_is s keys sums, state_kept s keys sums)

-- rows of eight places
record Sized (s : Stream) : Type 0 where
  keys : length s.keys ≡ 8
  sums : length s.held.sums ≡ 8

push_sized : (s : Stream) (ms ks : List ℕ) → Sized s → Sized (push_state s ms ks)
unfolding push_state
push_sized s ms ks z = go (ℕ_discrete (push_answer s ms ks) 0)
  where
    go : Dec (push_answer s ms ks ≡ 0) → Sized (push_state s ms ks)
    go (yes e) =
        let t = takes s ms ks e in
        let f = t.ready.state in
        let g = pushed_good s (record { held = record { fit = f.held; eight = z.sums }; keys = f.keys; keys_eight = z.keys }) ms ks t in
        subst Sized (sym (new_state (push_answer s ms ks) (pushed s ms ks) s e)) (record { keys = g.keys_eight; sums = g.held.eight })
    go (no e) = subst Sized (sym (old_state (push_answer s ms ks) (pushed s ms ks) s e)) z

module _ (s : Stream) (z : Sized s) where
  held : state_of (row_of s) ≡ s
  held = state_kept s z.keys z.sums

  kind : is_stream (row_of s) ≡ true
  kind = row_is s z.keys z.sums

  push_answer_lem : (ms ks : List ℕ) → push_row_answer (row_of s) ms ks ≡ push_answer s ms ks
  unfolding push_row_answer
  push_answer_lem ms ks = sym (answer_by_value kind _) ∙ ap (λ (s : Stream). push_answer s ms ks) held

  push_row_lem : (ms ks : List ℕ) → push_row (row_of s) ms ks ≡ row_of (push_state s ms ks)
  unfolding push_row push_state
  push_row_lem ms ks =
      ap₂ (λ (a : ℕ) (t : Stream). state_after a (row_of (push_state t ms ks)) (row_of s)) (push_answer_lem ms ks) held ∙ go (ℕ_discrete (push_answer s ms ks) 0)
    where
      go : Dec (push_answer s ms ks ≡ 0) → state_after (push_answer s ms ks) (row_of (push_state s ms ks)) (row_of s) ≡ row_of (push_state s ms ks)
      go (yes e) = new_state (push_answer s ms ks) _ _ e
      go (no e) = old_state (push_answer s ms ks) _ _ e ∙ sym (ap row_of (old_state (push_answer s ms ks) (pushed s ms ks) s e))

  read_answer_lem : (out : List ℕ) → read_row_answer (row_of s) out ≡ read_answer s out
  unfolding read_row_answer
  read_answer_lem out = sym (answer_by_value kind _) ∙ ap (λ (s : Stream). read_answer s out) held

  read_row_lem : (out : List ℕ) → read_row_out (row_of s) out ≡ read_row s out
  unfolding read_row_out
  read_row_lem out = sym (left_by_value kind _ out) ∙ ap (λ (s : Stream). read_row s out) held

-- all parts by row
record Follows (s : Stream) (ps : List Part) : Type 0 where
  sized : Sized (after_parts s ps)
  answers : row_part_answers (row_of s) ps ≡ part_answers s ps
  row : row_after_parts (row_of s) ps ≡ row_of (after_parts s ps)

follows : (s : Stream) (ps : List Part) → Sized s → Follows s ps
unfolding after_parts part_answers row_after_parts row_part_answers
follows s [] z = record { sized = z; answers = refl; row = refl }
follows s (p ∷ ps) z =
    let next = push_row_lem s z p.message p.key in
    let rest = follows (push_state s p.message p.key) ps (push_sized s p.message p.key z) in
    record {
      sized = rest.sized;
      answers = ap₂ (λ (x : ℕ) (xs : List ℕ). x ∷ xs) (push_answer_lem s z p.message p.key) (ap (λ (r : List ℕ). row_part_answers r ps) next ∙ rest.answers);
      row = ap (λ (r : List ℕ). row_after_parts r ps) next ∙ rest.row;
    }

-- an accepted opening, and the words that it wrote
module _ (w b n : ℕ) (ks row : List ℕ) (e : open_row_answer w b n ks row ≡ 0) where
  accepted : open_answer w b n ks ≡ 0
  unfolding open_row_answer open_answer open_tests settings_tests
  accepted =
      let p = (passed 4 _ _ _ (passed 2 _ _ _ (passed 1 _ _ _ (passed 0 _ _ _ e).1).1).1).1 in
      with_room 21 row (passed 5 _ _ _ (sym (none_holds _) ∙ p)).0 (open_tests w b n ks) (word_test w [] ks) ∙ e

  sized : Sized (open_state w b n ks)
  unfolding open_state opened begun
  sized =
      let o = opens w b n ks accepted in
      subst Sized (sym (new_state (open_answer w b n ks) _ _ accepted)) (record { keys = padded_length 8 n ks o.words o.settings.words; sums = refl })

  wrote : take 21 (open_row w b n ks row) ≡ row_of (open_state w b n ks)
  unfolding open_row
  wrote =
      let words = row_of (open_state w b n ks) in
      ap (take 21) (accepted_row (open_row_answer w b n ks row) words row e) ∙ take_at words (drop (length words) row) 21 (all_words (open_state w b n ks) sized.keys sized.sums)

pub every_cutting_by_row : EveryCuttingByRow
unfolding EveryCuttingByRow EveryCutting
every_cutting_by_row w b n ks row ps e fit few =
    let s = open_state w b n ks in
    let f = follows s ps (sized w b n ks row e) in
    let whole = every_cutting w b n ks ps (accepted w b n ks row e) fit few in
    let begin = wrote w b n ks row e in
    let end = ap (λ (r : List ℕ). row_after_parts r ps) begin ∙ f.row in
    record {
      answers = ap (λ (r : List ℕ). row_part_answers r ps) begin ∙ f.answers ∙ whole.answers;
      answer = λ out. ap (λ (r : List ℕ). read_row_answer r out) end ∙ read_answer_lem (after_parts s ps) f.sized out ∙ whole.answer out;
      words = λ out. ap (λ (r : List ℕ). read_row_out r out) end ∙ read_row_lem (after_parts s ps) f.sized out ∙ whole.row out;
    }
