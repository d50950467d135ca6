use mathlib.Core.Path.{◌≡◌, refl, ap, ◌∙◌}
use Prim.Native.Nat.{ℕ, ◌+◌, ◌*◌, ◌≤◌, min}
use native.Mathlib.Nat.{add-mul}
use native.Mathlib.Omega.{arith}
use lib.ListN.{length}
use lib.Seq.{length_front}
use Rattle.std.proofs.lemmas.List.{length-replicate}
use Rattle.rows.proofs.Parts.{part_to_end}
use Rattle.sum_terms.proofs.Summable.{sums_are}
use Rattle.sum_bytes.specs.Sizes.{bytes_of}
use Rattle.sum_bytes.proofs.Words.{words_length}
use Rattle.sum_bytes.proofs.Blocks.{word_starts, block_place, block_end, blocks_end, block_words, sums_to, fit_to, sums_to_lem, fit_to_lem, sums_step, fit_step}
use Rattle.sum_bytes.proofs.sum_blocks.Goals as goal
use Rattle.sum_bytes.proofs.sum_blocks.Goals.{After-min, After-bytes}

-- the block's bytes start within the message
starts : (g : _) (c : After-bytes g) → c.loop-block.block * g.row.N * c.bytes.result ≤ length c.args.message.now
starts g c =
    let a = c.args in
    let more = block_place a.full g.row.N c.loop-block.block c.requires.1 (omega arith) in
    rw c.bytes.ensures (word_starts (bytes_of a.size) (a.full + 1) (c.loop-block.block * g.row.N) (length a.message.now) more (omega (arith, c.requires.3, add-mul a.full 1 (bytes_of a.size))))

-- its words have keys
keyed : (g : _) (c : After-min g) → c.loop-block.block * g.row.N ≤ length c.args.key.now
keyed g c =
    let a = c.args in
    omega (arith, block_place a.full g.row.N c.loop-block.block c.requires.1 (omega arith), (sums_are a.w a.n (a.full + 1) (length a.key.now) c.requires.0).keys)

pub loop-block-init : goal.loop-block-init
unfolding fit_to sums_to
loop-block-init g c =
    let none : min (c.args.full + 1) (0 * g.row.N) ≡ 0 = omega arith in
    rw none (length-replicate g.row.N 0, refl, refl)

pub overflow_mul-at-in-loop-block : goal.overflow_mul-at-in-loop-block
overflow_mul-at-in-loop-block g c = omega (arith, starts g (goal.at.overflow_mul-at-in-loop-block g c).After-bytes)

pub slice_bounds-decode-count : goal.slice_bounds-decode-count
slice_bounds-decode-count g c = omega (arith, starts g (goal.at.slice_bounds-decode-count g c).After-bytes)

pub slice_bounds-decode-start : goal.slice_bounds-decode-start
slice_bounds-decode-start g c = omega (arith, starts g (goal.at.slice_bounds-decode-start g c).After-bytes)

pub offset_bounds-key-at : goal.offset_bounds-key-at
offset_bounds-key-at g c = omega (arith, keyed g (goal.at.offset_bounds-key-at g c).After-min)

pub slice_bounds-add_sums-count : goal.slice_bounds-add_sums-count
slice_bounds-add_sums-count g c = omega (arith, keyed g (goal.at.slice_bounds-add_sums-count g c).After-min)

pub slice_bounds-add_sums-start : goal.slice_bounds-add_sums-start
slice_bounds-add_sums-start g c = omega (arith, keyed g (goal.at.slice_bounds-add_sums-start g c).After-min)

pub loop-block-preserved : goal.loop-block-preserved
loop-block-preserved g c =
    let l = c.loop-block in
    let a = c.args in
    let most = g.row.N in
    let at = l.block * most in
    let count = c.min.result in
    let size = bytes_of a.size in
    let t = a.full + 1 in
    let place = block_place a.full most l.block c.requires.1 (omega arith) in
    let end = ap (λ (m : ℕ). at + m) c.min.ensures ∙ block_end a.full most l.block c.requires.1 (omega arith) in
    let here : min t at ≡ at = omega arith in
    let can = sums_are a.w a.n t (length a.key.now) c.requires.0 in
    let there : t * size ≤ length a.message.now + size = omega (arith, c.requires.3, add-mul a.full 1 size) in
    let words = block_words size t at count a.message.now l.row there (omega arith) (omega arith) (omega arith) in
    let block = rw c.bytes.ensures at c.decode.ensures in
    let keys = part_to_end (length a.key.now) at a.key.now refl in
    let fit = l.invariant.1 ∙ ap (λ (m : ℕ). fit_to a.w a.n size m a.message.now a.key.now) here in
    let sums = l.invariant.2 ∙ ap (λ (m : ℕ). sums_to a.w a.n size m a.message.now a.key.now a.sums.now) here in (
      length_front l.row c.decode.new.row count (ap length block ∙ words_length size _ _) ∙ l.invariant.0,
      fit_step a.w a.n size t a.message.now a.key.now _ _ can at count _ l.fit end (omega arith) (omega arith) (block ∙ words) keys fit c.add_sums-fit.ensures.0 refl,
      sums_step a.w a.n size t a.message.now a.key.now _ _ can at count _ a.sums.now l.sums end (omega arith) (omega arith) (block ∙ words) keys sums c.add_sums-fit.ensures.1,
    )

pub returns : goal.returns
returns g c =
    let a = c.args in
    let l = c.loop-block in
    let size = bytes_of a.size in
    let t = a.full + 1 in
    let all = blocks_end a.full g.row.N l.block c.requires.1 (omega arith) in (
      l.invariant.1 ∙ rw all (fit_to_lem a.w a.n size t a.message.now a.key.now (omega arith)),
      l.invariant.2 ∙ rw all (sums_to_lem a.w a.n size t a.message.now a.key.now (omega arith) a.sums.now),
    )
