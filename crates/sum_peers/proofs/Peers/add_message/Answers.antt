-- `sum_peers::Peers::add_message` meets its contract: the words in pairs, and then an odd last one, for every peer's row.
use Rattle.std.proofs.Common.{◌≡◌, ℕ, ◌-◌, [], ◌∷◌, length, get_or, drop, sym, ap, arith}
use Rattle.std.specs.List.{concat}
use Rattle.sum_peers.proofs.Accumulation.{all_append}
use Rattle.sum_peers.proofs.Pairs.{without_last, with_last, last_at, last_tested}
use Rattle.sum_peers.proofs.Peers.add_message.Goals as goal

pub returns-in_default : goal.returns-in_default
returns-in_default c =
    let chunks = c.as_chunks.ensures in
    let all = without_last c.args.message.now c.as_chunks.result.0.now c.as_chunks.result.1.now chunks.front chunks.back (omega arith) in
    rw all at c.add_pairs-fit.ensures

pub returns : goal.returns
returns c =
    let s = c.args.self.now in
    let ms = c.args.message.now in
    let ks = s.keys.now in
    let pairs = c.as_chunks.result.0.now in
    let rest = c.as_chunks.result.1.now in
    let front = c.as_chunks.ensures.front in
    let back = c.as_chunks.ensures.back in
    let one : length rest ≡ 1 = omega arith in
    let at = ap (λ (k : ℕ). drop k ks) (sym (last_at ms pairs rest front back one)) in
    let both = all_append s.w s.n s.size (concat pairs) ks c.args.rows.now s.p (get_or rest 0 0 ∷ []) (drop (length ms - 1) ks) c.add_pairs-fit.new.rows c.add_to_rows.new.rows at c.add_pairs-fit.ensures.0 c.add_to_rows.ensures in
    (rw (with_last ms pairs rest front back one) at both, last_tested ms pairs rest front back one s.w c.add_pairs-fit.ensures.1 c.below.ensures)
