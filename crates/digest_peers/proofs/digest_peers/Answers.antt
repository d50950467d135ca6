-- `digest_peers::digest_peers` meets its contract: a refusal writes nothing, and an accepted call writes the digests.
use mathlib.Core.Path.{◌≡◌, refl, sym, ap, ap₂, ◌∙◌}
use mathlib.Core.Bool.{Bool, true, false, ◌&&◌, and-false}
use mathlib.Core.List.{List, [], ◌++◌}
use Prim.Native.Nat.{ℕ, ◌+◌, ◌*◌, ◌<◌, ◌≤◌}
use native.Mathlib.Omega.{arith}
use lib.ListN.{length, take, drop}
use lib.Seq.{length-take-le, get_or-take}
use Rattle.theory_counts.specs.Words.{fits}
use Rattle.answers.proofs.Refused.{some_number, number_handed_on}
use Rattle.answers.proofs.Rows.{refused, accepted}
use Rattle.sum_peers.proofs.Suffices.{row_within}
use Rattle.digest_peers.specs.Call.{peers_row}
use Rattle.digest_peers.proofs.EndToEnd.{length_rows}
use Rattle.digest_peers.proofs.Kept.{rows_digests}
use Rattle.digest_peers.proofs.Valid.{peers_refused, peers_reached, peers_answered, suffices}
use Rattle.digest_peers.proofs.digest_peers.Goals as goal

pub returns-in_err-validate : goal.returns-in_err-validate
unfolding peers_row
returns-in_err-validate c =
    let some = some_number c.in_err-validate.field-0.0 in
    let answered = refused _ _ (peers_refused _ _ _ _ _ _ _ c.in_err-validate.ensures some) some in
    (number_handed_on _ _ _ c.from_residual.ensures.1 answered.0, answered.1)

pub returns-then-not-row_fits : goal.returns-then-not-row_fits
unfolding peers_row
returns-then-not-row_fits c =
    let a = c.args in
    let unfit : false ≡ (fits a.w a.message.now && fits a.w a.keys.now) =
    sym (and-false (fits a.w a.message.now)) ∙ ap (λ (t : Bool). fits a.w a.message.now && t) (sym (c.if-not-row_fits.true) ∙ c.row_fits.ensures) in
    refused _ _ (peers_answered _ _ _ _ _ _ _ c.in_ok-validate.ensures refl unfit) (λ z. omega arith)

pub returns-in_default : goal.returns-in_default
unfolding peers_row
returns-in_default c =
    let a = c.args in
    let p = peers_reached _ _ _ _ _ _ _ c.in_ok-validate.ensures refl in
    let summed = c.in_default.ensures.0 (suffices p) in
    let unfit : false ≡ (fits a.w a.message.now && fits a.w a.keys.now) = ap (λ (t : Bool). t && fits a.w a.keys.now) summed.1 in
    refused _ _ (peers_answered _ _ _ _ _ _ _ c.in_ok-validate.ensures refl unfit) (λ z. omega arith)

-- the rows of the peers
pub slice_bounds-rows-end : goal.slice_bounds-rows-end
slice_bounds-rows-end c =
    let p = peers_reached _ _ _ _ _ _ _ c.in_ok-validate.ensures refl in
    omega (arith, p.peers, (c.in-Ok.ensures.0 (suffices p)).0.0)

pub slice_bounds-write_rows-end : goal.slice_bounds-write_rows-end
slice_bounds-write_rows-end c =
    let p = peers_reached _ _ _ _ _ _ _ c.in_ok-validate.ensures refl in
    sym (length-take-le c.args.p c.in-Ok.rows (omega (arith, p.peers, (c.in-Ok.ensures.0 (suffices p)).0.0)))

pub write_rows-requires : goal.write_rows-requires
write_rows-requires c =
    let p = peers_reached _ _ _ _ _ _ _ c.in_ok-validate.ensures refl in
    let few : length (take c.args.p c.in-Ok.rows) ≡ c.args.p = length-take-le c.args.p c.in-Ok.rows (omega (arith, p.peers, (c.in-Ok.ensures.0 (suffices p)).0.0)) in
    rw few (omega (arith, p.settings.kept, p.settings.width), p.settings.words, p.peers, p.room)

pub returns : goal.returns
unfolding peers_row
returns c =
    let a = c.args in
    let p = peers_reached _ _ _ _ _ _ _ c.in_ok-validate.ensures refl in
    let s = p.settings in
    let ms = a.message.now in
    let ks = a.keys.now in
    let size = length ms + a.n in
    let rows = c.in-Ok.rows in
    let summed = c.in-Ok.ensures.0 (suffices p) in
    let keys-fit = c.row_fits.ensures in
    let fits_all : true ≡ (fits a.w ms && fits a.w ks) =
    ap₂ (λ (x y : Bool). x && y) summed.1 (sym (c.if-not-row_fits.false) ∙ keys-fit) in
    let answer = peers_answered _ _ _ _ _ _ _ c.in_ok-validate.ensures refl fits_all in
    let within : (q : ℕ) → q < a.p → q * size + size ≤ length ks = λ q lt. omega (arith, p.keys, row_within size q a.p lt) in
    let few : length (take a.p rows) ≡ a.p = length-take-le a.p rows (omega (arith, p.peers, summed.0.0)) in
    let digests = rows_digests a.w a.b a.n ms ks s.width s.kept s.words a.p (take a.p rows) within p.peers (λ q lt. rw (get_or-take a.p rows q [] lt) (summed.0.1 q lt)) in
    let places = ap (λ (k : ℕ). drop k a.out.now) (sym (length_rows a.w a.b a.n ms ks a.p)) in
    accepted _ _ answer _ refl (rw few at c.write_rows.ensures ∙ ap₂ (λ (x y : List ℕ). x ++ y) digests places)
