-- `sum_walk::WordBits::add_pair` meets its contract, by the laws of the gathered bits.
use Rattle.std.proofs.Common.{◌≡◌, ◌<◌, ◌^◌, get_or, true, not, eqb, arith, rules}
use Rattle.std.proofs.lemmas.Bool.Decides.{nat_tests}
use Rattle.sum_walk.proofs.Turns.{bits_keys, bits_both}
use Rattle.sum_walk.proofs.WordBits.add_pair.Goals as goal
use Rattle.sum_walk.proofs.WordBits.add_pair.Goals.{then-this-ne0, else-this-ne0}

pub returns : goal.returns
returns g c =
    let a = c.args in
    let s = a.self.now in
    let keys = c.pair.ensures in
    let small : get_or a.key.now a.j 0 < 2 ^ 32 = omega (arith, c.type_inv.key a.j) in
    elim c.if-this-ne0.branch [
      | then-this-ne0 w ↦
          let tested : not (eqb g.row.TESTED 0) ≡ true = grind (arith, nat_tests, w.if-this-ne0.true) in
          rw (w.self-is, tested, w.from.ensures, w.from-then-this-ne0.ensures, keys) (bits_both s.even s.odd s.keys a.first a.second _ _ small (search rules) (search rules))
      | else-this-ne0 w ↦ rw (w.self-is, w.if-this-ne0.false, keys) (bits_keys s.even s.odd s.keys a.first a.second _ _ small)
    ]
