-- What the search finds for digests is the count that is proved of 1 and 17.
use mathlib.Core.Path.{◌≡◌, refl, sym, ◌∙◌}
use mathlib.Core.List.{[], ◌∷◌}
use native.Mathlib.Nat.{le_of_eq, le_trans}
use native.Mathlib.Omega.{arith}
use Rattle.theory_digest.specs.TightPair.{SevenBits}
use Rattle.theory_digest.proofs.Corollaries.{collide_differ}
use Rattle.theory_digest.proofs.TightPair.{seven_bits}
use Rattle.theory_pairs.specs.Agree.{agreeing}
use Rattle.theory_pairs.specs.Search.{is_pair, of_pair}
use Rattle.theory_pairs.specs.Found.{FoundCount, FoundAtLeast}

of_the_pair : agreeing 0 1 17 ≡ 240
unfolding agreeing SevenBits
of_the_pair = collide_differ 7 7 1 1 (1 ∷ []) (17 ∷ []) ∙ seven_bits

pub found_count : FoundCount
unfolding FoundCount of_pair
found_count largest pairs l = sym l.1.reached ∙ of_the_pair

pub found_at_least : FoundAtLeast
unfolding FoundAtLeast is_pair of_pair
found_at_least largest first second pairs l = le_trans (le_of_eq (sym of_the_pair)) (l.1.most 145 (omega arith) refl)
