-- `digest_code::decimal::power_of_ten` meets its contract: 10 ^ 9 is below 2 ^ 64.
use Prim.Native.Nat.{◌≤◌}
use native.Mathlib.Nat.{pow-le-pow_right, zero-lt-suc}
use native.Mathlib.Omega.{arith}
use Rattle.digest_code.proofs.decimal.power_of_ten.Goals as goal

pub pow-requires : goal.pow-requires
pow-requires c =
    let nine : c.min.result ≤ 9 = omega arith in
    omega (arith, pow-le-pow_right {n = 10} (zero-lt-suc 9) nine)
