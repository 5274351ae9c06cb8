-- Counts that end at the greatest that is told.
use Rattle.std.proofs.Common.{◌≡◌, ◌≤◌, ◌+◌, ◌*◌, ℕ, zero, suc, min, Bool, true, false, nat_le, refl, arith}
use Rattle.std.proofs.Math.Nat.{mul-le-mul, le_refl}
use Rattle.std.proofs.lemmas.Bool.{leb-true}
use Rattle.std.proofs.lemmas.Bool.Decides.{nat_tests}

-- a sum of told counts, told, is the sum told
pub told_plus : (a b : ℕ) → min (min a 18446744073709551615 + min b 18446744073709551615) 18446744073709551615 ≡ min (a + b) 18446744073709551615
told_plus a b = omega arith

times_at : (a b : ℕ) (small : Bool) → nat_le b 18446744073709551615 ≡ small → min (suc a * min b 18446744073709551615) 18446744073709551615 ≡ min (suc a * b) 18446744073709551615
times_at a b true is =
    let few : b ≤ 18446744073709551615 = leb-true b 18446744073709551615 is in
    let same : min b 18446744073709551615 ≡ b = omega arith in
    rw same refl
times_at a b false is =
    let large : 18446744073709551615 ≤ b = grind (arith, nat_tests) in
    let one : 1 ≤ suc a = omega arith in
    let least : 1 * 18446744073709551615 ≤ suc a * 18446744073709551615 = mul-le-mul one (le_refl 18446744073709551615) in
    let more : suc a * 18446744073709551615 ≤ suc a * b = mul-le-mul (le_refl (suc a)) large in
    let same : min b 18446744073709551615 ≡ 18446744073709551615 = omega arith in
    rw same (omega (arith, least, more))

-- a product with a told count, told, is the product told
pub told_times : (a b : ℕ) → min (a * min b 18446744073709551615) 18446744073709551615 ≡ min (a * b) 18446744073709551615
told_times zero b = omega arith
told_times (suc a) b = times_at a b (nat_le b 18446744073709551615) refl
