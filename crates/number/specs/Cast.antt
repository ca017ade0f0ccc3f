-- A signed integer as the machine holds it: written to 64 bits and read back. Assumes nothing.
use Rattle.std.specs.Prelude.{ℕ, zero, suc, ◌≤◌, Bool, true, false, ℤ}
use Rattle.std.proofs.Common.{le_refl, arith, to_z, of_z}
use Rattle.std.specs.Int.Signed.{mag}
use Rattle.std.specs.Int.{w64}
use Rattle.number.specs.Near.{with_sign}

abbrev pub again : ℤ → ℤ
again z = to_z w64 (of_z w64 z)

pub mag_sign : (s : Bool) (u : ℕ) → mag (with_sign s u) ≤ u
mag_sign false u = le_refl u
mag_sign true zero = le_refl 0
mag_sign true (suc u) = omega arith
