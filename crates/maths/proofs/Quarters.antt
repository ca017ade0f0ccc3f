-- cos is sin one quarter turn further. Assumes nothing.
use mathlib.Core.Path.{◌≡◌, refl}
use Prim.Native.Nat.{ℕ, zero, suc, ◌+◌, ◌%◌, ◌<◌}
use native.Mathlib.Omega.{arith}
use lib.Ieee.{Float}
use Rattle.number.specs.Notation.{when◌then◌else◌}
use Rattle.maths.specs.Trig.{sin_by, cos_by}

pub further : (q : ℕ) (r : Float) → q < 4 → sin_by ((q + 1) % 4) r ≡ cos_by q r
unfolding sin_by cos_by when◌then◌else◌
further zero r h = refl
further (suc zero) r h = refl
further (suc (suc zero)) r h = refl
further (suc (suc (suc zero))) r h = refl
further (suc (suc (suc (suc q)))) r h = absurd (omega arith)
