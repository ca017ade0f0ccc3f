-- exp of document 01, "Stand-ins for library mathematics": each operation rounded once, in the order shown.
use Rattle.std.specs.Prelude.{ℕ, false, ℤ, negsuc, ◌-ℤ◌, Float}
use Rattle.std.specs.Int.Signed.{shr_z}
use Rattle.std.specs.Float.{nan, fin}
use Rattle.std.specs.Float.Ieee.{is_nan}
use Rattle.number.specs.Notation.{when◌then◌else◌, ◌⊕◌, ◌⊖◌, ◌⊗◌, ◌⊘◌, ◌≼◌, bits, whole, integer, +∞}
use Rattle.number.specs.Near.{nearest}
use Rattle.maths.specs.Series.{series}

abbrev pub H : Float
H = bits 0x3FE62E42FEE00000

abbrev pub L : Float
L = bits 0x3DEA39EF35793C76

-- 2^a
abbrev pub two^ : ℤ → Float
two^ a = fin false 1 a

-- s = 1; for d = 14 down to 1, s = 1 + (r×s)/d
abbrev pub exp_step : Float → ℕ → Float → Float
exp_step r d s = whole 1 ⊕ (r ⊗ s) ⊘ whole d

unfoldable pub exp_sum : Float → Float
exp_sum r = series (exp_step r) 14 (whole 1)

-- (s×2^a)×2^(k-a), a = k/2 rounded down
unfoldable pub scaled : Float → ℤ → Float
scaled s k = let a = shr_z k 2 in (s ⊗ two^ a) ⊗ two^ (k -ℤ a)

-- r = (x - k×H) - k×L
unfoldable pub exp_at : Float → ℤ → Float
exp_at x k = scaled (exp_sum ((x ⊖ integer k ⊗ H) ⊖ integer k ⊗ L)) k

-- NaN gives NaN; x >= 710 gives +inf; x <= -746 gives +0. Else k = nearest(x×3FF71547652B82FE)
unfoldable pub exp_of : Float → Float
exp_of x = when is_nan x then nan else when whole 710 ≼ x then +∞ else when x ≼ integer (negsuc 745) then whole 0 else exp_at x (nearest (x ⊗ bits 0x3FF71547652B82FE))
