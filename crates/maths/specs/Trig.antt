-- sin, cos and atan of document 01, "Stand-ins for library mathematics": each operation rounded once, in the order shown.
use Rattle.std.specs.Prelude.{ℕ, ◌+◌, ◌-◌, ◌*◌, ◌%◌, ◌^◌, eqb, ℤ, pos, negsuc, Option, Some, None, Float}
use Rattle.std.specs.Float.{nan}
use Rattle.std.specs.Float.Ieee.{is_nan, neg}
use Rattle.number.specs.Notation.{when◌then◌else◌, ◌⊕◌, ◌⊖◌, ◌⊗◌, ◌⊘◌, ◌≺◌, bits, whole, integer, decimal}
use Rattle.number.specs.Sign.{abs_of}
use Rattle.number.specs.Near.{nearest}
use Rattle.maths.specs.declared.Turn.{Turn}
use Rattle.maths.specs.Series.{series}

-- ---- sin and cos

-- n = nearest(b×3FE45F306DC9C883)
unfoldable pub turns : Float → ℤ
turns b = nearest (b ⊗ bits 0x3FE45F306DC9C883)

-- r = (b - n×3FF921FB54400000) - n×3DD0B4611A626331
unfoldable pub rest : Float → ℤ → Float
rest b n = (b ⊖ integer n ⊗ bits 0x3FF921FB54400000) ⊖ integer n ⊗ bits 0x3DD0B4611A626331

-- S = 1; d = 16, 14 .. 2: S = 1 - (w×S)/(d(d+1)); s = r×S
abbrev pub sin_step : Float → ℕ → Float → Float
sin_step w i S = let d = 2 * i in whole 1 ⊖ (w ⊗ S) ⊘ whole (d * (d + 1))

unfoldable pub sin_at : Float → Float
sin_at r = r ⊗ series (sin_step (r ⊗ r)) 8 (whole 1)

-- C = 1; d = 18, 16 .. 2: C = 1 - (w×C)/((d-1)d)
abbrev pub cos_step : Float → ℕ → Float → Float
cos_step w i C = let d = 2 * i in whole 1 ⊖ (w ⊗ C) ⊘ whole ((d - 1) * d)

unfoldable pub cos_at : Float → Float
cos_at r = series (cos_step (r ⊗ r)) 9 (whole 1)

-- n mod 4, never negative
abbrev pub quarter : ℤ → ℕ
quarter (pos k) = k % 4
quarter (negsuc k) = 3 - k % 4

-- none for NaN or |b| > 2^20, which is too far
unfoldable pub turn_of : Float → Option Turn
turn_of b = when is_nan b then None else when whole (2 ^ 20) ≺ abs_of b then None else Some (record { quarter = quarter (turns b); rest = rest b (turns b) })

-- by n mod 4: sin is s, C, -s, -C; cos is C, -s, -C, s
unfoldable pub sin_by : ℕ → Float → Float
sin_by q r = when eqb q 0 then sin_at r else when eqb q 1 then cos_at r else when eqb q 2 then neg (sin_at r) else neg (cos_at r)

unfoldable pub cos_by : ℕ → Float → Float
cos_by q r = when eqb q 0 then cos_at r else when eqb q 1 then neg (sin_at r) else when eqb q 2 then neg (cos_at r) else sin_at r

-- what is too far gives NaN
abbrev pub turned : (ℕ → Float → Float) → Option Turn → Float
turned by None = nan
turned by (Some t) = by t.quarter t.rest

unfoldable pub sin_of : Float → Float
sin_of b = turned sin_by (turn_of b)

unfoldable pub cos_of : Float → Float
cos_of b = turned cos_by (turn_of b)

-- ---- atan

-- S = 1/43; j = 41, 39 .. 1: S = 1/j - w×S
abbrev pub atan_step : Float → ℕ → Float → Float
atan_step w i S = whole 1 ⊘ whole (2 * i - 1) ⊖ w ⊗ S

unfoldable pub atan_sum : Float → Float
atan_sum w = series (atan_step w) 21 (whole 1 ⊘ whole 43)

-- w = u×u. Result base + u×S
unfoldable pub atan_at : Float → Float → Float
atan_at base u = base ⊕ u ⊗ atan_sum (u ⊗ u)

-- if t > 0.4142, u = (t-1)/(t+1), base 3FE921FB54442D18; else u = t, base 0
unfoldable pub atan_of : Float → Float
atan_of t = when decimal 4142 10000 ≺ t then atan_at (bits 0x3FE921FB54442D18) ((t ⊖ whole 1) ⊘ (t ⊕ whole 1)) else atan_at (whole 0) t
