-- Complex exp and ln of document 01, "Stand-ins for library mathematics".
use Rattle.std.specs.Prelude.{Float}
use Rattle.std.specs.Float.Ieee.{eq, neg}
use Rattle.number.specs.Notation.{when◌then◌else◌, ◌⊕◌, ◌⊖◌, ◌⊗◌, ◌⊘◌, ◌≺◌, ◌≼◌, bits, whole}
use Rattle.number.specs.Sign.{abs_of, sign_bit}
use Rattle.maths.specs.declared.Complex.{Complex}
use Rattle.maths.specs.Exp.{exp_of}
use Rattle.maths.specs.Ln.{ln_of}
use Rattle.maths.specs.Trig.{sin_of, cos_of, atan_of}

-- exp(re)×cos(im), exp(re)×sin(im)
unfoldable pub complex_exp : Complex → Complex
complex_exp z = record { re = exp_of z.re ⊗ cos_of z.im; im = exp_of z.re ⊗ sin_of z.im }

-- an angle a that is not negative, with y's sign
abbrev pub signed : Float → Float → Float
signed y a = when sign_bit y then neg a else a

-- im zero: ln|re|; the angle is im, or 400921FB54442D18 with im's sign where re's sign bit is set
unfoldable pub real_ln : Complex → Complex
real_ln z = record { re = ln_of (abs_of z.re); im = when sign_bit z.re then signed z.im (bits 0x400921FB54442D18) else z.im }

-- ln M + 0.5×ln(1 + q×q)
unfoldable pub log_size : Float → Float → Float
log_size M q = ln_of M ⊕ bits 0x3FE0000000000000 ⊗ ln_of (whole 1 ⊕ q ⊗ q)

-- for re < 0 subtract it from 400921FB54442D18; im's sign
unfoldable pub angle : Complex → Float → Float
angle z t = signed z.im (when z.re ≺ whole 0 then bits 0x400921FB54442D18 ⊖ t else t)

-- Else M, N the larger and smaller of |re|, |im|, q = N/M; the angle is atan(|im|/|re|) if |im| <= |re|, else
-- 3FF921FB54442D18 - atan(|re|/|im|). Either way the quotient is q. (Where one of the two is a NaN, so is the result.)
unfoldable pub other_ln : Complex → Complex
other_ln z =
    let a = abs_of z.re in
    let b = abs_of z.im in
    when b ≼ a then record { re = log_size a (b ⊘ a); im = angle z (atan_of (b ⊘ a)) } else record { re = log_size b (a ⊘ b); im = angle z (bits 0x3FF921FB54442D18 ⊖ atan_of (a ⊘ b)) }

unfoldable pub complex_ln : Complex → Complex
complex_ln z = when eq z.im (whole 0) then real_ln z else other_ln z
