-- Values of the definitions, computed.
use Rattle.std.specs.Prelude.{ℕ, ◌≡◌, refl, negsuc, Float}
use Rattle.std.specs.Float.{nan, binary64}
use Rattle.std.specs.Float.Ieee.{to_bits}
use Rattle.number.specs.Notation.{bits, whole, integer, +∞, -∞}
use Rattle.maths.specs.Exp.{exp_of}
use Rattle.maths.specs.Ln.{ln_of}
use Rattle.maths.specs.Trig.{sin_of, cos_of, atan_of}
use Rattle.maths.specs.Cplx.{complex_ln}
use Rattle.maths.specs.Computing.{computing}

abbrev shown : Float → ℕ
shown x = to_bits binary64 x

-- ---- exp

exp_0 : exp_of (whole 0) ≡ whole 1
unfolding computing
exp_0 = refl

-- the correctly rounded exp of 1 ends in 69: here the last bit is document 01's
exp_1 : shown (exp_of (whole 1)) ≡ 0x4005BF0A8B14576A
unfolding computing
exp_1 = refl

exp_nan : exp_of nan ≡ nan
unfolding computing
exp_nan = refl

exp_710 : exp_of (whole 710) ≡ +∞
unfolding computing
exp_710 = refl

-- the largest f64 below 710 overflows too, in the last product
exp_709_9 : exp_of (bits 0x40862FFFFFFFFFFF) ≡ +∞
unfolding computing
exp_709_9 = refl

exp_minus_746 : exp_of (integer (negsuc 745)) ≡ whole 0
unfolding computing
exp_minus_746 = refl

-- the smallest subnormal
exp_minus_745 : shown (exp_of (integer (negsuc 744))) ≡ 1
unfolding computing
exp_minus_745 = refl

-- exp is not monotone: of the next number up it is one unit lower
exp_higher : shown (exp_of (bits 0xBFAFDECCAD1CC760)) ≡ 0x3FEE119F11F88672
unfolding computing
exp_higher = refl

exp_lower : shown (exp_of (bits 0xBFAFDECCAD1CC75F)) ≡ 0x3FEE119F11F88671
unfolding computing
exp_lower = refl

-- ---- ln

ln_1 : ln_of (whole 1) ≡ whole 0
unfolding computing
ln_1 = refl

ln_0 : ln_of (bits 0x8000000000000000) ≡ -∞
unfolding computing
ln_0 = refl

ln_negative : ln_of (integer (negsuc 0)) ≡ nan
unfolding computing
ln_negative = refl

-- the smallest subnormal
ln_tiny : shown (ln_of (bits 1)) ≡ 0xC0874385446D71C3
unfolding computing
ln_tiny = refl

-- the last mantissa that is not halved, and the first that is
ln_below : shown (ln_of (bits 0x3FF6A09E667F3BCD)) ≡ 0x3FD62E42FEFA39F1
unfolding computing
ln_below = refl

ln_above : shown (ln_of (bits 0x3FF6A09E667F3BCE)) ≡ 0x3FD62E42FEFA39F3
unfolding computing
ln_above = refl

-- ---- sin, cos, atan

sin_1 : shown (sin_of (whole 1)) ≡ 0x3FEAED548F090CEE
unfolding computing
sin_1 = refl

-- 2^20 is the largest that is taken
cos_far : shown (cos_of (bits 0x4130000000000000)) ≡ 0x3FEE33ADA92FE2AE
unfolding computing
cos_far = refl

sin_too_far : sin_of (bits 0x4130000000000001) ≡ nan
unfolding computing
sin_too_far = refl

atan_0_3 : shown (atan_of (bits 0x3FD3333333333333)) ≡ 0x3FD2A73A661EAF05
unfolding computing
atan_0_3 = refl

-- ---- complex ln

-- ln of -1 has the angle 400921FB54442D18
ln_minus_1 : complex_ln (record { re = integer (negsuc 0); im = whole 0 }) ≡ record { re = whole 0; im = bits 0x400921FB54442D18 }
unfolding computing
ln_minus_1 = refl

ln_3_4i_re : shown (complex_ln (record { re = whole 3; im = integer (negsuc 3) })).re ≡ 0x3FF9C041F7ED8D33
unfolding computing
ln_3_4i_re = refl

ln_3_4i_im : shown (complex_ln (record { re = whole 3; im = integer (negsuc 3) })).im ≡ 0xBFEDAC670561BB4F
unfolding computing
ln_3_4i_im = refl
