-- What `split` needs of the bits of a value above zero: it is no NaN, and its field and its fraction are what `High` and `Low` say. Assumes nothing.
use mathlib.Core.Path.{◌≡◌}
use mathlib.Core.Bool.{not}
use Prim.Native.Nat.{ℕ, ◌%◌}
use lib.Dec.{T}
use lib.Bits.{bit_and, and_mask}
use lib.Ieee.{Float, nan, inf, fin, is_nan}
use lib.Ieee.Bits.{to_bits-lt}
use lib.Ieee.Positive.{positive}
use Rattle.number.specs.Order.{passed}
use Rattle.maths.proofs.Mantissa.{high_case, low_case}

pub real : (x : Float) → T (positive x) → T (not (is_nan x))
unfolding is_nan
real nan p = p
real (inf s) p = tt
real (fin s m e) p = tt

pub mask : (b : ℕ) → bit_and b 0xf_ffff_ffff_ffff ≡ b % 0x10_0000_0000_0000
mask b = and_mask b 52

pub ruleset found = (passed, real, mask, to_bits-lt, high_case, low_case)
