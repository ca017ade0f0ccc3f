-- Values of the definitions, computed.
use Rattle.std.specs.Prelude.{◌≡◌, true, false, pos, negsuc, refl, Float}
use Rattle.std.specs.Float.{nan, fin, binary64}
use Rattle.number.specs.Notation.{bits, whole, +∞}
use Rattle.number.specs.Near.{nearest}
use Rattle.number.specs.MaxMin.{max_of, min_of}
use Rattle.number.specs.Next.{next_up, next_down}
use Rattle.number.specs.Computing.{computing}

abbrev +0 : Float
+0 = fin false 0 (pos 0)

abbrev -0 : Float
-0 = fin true 0 (pos 0)

-- a NaN yields the other operand, a zero too
max_nan : max_of nan (whole 2) ≡ whole 2
unfolding computing
max_nan = refl

max_nan_zero : (max_of nan -0 ≡ -0) × (max_of +0 nan ≡ +0)
unfolding computing
max_nan_zero = (refl, refl)

min_nan_zero : (min_of nan +0 ≡ +0) × (min_of -0 nan ≡ -0)
unfolding computing
min_nan_zero = (refl, refl)

-- of two NaNs a NaN
no_number : (max_of nan nan ≡ nan) × (min_of nan nan ≡ nan)
unfolding computing
no_number = (refl, refl)

-- -0 is below +0
max_zeros : (max_of -0 -0 ≡ -0) × (max_of -0 +0 ≡ +0) × (max_of +0 -0 ≡ +0) × (max_of +0 +0 ≡ +0)
unfolding computing
max_zeros = (refl, refl, refl, refl)

min_zeros : (min_of -0 -0 ≡ -0) × (min_of -0 +0 ≡ -0) × (min_of +0 -0 ≡ -0) × (min_of +0 +0 ≡ +0)
unfolding computing
min_zeros = (refl, refl, refl, refl)

-- ties away from zero
nearest_tie : nearest (fin true 5 (negsuc 0)) ≡ negsuc 2
unfolding computing
nearest_tie = refl

-- at either zero, around 1, and at the ends
up_from_zero : next_up binary64 -0 ≡ bits 1
unfolding computing
up_from_zero = refl

down_from_one : next_down binary64 (whole 1) ≡ bits 0x3FEFFFFFFFFFFFFF
unfolding computing
down_from_one = refl

up_from_tiny : next_up binary64 (bits 0x8000000000000001) ≡ -0
unfolding computing
up_from_tiny = refl

up_to_infinity : next_up binary64 (bits 0x7FEFFFFFFFFFFFFF) ≡ +∞
unfolding computing
up_to_infinity = refl
