-- Numbers as the code's literals have them, by their bits, and as the definitions do. Assumes nothing.
use Rattle.std.specs.Prelude.{◌≡◌, refl}
use Rattle.std.specs.Float.{binary64}
use Rattle.std.specs.Float.Ieee.{div, of_bits, of_int}
use Rattle.number.specs.Notation.{bits, whole, +∞, -∞}

pub zero_is : whole 0 ≡ bits 0
unfolding of_int of_bits
zero_is = refl

pub one_is : bits 0x3ff0_0000_0000_0000 ≡ whole 1
unfolding of_bits of_int
one_is = refl

-- 1.0 / 0.0
pub infinite : div binary64 (bits 0x3ff0_0000_0000_0000) (bits 0) ≡ +∞
unfolding div of_bits
infinite = refl

-- f64::INFINITY and f64::NEG_INFINITY
pub infinity_is : bits 0x7ff0_0000_0000_0000 ≡ +∞
unfolding of_bits
infinity_is = refl

pub minus_infinity_is : bits 0xfff0_0000_0000_0000 ≡ -∞
unfolding of_bits
minus_infinity_is = refl
