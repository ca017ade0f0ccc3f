-- The library's magnitude and sign are the definitions'. Assumes nothing.
use Rattle.std.proofs.Common.{◌≡◌, true, false, refl}
use Rattle.std.specs.Float.{float_with_sign, is_sign_negative}
use lib.Ieee.{Float, nan, inf, fin, is_nan}
use Rattle.number.specs.Sign.{abs_of, sign_bit}

pub magnitude : (x : Float) → float_with_sign false x ≡ abs_of x
unfolding float_with_sign abs_of
magnitude nan = refl
magnitude (inf s) = refl
magnitude (fin s m e) = refl

pub sign : (x : Float) → is_sign_negative x ≡ sign_bit x
unfolding is_sign_negative sign_bit
sign nan = refl
sign (inf s) = refl
sign (fin s m e) = refl

pub unsigned : (x : Float) → is_nan x ≡ true → sign_bit x ≡ false
unfolding is_nan sign_bit
unsigned nan h = refl
unsigned (inf s) h = cc
unsigned (fin s m e) h = cc
