-- The library's test for a finite value. Assumes nothing.
use mathlib.Core.Path.{◌≡◌, refl}
use lib.Ieee.{Float, nan, inf, fin}
use lib.Ieee.Scale.{finite}
use Rattle.std.specs.Float.{float_is_finite}

pub finite_test : (x : Float) → float_is_finite x ≡ finite x
unfolding float_is_finite
finite_test nan = refl
finite_test (inf s) = refl
finite_test (fin s m e) = refl
