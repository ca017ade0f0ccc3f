-- The code tests that the equality tolerance is below +∞, which makes both tolerances finite, the slack being above 0 and below it. Assumes nothing.
use Rattle.std.specs.Prelude.{◌≡◌, refl, Bool, true, false, ◌&&◌, T, Float}
use Rattle.std.specs.Float.{nan, inf, fin}
use Rattle.std.specs.Float.Ieee.{lt, of_int}
use Rattle.std.specs.Float.Ieee.Scale.{finite}
use Rattle.number.specs.Notation.{◌≺◌, whole, +∞}

-- of two tests that pass, what may be put for a third
third : (a b c d : Bool) → (T a → T b → c ≡ d) → (a && b && c) ≡ (a && b && d)
third false b c d h = refl
third true false c d h = refl
third true true c d h = h tt tt

both_finite : (s e : Float) → T (whole 0 ≺ s) → T (s ≺ e) → (e ≺ +∞) ≡ (finite s && finite e)
unfolding lt of_int
both_finite nan e p q = absurd p
both_finite (inf true) e p q = absurd p
both_finite (inf false) nan p q = absurd q
both_finite (inf false) (inf t) p q = absurd q
both_finite (inf false) (fin t n d) p q = absurd q
both_finite (fin s m k) nan p q = absurd q
both_finite (fin s m k) (inf true) p q = absurd q
both_finite (fin s m k) (inf false) p q = refl
both_finite (fin s m k) (fin t n d) p q = refl

pub ordered : (s e : Float) → ((whole 0 ≺ s) && (s ≺ e) && (e ≺ +∞)) ≡ ((whole 0 ≺ s) && (s ≺ e) && (finite s && finite e))
ordered s e = third (whole 0 ≺ s) (s ≺ e) (e ≺ +∞) (finite s && finite e) (both_finite s e)
