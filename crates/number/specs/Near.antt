-- "Nearest" of document 01: the nearest whole number, ties away from zero.
use Rattle.std.specs.Prelude.{ℕ, ◌+◌, ◌*◌, ◌/◌, Bool, true, false, ℤ, pos, neg_ℤ, nat_lt, Float}
use Rattle.std.specs.Float.{nan, inf, fin}
use Rattle.std.specs.Float.Ieee.{up, down}

-- a / c to the nearest whole number, a half up: the whole part of a / c + 1 / 2
abbrev pub half_up : ℕ → ℕ → ℕ
half_up a c = (2 * a + c) / (2 * c)

abbrev pub with_sign : Bool → ℕ → ℤ
with_sign true n = neg_ℤ (pos n)
with_sign false n = pos n

-- The magnitude to the nearest whole number with a half up, then the sign: so ties go away from zero. It is an integer, so a zero has
-- no sign, as the document asks. (No step of the document asks for a NaN's or an infinity's, which count as 0.)
unfoldable pub nearest : Float → ℤ
nearest nan = pos 0
nearest (inf s) = pos 0
nearest (fin s m e) = with_sign s (half_up (m * up e) (down e))

-- finite, and of magnitude below n
unfoldable pub below : ℕ → Float → Bool
below n nan = false
below n (inf s) = false
below n (fin s m e) = nat_lt (m * up e) (n * down e)
