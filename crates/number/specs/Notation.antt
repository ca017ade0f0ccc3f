-- The notation that every definition uses: a conditional, and the f64 operations as symbols. Each operation rounds once (IEEE 754, 4.3.1).
use Rattle.std.specs.Prelude.{ℕ, Bool, true, false, ℤ, pos, from_bits, Float}
use Rattle.std.specs.Float.{inf, binary64}
use Rattle.std.specs.Float.Ieee.{add, sub, mul, div, lt, le, round, of_int}

infix 10 when◌then◌else◌
infixl 65 ◌⊕◌
infixl 65 ◌⊖◌
infixl 70 ◌⊗◌
infixl 70 ◌⊘◌
infix 50 ◌≺◌
infix 50 ◌≼◌
-- Shut unless a proof opens it, so that the checker sees the test and the two values.
unfoldable pub when◌then◌else◌ : {A : Type 0} → Bool → A → A → A
when true then x else y = x
when false then x else y = y

-- sum, difference, product, quotient
abbrev pub ◌⊕◌ : Float → Float → Float
x ⊕ y = add binary64 x y

abbrev pub ◌⊖◌ : Float → Float → Float
x ⊖ y = sub binary64 x y

abbrev pub ◌⊗◌ : Float → Float → Float
x ⊗ y = mul binary64 x y

abbrev pub ◌⊘◌ : Float → Float → Float
x ⊘ y = div binary64 x y

-- below; below or equal (5.11): both are false with a NaN, and the two zeros are equal
abbrev pub ◌≺◌ : Float → Float → Bool
x ≺ y = lt x y

abbrev pub ◌≼◌ : Float → Float → Bool
x ≼ y = le x y

-- an f64 by its bits; a whole number; an integer; a decimal, which is the f64 nearest to n / d
abbrev pub bits : ℕ → Float
bits b = from_bits binary64 b

abbrev pub whole : ℕ → Float
whole n = of_int binary64 (pos n)

abbrev pub integer : ℤ → Float
integer z = of_int binary64 z

abbrev pub decimal : ℕ → ℕ → Float
decimal n d = round binary64 false n d

abbrev pub +∞ : Float
+∞ = inf false

abbrev pub -∞ : Float
-∞ = inf true
