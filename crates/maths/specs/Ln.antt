-- ln of document 01, "Stand-ins for library mathematics": each operation rounded once, in the order shown.
use Rattle.std.specs.Prelude.{ℕ, ◌-◌, ◌*◌, ℤ, pos, neg_ℤ, ◌+ℤ◌, Float}
use Rattle.std.specs.Float.{nan, inf, fin}
use Rattle.std.specs.Float.Ieee.{is_nan, eq, size}
use Rattle.number.specs.Notation.{when◌then◌else◌, ◌⊕◌, ◌⊖◌, ◌⊗◌, ◌⊘◌, ◌≺◌, bits, whole, integer, +∞, -∞}
use Rattle.maths.specs.Series.{series}
use Rattle.maths.specs.Exp.{H, L}

-- S = 1/23; for j = 21, 19 .. 1, S = 1/j + w×S
abbrev pub ln_step : Float → ℕ → Float → Float
ln_step w i S = whole 1 ⊘ whole (2 * i - 1) ⊕ w ⊗ S

unfoldable pub ln_sum : Float → Float
ln_sum w = series (ln_step w) 11 (whole 1 ⊘ whole 23)

-- f = (m-1)/(m+1), w = f×f. Result e×H + ((2×f)×S + e×L)
unfoldable pub ln_at : Float → ℤ → Float
ln_at m e =
    let f = (m ⊖ whole 1) ⊘ (m ⊕ whole 1) in
    integer e ⊗ H ⊕ ((whole 2 ⊗ f) ⊗ ln_sum (f ⊗ f) ⊕ integer e ⊗ L)

-- if m > 3FF6A09E667F3BCD, halve m and add 1 to e
unfoldable pub ln_from : Float → ℤ → Float
ln_from m e = when bits 0x3FF6A09E667F3BCD ≺ m then ln_at (m ⊘ whole 2) (e +ℤ pos 1) else ln_at m e

-- x = m×2^e, 1 <= m < 2, for an x that is finite and above zero, subnormals included: `fin s n d` is n×2^d, and n has `size n`
-- binary digits, so the point goes after the first of them. (What is not finite has no such m and e, and nobody asks.)
unfoldable pub mantissa : Float → Float
mantissa nan = nan
mantissa (inf s) = nan
mantissa (fin s n d) = fin s n (neg_ℤ (pos (size n - 1)))

unfoldable pub exponent : Float → ℤ
exponent nan = pos 0
exponent (inf s) = pos 0
exponent (fin s n d) = d +ℤ pos (size n - 1)

-- NaN and x < 0 give NaN, either zero -inf, +inf itself
unfoldable pub ln_of : Float → Float
ln_of x = when is_nan x then nan else when x ≺ whole 0 then nan else when eq x (whole 0) then -∞ else when eq x +∞ then +∞ else ln_from (mantissa x) (exponent x)
