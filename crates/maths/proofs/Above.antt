-- What the tests of `ln` leave: +inf, or a finite value above zero. Assumes nothing.
use mathlib.Core.Path.{◌≡◌, refl}
use mathlib.Core.Bool.{Bool, true, false}
use Prim.Native.Nat.{ℕ, zero, suc, ◌+◌, ◌*◌, ◌<◌}
use native.Mathlib.Nat.{mul-pos, zero-mul, zero-lt-suc}
use native.Mathlib.Omega.{arith}
use lib.Dec.{T, lt→ltb}
use borrow.Author.Tests.{ltb-false}
use lib.Ieee.Fits.{up_pos}
use lib.Ieee.{Float, nan, inf, fin, up, down, is_nan, level, lt, eq, of_bits}
use lib.Ieee.Positive.{positive}
use Rattle.number.specs.Notation.{bits}

-- only +inf equals +inf
pub is_inf : (x : Float) → eq x (bits 0x7ff0_0000_0000_0000) ≡ true → x ≡ inf false
unfolding eq of_bits
is_inf nan h = cc
is_inf (inf true) h = cc
is_inf (inf false) h = refl
is_inf (fin s m e) h = cc

zero_level : (s : Bool) (a b : ℕ) → a ≡ 0 → b ≡ 0 → level s a false b ≡ true
zero_level true a b p q = simp (p, q)
zero_level false a b p q = simp (p, q)

pub above : (x : Float) → is_nan x ≡ false → lt x (bits 0) ≡ false → eq x (bits 0) ≡ false → eq x (bits 0x7ff0_0000_0000_0000) ≡ false → T (positive x)
unfolding is_nan lt eq of_bits
above nan a b c d = cc
above (inf true) a b c d = cc
above (inf false) a b c d = cc
above (fin true zero e) a b c d = let z = zero_level true (0 * up e * 1) (0 * down e) (simp zero-mul) (zero-mul (down e)) in cc
above (fin true (suc m) e) a b c d = let h : 0 < suc m * up e = mul-pos (zero-lt-suc m) (up_pos e) in absurd (omega (arith, ltb-false 0 (suc m * up e * 1 + 0 * down e) b))
above (fin false zero e) a b c d = let z = zero_level false (0 * up e * 1) (0 * down e) (simp zero-mul) (zero-mul (down e)) in cc
above (fin false (suc m) e) a b c d = lt→ltb 0 (suc m) (omega arith)
