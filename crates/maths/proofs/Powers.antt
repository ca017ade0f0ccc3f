-- 2^a by its bit pattern: the field is a + 1023. Assumes nothing.
use mathlib.Core.Path.{◌≡◌, refl, ap, sym, ◌∙◌, subst}
use Rattle.std.proofs.lemmas.Bool.Decides.{nat_tests}
use Rattle.std.proofs.lemmas.Grind.{common_steps}
use borrow.Author.Differences.{ints}
use Prim.Native.Nat.{ℕ, suc, ◌+◌, ◌-◌, ◌*◌, ◌%◌, ◌^◌, ◌<◌}
use native.Mathlib.Nat.{one-mul, mul-one, mul-le-mul, lt_of_lt_of_le}
use native.Mathlib.Omega.{arith}
use mathlib.Core.Bool.{false}
use lib.IntN.{ℤ, pos, negsuc, nat_abs, ◌+ℤ◌}
use lib.Signed.{mag}
use lib.Dec.{T, lit<, lit≤}
use lib.Pow.{pow-lt, pow_mono, pow_pos}
use lib.Ieee.{fin, binary64, minus, size, of_bits, fits}
use Rattle.number.specs.Cast.{again}
use Rattle.maths.proofs.Digits.{digits, normal, fits_i, read_back}

-- ---- a + 1023 as a field
pub record Biased (a : ℤ) : Type 0 where
  pub n : ℕ
  pub small : n < 2045
  pub sum : a +ℤ pos 1023 ≡ pos (suc n)
  pub exponent : minus (n + 52) 1074 ≡ a

biased : (a : ℤ) → mag a < 1022 → Biased a
biased (pos k) h = record { n = k + 1022; small = omega arith; sum = grind arith; exponent = grind (arith, nat_tests) }
biased (negsuc k) h = record { n = 1021 - k; small = omega arith; sum = grind (arith, nat_tests); exponent = grind (arith, nat_tests) }

power_fits : (a : ℤ) → mag a < 1022 → T (fits binary64 (fin false 1 a))
power_fits (pos k) h = fits_i 1 (pos k) refl (lit< tt) (pow_pos 1074) (subst (λ (z : ℕ). z < 2 ^ 1024 * 1) (sym (one-mul (2 ^ k))) (subst (λ (z : ℕ). 2 ^ k < z) (sym (mul-one (2 ^ 1024))) (pow-lt {j = 1024} (omega arith))))
power_fits (negsuc k) h = fits_i 1 (negsuc k) refl (lit< tt) (pow_mono {j = 1074} (omega arith)) (lt_of_lt_of_le {m = 2 * 1} (lit< tt) (mul-le-mul {n₁ = 2} {n₂ = 2 ^ 1024} (lit≤ tt) (pow_pos (suc k))))

-- its only digit, moved up to 53
field : (n : ℕ) → suc n * 2 ^ 52 ≡ (size 1 + (n + 52) - 53) * 2 ^ 52 + digits 1 (lit< tt) (lit< tt)
unfolding size
field n = omega arith

power : (a : ℤ) (i : Biased a) → T (fits binary64 (fin false 1 a)) → of_bits binary64 (suc i.n * 2 ^ 52) ≡ fin false 1 a
unfolding size
power a i f = read_back 1 (i.n + 52) (suc i.n * 2 ^ 52) a f i.exponent (field i.n ∙ sym (normal 1 (lit< tt) (lit< tt) (i.n + 52) (omega arith)))

-- ---- the machine's steps
module _ (a : ℤ) (h : mag a < 1022) where
  i : Biased a
  i = biased a h

  bits_are : nat_abs (again (again a +ℤ pos 1023)) * 2 ^ 52 % 2 ^ 64 ≡ suc i.n * 2 ^ 52
  bits_are = grind (arith, ints, common_steps, i.sum, i.small)

  pub value_is : of_bits binary64 (nat_abs (again (again a +ℤ pos 1023)) * 2 ^ 52 % 2 ^ 64) ≡ fin false 1 a
  value_is = ap (of_bits binary64) bits_are ∙ power a i (power_fits a h)
