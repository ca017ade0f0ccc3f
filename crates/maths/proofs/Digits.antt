-- The bit pattern of a finite value above zero, from its form n * 2 ^ d: a field, and n's digits moved up to 53. Assumes nothing.
use mathlib.Core.Path.{◌≡◌, ap, sym, ◌∙◌, subst}
use Prim.Native.Nat.{ℕ, zero, suc, ◌+◌, ◌-◌, ◌*◌, ◌/◌, ◌%◌, ◌^◌, ◌≤◌, ◌<◌}
use native.Mathlib.Nat.{le_trans, le_of_eq, le_antisymm, lt_irrefl, lt_of_lt_of_le, lt_of_le_of_lt, lt_of_not-le, mul_assoc, mul-div_cancel, mul-le-mul_right, mul-lt-mul_of_pos_right, div-one, zero-add}
use native.Mathlib.Omega.{arith}
use mathlib.Core.Bool.{false, ◌&&◌}
use lib.IntN.{ℤ}
use lib.Dec.{T, ltb, leb, eqb, lt→ltb, le→leb}
use lib.Pow.{pow_pos, pow-add, pow_mono}
use lib.Ieee.{fin, binary64, up, down, minus, size, to_bits, of_bits, fits}
use lib.Ieee.Digits.{size-lt, size-le, size_reaches}
use lib.Ieee.Fits.{down_pos, and_i, eq→eqb}
use lib.Ieee.Bits.{of_bits-to_bits}
use Rattle.number.specs.Round.{units_at}
use Rattle.number.specs.Pattern.{pattern, to_bits_is}

-- ---- how many digits
pow_lt_back : (i p : ℕ) → 2 ^ i < 2 ^ p → i < p
pow_lt_back i p h = lt_of_not-le (λ (g : p ≤ i). lt_irrefl (2 ^ i) (lt_of_lt_of_le h (pow_mono g)))

pub size_pos : (n : ℕ) → 0 < n → 0 < size n
size_pos n h = pow_lt_back 0 (size n) (lt_of_le_of_lt h (size-lt n))

pub size_is : (a n : ℕ) → 2 ^ a ≤ n → n < 2 ^ suc a → size n ≡ suc a
size_is a n lo hi = le_antisymm (size-le n (suc a) hi) (pow_lt_back a (size n) (lt_of_le_of_lt lo (size-lt n)))

-- n * 2 ^ i has i digits more
top_at : (n i : ℕ) → 0 < n → (2 ^ (size n - 1 + i) ≤ n * 2 ^ i) × (n * 2 ^ i < 2 ^ (size n + i))
top_at n i h = (
  le_trans (le_of_eq (pow-add 2 (size n - 1) i)) (mul-le-mul_right (2 ^ i) (size_reaches n (size n - 1) (omega (arith, size_pos n h)))),
  lt_of_lt_of_le (mul-lt-mul_of_pos_right (size-lt n) (pow_pos i)) (le_of_eq (sym (pow-add 2 (size n) i))),
)

pub size_shift : (n i : ℕ) → 0 < n → size (n * 2 ^ i) ≡ size n + i
size_shift n i h =
    let t = top_at n i h in
    let z = size_pos n h in
    let e : suc (size n - 1 + i) ≡ size n + i = omega arith in
    size_is (size n - 1 + i) (n * 2 ^ i) t.0 (subst (λ (k : ℕ). n * 2 ^ i < 2 ^ k) (sym e) t.1) ∙ e

-- ---- the pattern of n * 2 ^ j of the smallest values
module _ (n : ℕ) (h : 0 < n) (small : n < 2 ^ 53) where
  pub few : size n ≤ 53
  few = size-le n 53 small

  -- n's digits, moved up to 53
  abbrev pub digits : ℕ
  digits = n * 2 ^ (53 - size n)

  pub digits_ge : 2 ^ 52 ≤ digits
  digits_ge = let e : size n - 1 + (53 - size n) ≡ 52 = omega (arith, size_pos n h, few) in subst (λ (k : ℕ). 2 ^ k ≤ digits) e (top_at n (53 - size n) h).0

  pub digits_lt : digits < 2 ^ 53
  digits_lt = let e : size n + (53 - size n) ≡ 53 = omega (arith, few) in subst (λ (k : ℕ). digits < 2 ^ k) e (top_at n (53 - size n) h).1

  module _ (j : ℕ) where
    shifted : pattern binary64 (n * 2 ^ j) ≡ (size n + j - 53) * 2 ^ 52 + n * 2 ^ j / 2 ^ (size n + j - 53)
    shifted = ap (λ (y : ℕ). (y - 53) * 2 ^ 52 + n * 2 ^ j / 2 ^ (y - 53)) (size_shift n j h)

    pub normal : 53 ≤ size n + j → pattern binary64 (n * 2 ^ j) ≡ (size n + j - 53) * 2 ^ 52 + digits
    normal g =
        let k = size n + j - 53 in
        let e : j ≡ 53 - size n + k = omega (arith, few) in
        shifted
        ∙ ap (λ (y : ℕ). k * 2 ^ 52 + n * 2 ^ y / 2 ^ k) e
        ∙ ap (λ (y : ℕ). k * 2 ^ 52 + y / 2 ^ k) (ap (λ (y : ℕ). n * y) (pow-add 2 (53 - size n) k) ∙ sym (mul_assoc n (2 ^ (53 - size n)) (2 ^ k)))
        ∙ ap (λ (y : ℕ). k * 2 ^ 52 + y) (mul-div_cancel digits (pow_pos k))

    pub subnormal : size n + j < 53 → (pattern binary64 (n * 2 ^ j) ≡ n * 2 ^ j) × (n * 2 ^ j < 2 ^ 52)
    subnormal g =
        let e : size n + j - 53 ≡ 0 = omega arith in (
          shifted ∙ ap (λ (y : ℕ). y * 2 ^ 52 + n * 2 ^ j / 2 ^ y) e ∙ zero-add (n * 2 ^ j / 1) ∙ div-one (n * 2 ^ j),
          lt_of_lt_of_le (top_at n j h).1 (pow_mono {j = 52} (omega arith)),
        )

-- ---- of a value
pub bits_at : (n j : ℕ) (e : ℤ) → minus j 1074 ≡ e → to_bits binary64 (fin false n e) ≡ pattern binary64 (n * 2 ^ j)
bits_at n j e i =
    to_bits_is binary64 n e
    ∙ ap (pattern binary64) (ap (λ (y : ℕ). y / down e) (units_at e 1074 j i n) ∙ mul-div_cancel (n * 2 ^ j) (down_pos e))

-- a value is read back from its pattern, once it is known to fit
pub fits_i : (n : ℕ) (e : ℤ) → n % 2 ≡ 1 → n < 2 ^ 53 → down e ≤ 2 ^ 1074 → n * up e < 2 ^ 1024 * down e → T (fits binary64 (fin false n e))
unfolding fits
fits_i zero e o s p q = absurd (omega arith)
fits_i (suc n) e o s p q =
    let a = eqb (suc n % 2) 1 in
    let b = ltb (suc n) (2 ^ 53) in
    let c = leb (down e) (2 ^ 1074) in
    and_i (a && b && c) (ltb (suc n * up e) (2 ^ 1024 * down e)) (and_i (a && b) c (and_i a b (eq→eqb o) (lt→ltb (suc n) (2 ^ 53) s)) (le→leb (down e) (2 ^ 1074) p)) (lt→ltb (suc n * up e) (2 ^ 1024 * down e) q)

pub read_back : (n j b : ℕ) (e : ℤ) → T (fits binary64 (fin false n e)) → minus j 1074 ≡ e → b ≡ pattern binary64 (n * 2 ^ j) → of_bits binary64 b ≡ fin false n e
read_back n j b e f i p = ap (of_bits binary64) (p ∙ sym (bits_at n j e i)) ∙ of_bits-to_bits binary64 (fin false n e) f
