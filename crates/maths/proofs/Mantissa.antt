-- The split of a positive value in `ln`: its field and fraction give the mantissa and the exponent. Assumes nothing.
use mathlib.Core.Path.{◌≡◌, refl, ap, sym, ◌∙◌}
use mathlib.Core.Logic.{inl, inr}
use Rattle.std.proofs.lemmas.Bool.{cases_lt}
use Rattle.std.proofs.lemmas.Bool.Decides.{nat_tests}
use borrow.Author.Differences.{ints}
use Prim.Native.Nat.{ℕ, zero, suc, ◌+◌, ◌-◌, ◌*◌, ◌/◌, ◌%◌, ◌^◌, ◌≤◌, ◌<◌}
use native.Mathlib.Nat.{le_refl, lt_of_lt_of_le, mul_assoc, mul-pos, mul-le-mul, mul-lt-mul_of_pos_right}
use native.Mathlib.Omega.{arith}
use mathlib.Core.Bool.{true, false, ◌&&◌}
use lib.IntN.{ℤ, pos, negsuc, neg_ℤ, ◌+ℤ◌, ◌-ℤ◌}
use lib.Dec.{T, lit<, lit≤, ltb, leb, eqb, eqb→eq}
use lib.Pow.{pow_pos, pow-add, pow_mono}
use lib.Count.{count_leading_zeros, leading_top}
use lib.Ieee.{Float, nan, inf, fin, binary64, up, down, minus, size, of_bits, to_bits, fits}
use lib.Ieee.Fits.{and_l}
use lib.Ieee.Positive.{positive}
use Rattle.number.specs.Round.{fits_parts, exponent_at}
use Rattle.number.specs.Pattern.{pattern}
use Rattle.maths.specs.Ln.{mantissa, exponent}
use Rattle.maths.proofs.Digits.{size_pos, size_is, size_shift, few, digits, digits_ge, digits_lt, normal, subnormal, bits_at, fits_i, read_back}

-- ---- a - b as an integer
-- (a - l) + c is (a + c) - l
minus_add : (a l c : ℕ) → minus a l +ℤ pos c ≡ minus (a + c) l
minus_add a l c = grind (arith, nat_tests, ints)

-- the two exponents as the code has them
field_exponent : (f : ℕ) → pos f -ℤ pos 1023 ≡ minus (f + 51) 1074
field_exponent f = grind (arith, nat_tests, ints)

shift_exponent : (s : ℕ) → 0 < s → s ≤ 52 → negsuc 1021 -ℤ pos s ≡ minus (52 - s) 1074
shift_exponent s h k = grind (arith, nat_tests, ints)

-- the mantissa's own exponent, z being how many digits it has
digits_exponent : (z : ℕ) → 0 < z → z ≤ 53 → minus (1075 - z) 1074 ≡ neg_ℤ (pos (z - 1))
digits_exponent z h k = grind (arith, nat_tests, ints)

shape : (k : ℕ) → (up (neg_ℤ (pos k)) ≡ 1) × (down (neg_ℤ (pos k)) ≡ 2 ^ k)
shape zero = (refl, refl)
shape (suc k) = (refl, refl)

module _ (n : ℕ) (o : n % 2 ≡ 1) (small : n < 2 ^ 53) where
  pub n_pos : 0 < n
  n_pos = omega arith

  mantissa_fits : T (fits binary64 (fin false n (neg_ℤ (pos (size n - 1)))))
  mantissa_fits =
      let s = shape (size n - 1) in
      fits_i n (neg_ℤ (pos (size n - 1))) o small
      (rw s.1 (pow_mono {j = 1074} (omega (arith, few n n_pos small))))
      (rw (s.0, s.1) (lt_of_lt_of_le {m = 2 ^ 1024 * 1} (mul-lt-mul_of_pos_right {n = 2 ^ 1024} (lt_of_lt_of_le small (lit≤ tt)) (lit< tt)) (mul-le-mul (le_refl (2 ^ 1024)) (pow_pos (size n - 1)))))

  -- 53 digits with the point after the first
  pub mantissa_bits : of_bits binary64 (digits n n_pos small + 0x3fe0_0000_0000_0000) ≡ fin false n (neg_ℤ (pos (size n - 1)))
  mantissa_bits =
      let z = size_pos n n_pos in
      let l = few n n_pos small in
      let e : size n + (1075 - size n) - 53 ≡ 1022 = omega arith in
      read_back n (1075 - size n) (digits n n_pos small + 0x3fe0_0000_0000_0000) (neg_ℤ (pos (size n - 1))) mantissa_fits (digits_exponent (size n) z l)
      (sym (normal n n_pos small (1075 - size n) (omega arith) ∙ ap (λ (y : ℕ). y * 2 ^ 52 + digits n n_pos small) e ∙ omega arith))

  -- ---- the pattern b of n * 2 ^ j of the smallest values
  module _ (j b : ℕ) (is : b ≡ pattern binary64 (n * 2 ^ j)) where
    -- where the field is not 0
    high_if : (b / 2 ^ 52 ≡ 0 → ⊥) → 53 ≤ size n + j
    high_if h = elim (cases_lt (size n + j) 53) [ inl l ↦ absurd (h (omega (arith, subnormal n n_pos small j l))) | inr g ↦ g ]

    high : (h : b / 2 ^ 52 ≡ 0 → ⊥) → b ≡ (size n + j - 53) * 2 ^ 52 + digits n n_pos small
    high h = is ∙ normal n n_pos small j (high_if h)

    pub high_digits : (b / 2 ^ 52 ≡ 0 → ⊥) → b % 2 ^ 52 + 2 ^ 52 ≡ digits n n_pos small
    high_digits h = omega (arith, high h, digits_ge n n_pos small, digits_lt n n_pos small)

    pub high_exponent : (b / 2 ^ 52 ≡ 0 → ⊥) → pos (b / 2 ^ 52) -ℤ pos 1023 ≡ minus (j + (size n - 1)) 1074
    high_exponent h =
        let e : b / 2 ^ 52 + 51 ≡ j + (size n - 1) = omega (arith, high h, high_if h, digits_ge n n_pos small, digits_lt n n_pos small, size_pos n n_pos) in
        field_exponent (b / 2 ^ 52) ∙ ap (λ (y : ℕ). minus y 1074) e

    -- where it is 0
    low_if : b / 2 ^ 52 ≡ 0 → size n + j < 53
    low_if h = elim (cases_lt (size n + j) 53) [ inl l ↦ l | inr g ↦ absurd (omega (arith, normal n n_pos small j g, digits_ge n n_pos small)) ]

    low : b / 2 ^ 52 ≡ 0 → (b % 2 ^ 52 ≡ n * 2 ^ j) × (n * 2 ^ j < 2 ^ 52)
    low h = let s = subnormal n n_pos small j (low_if h) in omega arith

    zeros_are : b / 2 ^ 52 ≡ 0 → count_leading_zeros 64 (b % 2 ^ 52) ≡ 64 - (size n + j)
    zeros_are h =
        let l = low h in
        let p = leading_top 64 (n * 2 ^ j) (mul-pos n_pos (pow_pos j)) (lt_of_lt_of_le l.1 (lit≤ tt)) in
        let s : size n + j ≡ suc p.0 = sym (size_shift n j n_pos) ∙ size_is p.0 (n * 2 ^ j) p.2 p.3 in
        let g : count_leading_zeros 64 (n * 2 ^ j) ≡ 64 - (size n + j) = omega (arith, p.1) in
        ap (count_leading_zeros 64) l.0 ∙ g

    -- how far up the digits go: past the 11 places of sign and exponent
    abbrev up_by : ℕ
    up_by = count_leading_zeros 64 (b % 2 ^ 52) - 11

    pub up_by_is : b / 2 ^ 52 ≡ 0 → (11 ≤ count_leading_zeros 64 (b % 2 ^ 52)) × (0 < up_by) × (up_by ≤ 52)
    up_by_is h = omega (arith, zeros_are h, low_if h, size_pos n n_pos)

    pub low_digits : b / 2 ^ 52 ≡ 0 → b % 2 ^ 52 * 2 ^ up_by ≡ digits n n_pos small
    low_digits h =
        let e : j + up_by ≡ 53 - size n = omega (arith, zeros_are h, low_if h) in
        ap (λ (y : ℕ). y * 2 ^ up_by) (low h).0 ∙ mul_assoc n (2 ^ j) (2 ^ up_by) ∙ ap (λ (y : ℕ). n * y) (sym (pow-add 2 j up_by)) ∙ ap (λ (y : ℕ). n * 2 ^ y) e

    pub low_exponent : b / 2 ^ 52 ≡ 0 → negsuc 1021 -ℤ pos up_by ≡ minus (j + (size n - 1)) 1074
    low_exponent h =
        let i = up_by_is h in
        let e : 52 - up_by ≡ j + (size n - 1) = omega (arith, zeros_are h, low_if h, size_pos n n_pos) in
        shift_exponent up_by i.1 i.2 ∙ ap (λ (y : ℕ). minus y 1074) e

-- ---- of a value: it is finite and above zero, and fits
is_odd : (n : ℕ) (d : ℤ) → T (fits binary64 (fin false (suc n) d)) → suc n % 2 ≡ 1
unfolding fits
is_odd n d t =
    let a = eqb (suc n % 2) 1 in
    let b = ltb (suc n) (2 ^ 53) in
    let c = leb (down d) (2 ^ 1074) in
    let e = ltb (suc n * up d) (2 ^ 1024 * down d) in
    eqb→eq (suc n % 2) 1 (and_l a b (and_l (a && b) c (and_l (a && b && c) e t)))

-- a normal value, from its field and its fraction
pub record High (x : Float) (b : ℕ) : Type 0 where
  pub m : of_bits binary64 (b % 2 ^ 52 + 2 ^ 52 + 0x3fe0_0000_0000_0000) ≡ mantissa x
  pub e : pos (b / 2 ^ 52) -ℤ pos 1023 ≡ exponent x

-- a subnormal one, from the leading zeros of its fraction f
pub record Low (x : Float) (f s : ℕ) : Type 0 where
  pub zeros : 11 ≤ count_leading_zeros 64 f
  pub few : s ≤ 52
  pub ge : 2 ^ 52 ≤ f * 2 ^ s
  pub lt : f * 2 ^ s < 2 ^ 53
  pub m : of_bits binary64 (f * 2 ^ s + 0x3fe0_0000_0000_0000) ≡ mantissa x
  pub e : negsuc 1021 -ℤ pos s ≡ exponent x

module _ (n : ℕ) (d : ℤ) (f : T (fits binary64 (fin false (suc n) d))) where
  parts : (suc n < 2 ^ 53) × (down d ≤ 2 ^ 1074) × (suc n * up d < 2 ^ 1024 * down d)
  parts = fits_parts binary64 false (suc n) d f

  at : (j : ℕ) × (minus j 1074 ≡ d)
  at = exponent_at d 1074 parts.1

  odd_n : suc n % 2 ≡ 1
  odd_n = is_odd n d f

  -- d + (size n - 1), from the place j
  place : minus (at.0 + (size (suc n) - 1)) 1074 ≡ d +ℤ pos (size (suc n) - 1)
  place = sym (ap (λ (y : ℤ). y +ℤ pos (size (suc n) - 1)) (sym at.1) ∙ minus_add at.0 1074 (size (suc n) - 1))

pub high_case : (x : Float) → T (fits binary64 x) → T (positive x) → (to_bits binary64 x / 2 ^ 52 ≡ 0 → ⊥) → High x (to_bits binary64 x)
unfolding mantissa exponent
high_case nan f p h = absurd p
high_case (inf s) f p h = absurd p
high_case (fin true n d) f p h = absurd p
high_case (fin false zero d) f p h = absurd p
high_case (fin false (suc n) d) f p h =
    let o = odd_n n d f in
    let i = (parts n d f).0 in
    let j = (at n d f).0 in
    let b = to_bits binary64 (fin false (suc n) d) in
    let w = bits_at (suc n) j d (at n d f).1 in
    record {
      m = ap (λ (y : ℕ). of_bits binary64 (y + 0x3fe0_0000_0000_0000)) (high_digits (suc n) o i j b w h) ∙ mantissa_bits (suc n) o i;
      e = high_exponent (suc n) o i j b w h ∙ place n d f;
    }

pub low_case : (x : Float) → T (fits binary64 x) → T (positive x) → to_bits binary64 x / 2 ^ 52 ≡ 0 → Low x (to_bits binary64 x % 2 ^ 52) (count_leading_zeros 64 (to_bits binary64 x % 2 ^ 52) - 11)
unfolding mantissa exponent
low_case nan f p h = absurd p
low_case (inf s) f p h = absurd p
low_case (fin true n d) f p h = absurd p
low_case (fin false zero d) f p h = absurd p
low_case (fin false (suc n) d) f p h =
    let o = odd_n n d f in
    let i = (parts n d f).0 in
    let j = (at n d f).0 in
    let b = to_bits binary64 (fin false (suc n) d) in
    let w = bits_at (suc n) j d (at n d f).1 in
    let g = low_digits (suc n) o i j b w h in
    let r = up_by_is (suc n) o i j b w h in
    record {
      zeros = r.0;
      few = r.2;
      ge = rw g (digits_ge (suc n) (omega arith) i);
      lt = rw g (digits_lt (suc n) (omega arith) i);
      m = ap (λ (y : ℕ). of_bits binary64 (y + 0x3fe0_0000_0000_0000)) g ∙ mantissa_bits (suc n) o i;
      e = low_exponent (suc n) o i j b w h ∙ place n d f;
    }
