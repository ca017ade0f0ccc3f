-- The cases of clause 5.3.1 by the tests that `next_up` makes, and the neighbouring pattern in what remains. Assumes nothing.
use Rattle.std.proofs.Common.{◌≡◌, ℕ, ◌+◌, ◌-◌, ◌<◌, ◌≤◌, true, false, not, T, sym, ap, ◌∙◌, refl, arith, ⊎_elim, lt_of_not-le}
use Rattle.std.proofs.Math.Dec.{T_not}
use lib.Ieee.{Float, nan, inf, fin, binary64, neg, is_nan, lt, eq, fits, to_bits, of_bits, nan_bits}
use lib.Ieee.Fits.{neg-fits}
use lib.Ieee.Bits.{of_bits-to_bits, of_bits-fits}
use Rattle.number.specs.Notation.{bits}
use Rattle.number.specs.Signed.{lt→⊏}
use Rattle.number.specs.Order.{number, naught, passed, failed, above, lt_left, number_neg, neg_neg}
use Rattle.number.specs.Pattern.{signless, eq_same}
use Rattle.number.specs.Next.{next_up, no_nan, no_nan_bits, no_nan_below, no_sign, back, below_inf, is_inf, next_up_nan, next_up_at_zero, next_up_positive, next_up_negative, negative_bits}
use Rattle.number.specs.Computing.{computing}

-- ---- the cases that the clause names
-- what equals a number other than zero is that number
is : (x y : Float) → T (fits binary64 x) → T (fits binary64 y) → T (not (eq y naught)) → eq x y ≡ true → x ≡ y
is x y h k n e = ⊎_elim (λ p. p) (λ z. absurd (T_not (eq y naught) n z.1)) (eq_same binary64 x y h k (passed e))

pub least_negative : (x : Float) → T (fits binary64 x) → eq x (neg (bits 1)) ≡ true → neg (bits 0) ≡ next_up binary64 x
least_negative x h e = rw (is x (neg (bits 1)) h (unfold computing in tt) (unfold computing in tt) e) (unfold computing in refl)

pub zeros : (x : Float) → eq x (bits 0) ≡ true → bits 1 ≡ next_up binary64 x
unfolding of_bits
zeros x e = sym (next_up_at_zero binary64 x (passed e))

pub infinity : (x : Float) → T (fits binary64 x) → eq x (bits 0x7ff0_0000_0000_0000) ≡ true → x ≡ next_up binary64 x
infinity x h e = rw (is x (bits 0x7ff0_0000_0000_0000) h (unfold computing in tt) (unfold computing in tt) e) (unfold computing in refl)

pub minus_infinity : (x : Float) → T (fits binary64 x) → eq x (bits 0xfff0_0000_0000_0000) ≡ true → bits 0xffef_ffff_ffff_ffff ≡ next_up binary64 x
minus_infinity x h e = rw (is x (bits 0xfff0_0000_0000_0000) h (unfold computing in tt) (unfold computing in tt) e) (unfold computing in refl)

pub no_number : (x : Float) → is_nan x ≡ true → x ≡ next_up binary64 x
no_number x e = sym (next_up_nan binary64 x (passed e))

-- ---- what remains below zero: the pattern of x is that of -x with the sign
signless_neg : (x : Float) → T (lt x naught) → T (signless (neg x))
unfolding lt neg
signless_neg nan h = h
signless_neg (inf true) h = tt
signless_neg (inf false) h = h
signless_neg (fin true m e) h = tt
signless_neg (fin false m e) h = absurd (omega (arith, lt→⊏ (fin false m e) naught tt tt h))

neg_bits : (y : Float) → T (signless y) → T (number y) → to_bits binary64 (neg y) ≡ 0x8000_0000_0000_0000 + to_bits binary64 y
unfolding to_bits neg is_nan
neg_bits nan p n = absurd n
neg_bits (inf true) p n = absurd p
neg_bits (inf false) p n = refl
neg_bits (fin true m e) p n = absurd p
neg_bits (fin false m e) p n = omega arith

-- a pattern with the sign is read as the negative
neg_read : (b : ℕ) → b < 0x7ff0_0000_0000_0000 → of_bits binary64 (0x8000_0000_0000_0000 + b) ≡ neg (of_bits binary64 b)
neg_read b h =
    let k : b ≤ to_bits binary64 (inf false) = unfold to_bits in omega arith in
    let y = of_bits binary64 b in
    ap (of_bits binary64)
    (ap (λ (n : ℕ). 0x8000_0000_0000_0000 + n) (sym (back binary64 b k)) ∙ sym (neg_bits y (no_sign binary64 b k) (no_nan binary64 b k)))
    ∙ of_bits-to_bits binary64 (neg y) (neg-fits binary64 y (of_bits-fits binary64 b))

module _ (x : Float) (h : T (fits binary64 x)) (l : lt x (bits 0) ≡ true) where
  below : T (lt x naught)
  below = unfold of_bits in passed l

  sign : to_bits binary64 x ≡ 0x8000_0000_0000_0000 + to_bits binary64 (neg x)
  sign = ap (to_bits binary64) (sym (neg_neg x)) ∙ neg_bits (neg x) (signless_neg x below) (number_neg x (lt_left x naught below))

  size : (0 < to_bits binary64 (neg x)) × (to_bits binary64 (neg x) ≤ 0x7ff0_0000_0000_0000)
  unfolding to_bits
  size = negative_bits binary64 x h below

  pub down : of_bits binary64 (to_bits binary64 x - 1) ≡ next_up binary64 x
  down =
      let n = to_bits binary64 (neg x) in
      let e : to_bits binary64 x - 1 ≡ 0x8000_0000_0000_0000 + (n - 1) = omega (arith, sign, size.0) in
      ap (of_bits binary64) e ∙ neg_read (n - 1) (omega (arith, size.0, size.1)) ∙ sym (next_up_negative binary64 x below)

  pub some_pattern : 1 ≤ to_bits binary64 x
  some_pattern = omega (arith, sign)

  pub down_number : T (not (nan_bits binary64 (to_bits binary64 x - 1)))
  down_number = no_nan_below binary64 (to_bits binary64 x - 1) (unfold to_bits in omega (arith, sign, size.0, size.1))

-- ---- and above zero
module _ (x : Float) (h : T (fits binary64 x)) (n : is_nan x ≡ false) (z : eq x (bits 0) ≡ false) (i : eq x (bits 0x7ff0_0000_0000_0000) ≡ false) (l : lt x (bits 0) ≡ false) where
  positive : T (lt naught x)
  positive = unfold of_bits in above x naught (failed n) (unfold is_nan in tt) (failed l) (failed z)

  no_infinity : 0x7ff0_0000_0000_0000 ≤ to_bits binary64 x → ⊥
  unfolding to_bits of_bits
  no_infinity b = T_not (eq x (inf false)) (failed i) (rw (is_inf binary64 x h positive b) (unfold eq in tt))

  pub room : to_bits binary64 x < 0x7ff0_0000_0000_0000
  room = lt_of_not-le no_infinity

  pub up : of_bits binary64 (to_bits binary64 x + 1) ≡ next_up binary64 x
  up = sym (next_up_positive binary64 x positive (below_inf binary64 x h positive (unfold to_bits in room)))

  pub up_number : T (not (nan_bits binary64 (to_bits binary64 x + 1)))
  up_number = no_nan_bits binary64 (to_bits binary64 x + 1) (unfold to_bits in omega (arith, room))

pub ruleset cases = (passed, least_negative, zeros, infinity, minus_infinity, no_number, down, some_pattern, down_number, room, up, up_number)
