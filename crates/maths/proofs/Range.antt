-- The range of x in `exp`, and of its k. Assumes nothing.
use mathlib.Core.Path.{◌≡◌, refl, sym, subst}
use Prim.Native.Nat.{ℕ, ◌+◌, ◌*◌, ◌^◌, ◌≤◌, ◌<◌}
use native.Mathlib.Nat.{mul-pos, mul-le-mul_right}
use native.Mathlib.Omega.{arith}
use mathlib.Core.Bool.{Bool, true, false, ◌||◌, true≢false}
use lib.IntN.{ℤ}
use lib.Dec.{T, lit<, lit≤, ltb→lt, lt→ltb}
use borrow.Author.Tests.{ltb-false}
use lib.Ieee.{Float, nan, inf, fin, binary64, up, down, round, mul, le, lt, neg, is_nan, of_bits}
use lib.Ieee.Fits.{down_pos}
use lib.Signed.{mag}
use Rattle.number.specs.Near.{below, nearest}
use Rattle.number.specs.Sign.{abs_of}
use Rattle.number.specs.Below.{round_below, wider, nearest_small}

or_false : (a b : Bool) → (a || b) ≡ false → a ≡ false
or_false false b h = refl
or_false true b h = absurd (true≢false h)

close : (a d n : ℕ) → 0 < d → n ≤ 746 → a * 1 ≤ n * d → a < 747 * d
close a d n p q h = let g : n * d ≤ 746 * d = mul-le-mul_right d q in omega arith

-- no NaN, not 710 or more, not -746 or less: below 747 in size
bounded : (x : Float) → is_nan x ≡ false → le (of_bits binary64 0x4086_3000_0000_0000) x ≡ false → le x (neg (of_bits binary64 0x4087_5000_0000_0000)) ≡ false → T (below 747 x)
unfolding is_nan le neg of_bits below
bounded nan r h k = absurd (true≢false r)
bounded (inf true) r h k = absurd (true≢false k)
bounded (inf false) r h k = absurd (true≢false h)
bounded (fin false m e) r h k = lt→ltb _ _ (close (m * up e) (down e) 710 (down_pos e) (lit≤ tt) (ltb-false (710 * down e) (m * up e * 1) (or_false _ _ h)))
bounded (fin true m e) r h k = lt→ltb _ _ (close (m * up e) (down e) 746 (down_pos e) (lit≤ tt) (ltb-false (746 * down e) (m * up e * 1) (or_false _ _ k)))

mul_log : (s : Bool) (m : ℕ) (e : ℤ) → mul binary64 (fin s m e) (of_bits binary64 0x3FF71547652B82FE) ≡ round binary64 s (m * up e * 0xB8AA3B295C17F) (down e * 0x8000000000000)
unfolding mul of_bits
mul_log true m e = refl
mul_log false m e = refl

scaled_le : (a d : ℕ) → a < 747 * d → a * 0xB8AA3B295C17F ≤ 1500 * (d * 0x8000000000000)
scaled_le a d h = omega arith

times_log : (x : Float) → T (below 747 x) → T (below 1501 (mul binary64 x (of_bits binary64 0x3FF71547652B82FE)))
unfolding below
times_log nan h = absurd h
times_log (inf s) h = absurd h
times_log (fin s m e) h =
    subst (λ (y : Float). T (below 1501 y)) (sym (mul_log s m e))
    (round_below 1500 s (m * up e * 0xB8AA3B295C17F) (down e * 0x8000000000000) (lit≤ tt) (mul-pos (down_pos e) (lit< tt)) (scaled_le (m * up e) (down e) (ltb→lt (m * up e) (747 * down e) h)))

module _ (x : Float) (r : is_nan x ≡ false) (h : le (of_bits binary64 0x4086_3000_0000_0000) x ≡ false) (k : le x (neg (of_bits binary64 0x4087_5000_0000_0000)) ≡ false) where
  near : T (below 1501 (mul binary64 x (of_bits binary64 0x3FF71547652B82FE)))
  near = times_log x (bounded x r h k)

  pub product_near : T (below (2 ^ 52) (mul binary64 x (of_bits binary64 0x3FF71547652B82FE)))
  product_near = wider 1501 (2 ^ 52) _ (lit≤ tt) near

  pub power_small : mag (nearest (mul binary64 x (of_bits binary64 0x3FF71547652B82FE))) < 1502
  power_small = nearest_small 1501 _ near

-- ---- the same for sin and cos
mul_quarter : (s : Bool) (m : ℕ) (e : ℤ) → mul binary64 (fin s m e) (of_bits binary64 0x3FE45F306DC9C883) ≡ round binary64 s (m * up e * 0x145F306DC9C883) (down e * 0x20000000000000)
unfolding mul of_bits
mul_quarter true m e = refl
mul_quarter false m e = refl

quarter_le : (a d : ℕ) → a < (2 ^ 20 + 1) * d → a * 0x145F306DC9C883 ≤ (2 ^ 20 + 1) * (d * 0x20000000000000)
quarter_le a d h = omega arith

pub times_quarter : (x : Float) → T (below (2 ^ 20 + 1) x) → T (below (2 ^ 20 + 2) (mul binary64 x (of_bits binary64 0x3FE45F306DC9C883)))
unfolding below
times_quarter nan h = absurd h
times_quarter (inf s) h = absurd h
times_quarter (fin s m e) h =
    subst (λ (y : Float). T (below (2 ^ 20 + 2) y)) (sym (mul_quarter s m e))
    (round_below (2 ^ 20 + 1) s (m * up e * 0x145F306DC9C883) (down e * 0x20000000000000) (lit≤ tt) (mul-pos (down_pos e) (lit< tt)) (quarter_le (m * up e) (down e) (ltb→lt (m * up e) ((2 ^ 20 + 1) * down e) h)))

-- no NaN, and |x| not above 2 ^ 20
pub turnable : (x : Float) → is_nan x ≡ false → lt (of_bits binary64 0x4130_0000_0000_0000) (abs_of x) ≡ false → T (below (2 ^ 20 + 1) x)
unfolding is_nan lt of_bits below abs_of
turnable nan r h = absurd (true≢false r)
turnable (inf s) r h = absurd (true≢false h)
turnable (fin s m e) r h = lt→ltb _ _ (next (m * up e) (down e) (down_pos e) (ltb-false (2 ^ 20 * down e) (m * up e * 1) h))
  where
    next : (a d : ℕ) → 0 < d → a * 1 ≤ 2 ^ 20 * d → a < (2 ^ 20 + 1) * d
    next a d p h = omega arith
