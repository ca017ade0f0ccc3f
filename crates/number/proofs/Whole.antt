-- `nearest` of the code: half of what is next to the whole part of the double. Assumes nothing.
use Rattle.std.proofs.Common.{◌≡◌, ℕ, ◌+◌, ◌-◌, ◌*◌, ◌/◌, ◌^◌, ◌<◌, min, Bool, true, false, cond, T, ℤ, pos, ◌+ℤ◌, ◌-ℤ◌, neg_ℤ}
use Rattle.std.proofs.Common.{refl, sym, ap, ◌∙◌, subst, lt_of_lt_of_le, lt_of_le_of_lt, mul-le-mul_right, mul_comm, div-lt_iff_lt-mul, mul-one, arith, lit≤, ltb→lt}
use Rattle.std.proofs.lemmas.Grind.{common_steps}
use borrow.Author.Differences.{ints}
use native.Mathlib.Nat.{div-div-eq-div-mul, add-div_right}
use lib.Signed.{lt_z, quot_z, mag}
use lib.Ieee.{Float, nan, inf, fin, binary64, up, down, round, mul, le, lt, to_signed, fits, of_bits}
use lib.Ieee.Fits.{down_pos}
use lib.Ieee.Exact.{HasValue}
use lib.Ieee.Nearest.{div_same}
use Rattle.number.specs.Order.{passed}
use Rattle.number.specs.Near.{nearest, below, half_up, with_sign}
use Rattle.number.specs.Cast.{again, mag_sign}
use Rattle.number.specs.Signed.{⊑→le, ⊏→lt}
use Rattle.number.specs.Round.{round_scaled}
use Rattle.number.specs.Below.{below_of_value}

-- ---- the cast to a whole number
cut : (q : ℕ) → q < 2 ^ 63 → (min q (2 ^ 63) ≡ q) × (min q (2 ^ 63 - 1) ≡ q)
cut q h = omega arith

to_signed_of_value : (y : Float) (s : Bool) (a c : ℕ) → 0 < c → HasValue y s a c → a < 2 ^ 63 * c → to_signed 63 y ≡ with_sign s (a / c)
unfolding to_signed
to_signed_of_value nan s a c C v h = absurd v
to_signed_of_value (inf t) s a c C v h = absurd v
to_signed_of_value (fin t m e) s a c C v h =
    let q : m * up e / down e ≡ a / c = div_same (m * up e) (down e) a c (down_pos e) C v.1 in
    let l : a / c < 2 ^ 63 = (div-lt_iff_lt-mul C).1 h in
    let k = cut (a / c) l in
    rw (v.0, q, k.0, k.1) (signed s)
  where
    signed : (s : Bool) → cond s (neg_ℤ (pos (a / c))) (pos (a / c)) ≡ with_sign s (a / c)
    signed true = refl
    signed false = refl

-- what is below 2 ^ 53 is in the cast's range
pub in_range : (y : Float) → T (below (2 ^ 53) y) → T (le (fin true 1 (pos 63)) y) × T (lt y (fin false 1 (pos 63)))
unfolding below
in_range nan h = absurd h
in_range (inf s) h = absurd h
in_range (fin true m e) h =
    let w = ltb→lt (m * up e) (2 ^ 53 * down e) h in
    (⊑→le (fin true 1 (pos 63)) (fin true m e) tt tt (omega arith), ⊏→lt (fin true m e) (fin false 1 (pos 63)) tt tt (omega (arith, down_pos e)))
in_range (fin false m e) h =
    let w = ltb→lt (m * up e) (2 ^ 53 * down e) h in
    (⊑→le (fin true 1 (pos 63)) (fin false m e) tt tt (omega arith), ⊏→lt (fin false m e) (fin false 1 (pos 63)) tt tt (omega arith))

-- ---- half of what is next to the whole part of the double
halves : (a c : ℕ) → 0 < c → (a * 2 / c + 1) / 2 ≡ half_up a c
halves a c C =
    ap (λ (z : ℕ). z / 2) (sym (add-div_right (a * 2) C))
    ∙ div-div-eq-div-mul (a * 2 + c) c 2
    ∙ ap (λ (z : ℕ). (z + c) / (c * 2)) (mul_comm a 2)
    ∙ ap (λ (z : ℕ). (2 * a + c) / z) (mul_comm c 2)

steps_down : (s : Bool) (u : ℕ) (t : ℤ) → u < 2 ^ 53 → t ≡ with_sign s u → lt_z (again t) (pos 0) ≡ true → again (quot_z (again (again t -ℤ pos 1)) (pos 2)) ≡ with_sign s ((u + 1) / 2)
steps_down false u t h e k = grind (arith, ints, common_steps)
steps_down true u t h e k = grind (arith, ints, common_steps)

steps_up : (s : Bool) (u : ℕ) (t : ℤ) → u < 2 ^ 53 → t ≡ with_sign s u → lt_z (again t) (pos 0) ≡ false → again (quot_z (again (again t +ℤ pos 1)) (pos 2)) ≡ with_sign s ((u + 1) / 2)
steps_up false u t h e k = grind (arith, ints, common_steps)
steps_up true u t h e k = grind (arith, ints, common_steps)

-- ---- what `nearest` needs of x * 2
mul_two : (s : Bool) (m : ℕ) (e : ℤ) → mul binary64 (fin s m e) (of_bits binary64 0x4000_0000_0000_0000) ≡ round binary64 s (m * up e * 2) (down e)
unfolding mul of_bits
mul_two true m e = ap (round binary64 true (m * up e * 2)) (mul-one (down e))
mul_two false m e = ap (round binary64 false (m * up e * 2)) (mul-one (down e))

pub record Doubled (x y : Float) : Type 0 where
  pub s : Bool
  pub u : ℕ
  pub small : u < 2 ^ 53
  pub near : T (below (2 ^ 53) y)
  pub cast : to_signed 63 y ≡ with_sign s u
  pub goal : nearest x ≡ with_sign s ((u + 1) / 2)

pub doubled : (x : Float) → T (fits binary64 x) → T (below (2 ^ 52) x) → Doubled x (mul binary64 x (of_bits binary64 0x4000_0000_0000_0000))
unfolding below nearest
doubled nan f h = absurd h
doubled (inf s) f h = absurd h
doubled (fin s m e) f h =
    let l : m * up e < 2 ^ 52 * down e = ltb→lt (m * up e) (2 ^ 52 * down e) h in
    let b : (m * up e * 2 < 2 ^ 53 * down e) × (m * up e * 2 < 2 ^ 63 * down e) = omega arith in
    let v = round_scaled binary64 s m e 1 f (wide (m * up e * 2) (down e) b.0) in
    subst (λ (y : Float). Doubled (fin s m e) y) (sym (mul_two s m e))
    (record {
      s = s;
      u = m * up e * 2 / down e;
      small = (div-lt_iff_lt-mul (down_pos e)).1 b.0;
      near = below_of_value (2 ^ 53) (round binary64 s (m * up e * 2) (down e)) s (m * up e * 2) (down e) (down_pos e) v b.0;
      cast = to_signed_of_value (round binary64 s (m * up e * 2) (down e)) s (m * up e * 2) (down e) (down_pos e) v b.1;
      goal = ap (with_sign s) (sym (halves (m * up e) (down e) (down_pos e)));
    })
  where
    wide : (a d : ℕ) → a < 2 ^ 53 * d → a < 2 ^ 1024 * d
    wide a d k = lt_of_lt_of_le k (mul-le-mul_right d (lit≤ tt))

-- ---- the machine's steps
module _ (x : Float) (f : T (fits binary64 x)) (h : T (below (2 ^ 52) x)) where
  abbrev i : Doubled x (mul binary64 x (of_bits binary64 0x4000_0000_0000_0000))
  i = doubled x f h

  pub lowest : T (le (fin true 1 (pos 63)) (mul binary64 x (of_bits binary64 0x4000_0000_0000_0000)))
  lowest = (in_range _ i.near).0

  pub highest : T (lt (mul binary64 x (of_bits binary64 0x4000_0000_0000_0000)) (fin false 1 (pos 63)))
  highest = (in_range _ i.near).1

  pub cast_small : mag (to_signed 63 (mul binary64 x (of_bits binary64 0x4000_0000_0000_0000))) < 2 ^ 53
  cast_small = rw i.cast (lt_of_le_of_lt (mag_sign i.s i.u) i.small)

  module _ (t : ℤ) (p : t ≡ to_signed 63 (mul binary64 x (of_bits binary64 0x4000_0000_0000_0000))) where
    pub down_is : lt_z (again t) (pos 0) ≡ true → again (quot_z (again (again t -ℤ pos 1)) (pos 2)) ≡ nearest x
    down_is k = steps_down i.s i.u t i.small (p ∙ i.cast) k ∙ sym i.goal

    pub up_is : lt_z (again t) (pos 0) ≡ false → again (quot_z (again (again t +ℤ pos 1)) (pos 2)) ≡ nearest x
    up_is k = steps_up i.s i.u t i.small (p ∙ i.cast) k ∙ sym i.goal

pub ruleset halved = (passed, lowest, highest, cast_small, up_is)
