-- Halving a sound range: the midpoint lies between the ends; the width is finite and not below zero. Assumes nothing.
use Rattle.std.specs.Prelude.{◌≡◌, ℕ, suc, ◌+◌, ◌-◌, ◌*◌, ◌^◌, ◌<◌, ◌≤◌, Bool, true, false, not, T, ℤ, refl, Float}
use Rattle.std.proofs.Common.{ap, zero-le, mul-pos, mul-one, mul_assoc, one-mul, add-mul, arith, true≢false, pow_pos, inl}
use Rattle.std.proofs.lemmas.Bool.{false≢true}
use Rattle.std.specs.Float.{nan, inf, fin, Format, binary32, binary64}
use Rattle.std.specs.Float.Ieee.{emax, up, down, round, add, div, le, fits, sub, neg}
use Rattle.std.specs.Float.Ieee.Fits.{down_pos}
use Rattle.std.specs.Float.Ieee.Exact.{HasValue}
use Rattle.std.specs.Float.Ieee.Scale.{finite, round_same}
use Rattle.std.specs.Float.Ieee.Positive.{den, den_pos}
use Rattle.number.specs.Signed.{Leq, products, plus, minus, ◌⊑◌, le→⊑}
use Rattle.number.specs.Order.{le_left, le_right, le_refl, le_trans, neg_le, naught}
use Rattle.number.specs.Round.{rounded_mono, half_rounded, add_mono, round_scaled, le_of_values, value_finite, two, add_rounded, round_zero}
use Rattle.number.specs.Sound.{high_end, low_end, within, within_low, within_high, within_finite, finite_between, within_i}

-- (lo + hi) / 2, each operation rounded once
abbrev pub mid : Format → Float → Float → Float
mid f lo hi = div f (add f lo hi) two

-- ---- twice a value is exact, and so is half of that
size_bound : (f : Format) (s : Bool) (m : ℕ) (e : ℤ) → T (within f (fin s m e)) → m * up e ≤ 2 ^ (emax f - 1) * down e
size_bound f false m e h =
    omega (arith, simp (one-mul, mul-one) at (le→⊑ (fin false m e) (high_end f) tt tt (within_high f (fin false m e) h)))
size_bound f true m e h =
    omega (arith, simp (one-mul, mul-one) at (le→⊑ (low_end f) (fin true m e) tt tt (within_low f (fin true m e) h)))

four : (f : Format) → 2 ^ suc (emax f) ≡ 4 * 2 ^ (emax f - 1)
four binary32 = refl
four binary64 = refl

under : (f : Format) (s : Bool) (m : ℕ) (e : ℤ) → T (within f (fin s m e)) → (m * up e * 2 < 2 ^ suc (emax f) * down e) × (m * up e * 1 < 2 ^ suc (emax f) * down e)
under f s m e h =
    let b = size_bound f s m e h in
    let p : 0 < 2 ^ (emax f - 1) * down e = mul-pos (pow_pos (emax f - 1)) (down_pos e) in
    rw (four f, mul_assoc 4 (2 ^ (emax f - 1)) (down e)) (omega arith)

double_is : (f : Format) (s : Bool) (m : ℕ) (e : ℤ) → add f (fin s m e) (fin s m e) ≡ round f s (m * up e * down e + m * up e * down e) (down e * down e)
unfolding add
double_is f true m e = refl
double_is f false m e = refl

double_value : (f : Format) (s : Bool) (m : ℕ) (e : ℤ) → T (fits f (fin s m e)) → T (within f (fin s m e)) → HasValue (add f (fin s m e) (fin s m e)) s (m * up e * 2) (down e)
double_value f s m e h k =
    let x = m * up e in
    let d = down e in
    rw (double_is f s m e, round_same f s (x * d + x * d) (d * d) (x * 2) d (mul-pos (down_pos e) (down_pos e)) (down_pos e) (twice x d)) (round_scaled f s m e 1 h (under f s m e k).0)
  where
    twice : (x d : ℕ) → (x * d + x * d) * d ≡ x * 2 * (d * d)
    twice x d = simp (add-mul, products) (omega arith)

both_halved : (x c a d : ℕ) → x * c ≡ a * d → x * 1 * (c * 2) ≡ a * (2 * d)
both_halved x c a d h = simp (mul-one, products) (ap (λ (z : ℕ). 2 * z) h)

half_is : (f : Format) (x : Float) (s : Bool) (a c : ℕ) → 0 < c → HasValue x s a c → div f x two ≡ round f s a (c * 2)
unfolding div
half_is f nan s a c C h = absurd h
half_is f (inf t) s a c C h = absurd h
half_is f (fin true m e) true a c C h = round_same f true (m * up e * 1) (2 * down e) a (c * 2) (mul-pos (pow_pos 1) (down_pos e)) (mul-pos C (pow_pos 1)) (both_halved (m * up e) c a (down e) h.1)
half_is f (fin true m e) false a c C h = absurd (true≢false h.0)
half_is f (fin false m e) true a c C h = absurd (false≢true h.0)
half_is f (fin false m e) false a c C h = round_same f false (m * up e * 1) (2 * down e) a (c * 2) (mul-pos (pow_pos 1) (down_pos e)) (mul-pos C (pow_pos 1)) (both_halved (m * up e) c a (down e) h.1)

mid_self_value : (f : Format) (s : Bool) (m : ℕ) (e : ℤ) → T (fits f (fin s m e)) → T (within f (fin s m e)) → HasValue (mid f (fin s m e) (fin s m e)) s (m * up e * 1) (down e)
mid_self_value f s m e h k =
    let x = fin s m e in
    rw (half_is f (add f x x) s (m * up e * 2) (down e) (down_pos e) (double_value f s m e h k), round_same f s (m * up e * 2) (down e * 2) (m * up e * 1) (down e) (mul-pos (down_pos e) (pow_pos 1)) (down_pos e) (simp (mul-one, products)))
    (round_scaled f s m e 0 h (under f s m e k).1)

-- the midpoint of [x, x] is x
pub mid_self : (f : Format) (x : Float) → T (fits f x) → T (within f x) → T (le x (mid f x x)) × T (le (mid f x x) x)
mid_self f nan h k = absurd (within_finite f nan k)
mid_self f (inf s) h k = absurd (within_finite f (inf s) k)
mid_self f (fin s m e) h k =
    let x = fin s m e in
    let v = mid_self_value f s m e h k in
    let z : m * up e * 1 ≡ m * up e = mul-one (m * up e) in (
      le_of_values x (mid f x x) s s (m * up e) (down e) (m * up e * 1) (down e) (down_pos e) (down_pos e) (refl, refl) v (rw z (omega arith)),
      le_of_values (mid f x x) x s s (m * up e * 1) (down e) (m * up e) (down e) (down_pos e) (down_pos e) v (refl, refl) (rw z (omega arith)),
    )

-- ---- half of a value grows with it
half_mono : (f : Format) (x y : Float) → T (finite x) → T (finite y) → T (le x y) → T (le (div f x two) (div f y two))
half_mono f x y p q h =
    rounded_mono f (div f x two) (div f y two) (plus x) (minus x) (den x * 2) (plus y) (minus y) (den y * 2)
    (mul-pos (den_pos x) (pow_pos 1)) (mul-pos (den_pos y) (pow_pos 1)) (half_rounded f x p) (half_rounded f y q)
    (twice (le→⊑ x y p q h))
  where
    twice : x ⊑ y → Leq (plus x) (minus x) (den x * 2) (plus y) (minus y) (den y * 2)
    twice h = simp products (omega (arith, simp products at h))

-- ---- the midpoint
-- x + x is finite
double_finite : (f : Format) (x : Float) → T (fits f x) → T (within f x) → T (finite (add f x x))
double_finite f nan h k = absurd (within_finite f nan k)
double_finite f (inf s) h k = absurd (within_finite f (inf s) k)
double_finite f (fin s m e) h k = value_finite (add f (fin s m e) (fin s m e)) s (m * up e * 2) (down e) (double_value f s m e h k)

ends_fit : (f : Format) → T (fits f (high_end f)) × T (fits f (low_end f))
unfolding fits
ends_fit binary32 = (tt, tt)
ends_fit binary64 = (tt, tt)

ends_within : (f : Format) → T (within f (high_end f)) × T (within f (low_end f))
unfolding le
ends_within binary32 = (tt, tt)
ends_within binary64 = (tt, tt)

-- the sum of two such values is finite
pub add_finite : (f : Format) (x y : Float) → T (within f x) → T (within f y) → T (finite (add f x y))
add_finite f x y h k =
    let B = high_end f in
    let L = low_end f in
    let p = within_finite f x h in
    let q = within_finite f y k in
    finite_between (add f L L) (add f x y) (add f B B) (double_finite f L (ends_fit f).1 (ends_within f).1) (double_finite f B (ends_fit f).0 (ends_within f).0)
    (add_mono f L L x y tt tt p q (within_low f x h) (within_low f y k))
    (add_mono f x y B B p q tt tt (within_high f x h) (within_high f y k))

pub mid_mono : (f : Format) (x y x' y' : Float) → T (within f x) → T (within f y) → T (within f x') → T (within f y') → T (le x x') → T (le y y') → T (le (mid f x y) (mid f x' y'))
mid_mono f x y x' y' p q p' q' h k =
    half_mono f (add f x y) (add f x' y') (add_finite f x y p q) (add_finite f x' y' p' q')
    (add_mono f x y x' y' (within_finite f x p) (within_finite f y q) (within_finite f x' p') (within_finite f y' q') h k)

pub lo≤mid : (f : Format) (lo hi : Float) → T (fits f lo) → T (within f lo) → T (within f hi) → T (le lo hi) → T (le lo (mid f lo hi))
lo≤mid f lo hi t p q h = le_trans lo (mid f lo lo) (mid f lo hi) (mid_self f lo t p).0 (mid_mono f lo lo lo hi p p p q (le_refl lo (le_left lo hi h)) h)

pub mid≤hi : (f : Format) (lo hi : Float) → T (fits f hi) → T (within f lo) → T (within f hi) → T (le lo hi) → T (le (mid f lo hi) hi)
mid≤hi f lo hi t p q h = le_trans (mid f lo hi) (mid f hi hi) hi (mid_mono f lo hi hi hi p q q q h (le_refl hi (le_right lo hi h))) (mid_self f hi t q).1

-- ---- the width
pub within_neg : (f : Format) (x : Float) → T (within f x) → T (within f (neg x))
unfolding neg
within_neg f x h = within_i f (neg x) (neg_le x (high_end f) (within_high f x h)) (neg_le (low_end f) x (within_low f x h))

pub width_finite : (f : Format) (lo hi : Float) → T (within f lo) → T (within f hi) → T (finite (sub f hi lo))
unfolding sub
width_finite f lo hi p q = add_finite f hi (neg lo) q (within_neg f lo p)

-- hi - lo, as a fraction, is not below zero
difference : (s : Bool) (m : ℕ) (e : ℤ) (hi : Float) → fin s m e ⊑ hi
    → Leq 0 0 1 (plus hi * down e + plus (fin (not s) m e) * den hi) (minus hi * down e + minus (fin (not s) m e) * den hi) (den hi * down e)
difference true m e hi l = omega arith
difference false m e hi l = omega arith

pub width≥0 : (f : Format) (lo hi : Float) → T (finite lo) → T (finite hi) → T (le lo hi) → T (le naught (sub f hi lo))
unfolding sub
width≥0 f nan hi p q h = absurd p
width≥0 f (inf s) hi p q h = absurd p
width≥0 f (fin s m e) hi p q h =
    let y = fin (not s) m e in
    le_trans naught (round f false 0 1) (add f hi y)
    (le_of_values naught (round f false 0 1) false false 0 1 0 1 (pow_pos 0) (pow_pos 0) (refl, refl) (round_zero f false 1 (pow_pos 0)) (omega arith))
    (rounded_mono f (round f false 0 1) (add f hi y) 0 0 1 (plus hi * down e + plus y * den hi) (minus hi * down e + minus y * den hi) (den hi * down e)
    (pow_pos 0) (mul-pos (den_pos hi) (down_pos e)) (inl (zero-le, refl)) (add_rounded f hi y q tt) (difference s m e hi (le→⊑ (fin s m e) hi p q h)))
