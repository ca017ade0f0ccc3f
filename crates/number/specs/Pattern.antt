-- Bit patterns: those of the values that are not negative are in the values' order, and values that the format holds and that are equal have
-- the same pattern, but for the two zeros. Assumes nothing.
use Rattle.std.specs.Prelude.{◌≡◌, ℕ, zero, suc, ◌+◌, ◌-◌, ◌*◌, ◌/◌, ◌^◌, ◌<◌, ◌≤◌, Bool, true, false, not, T, ◌⊎◌, ℤ, from_bits, refl, Float}
use Rattle.std.proofs.Common.{sym, ap, ◌∙◌, subst, inl, inr, ⊎_elim, le_refl, le_trans, le_antisymm, le_of_eq, le_of_lt, suc-mul, lt_of_le_of_lt, lt_of_lt_of_le, eq-or-lt_of_le, zero-mul, mul_comm, mul_right_comm, mul-le-mul_right, mul-lt-mul_of_pos_right, le-div_iff_mul-le, div-lt_iff_lt-mul, arith, pow-add, pow_pos}
use Rattle.std.proofs.Math.Nat.{eq_of_mul-eq-mul_right, zero-div}
use Rattle.std.proofs.Math.Pow.{shr_mono}
use Rattle.std.specs.Float.{nan, inf, fin, Format, binary32, binary64}
use Rattle.std.specs.Float.Ieee.{prec, emax, low, up, down, size, neg, le, eq, fits, to_bits, hid}
use Rattle.std.specs.Float.Ieee.Digits.{size-lt, size-le, size_reaches}
use Rattle.std.specs.Float.Ieee.Fits.{kept-lt, two, two-le_pos, down_pos, neg-fits}
use Rattle.std.specs.Float.Ieee.Nearest.{div_mono}
use Rattle.std.specs.Float.Ieee.Bits.{of_bits-to_bits}
use Rattle.number.specs.Sign.{sign_bit}
use Rattle.number.specs.Signed.{both_zero, le→⊑, ⊑→le}
use Rattle.number.specs.Order.{naught, le_antisym, eq→le, eq_sym, neg_le}
use Rattle.number.specs.Round.{fits_parts}

-- ---- a size of n of the format's smallest values, as a pattern: `to_bits` without the sign
abbrev pub pattern : Format → ℕ → ℕ
pattern f n = (size n - prec f) * hid f + n / 2 ^ (size n - prec f)

two_hid : (f : Format) → 2 ^ prec f ≡ hid f + hid f
two_hid binary32 = refl
two_hid binary64 = refl

fewer : (a b p : ℕ) → a ≤ b → a - p ≤ b - p
fewer a b p h = omega arith

in_use : (z p k : ℕ) → 0 < p → k < z - p → p - 1 + (z - p) < z
in_use z p k P h = omega arith

pattern_mono : (f : Format) (n n' : ℕ) → n ≤ n' → pattern f n ≤ pattern f n'
pattern_mono f n n' h =
    ⊎_elim (λ e. same (sym e)) fewer_digits (eq-or-lt_of_le (fewer (size n) (size n') (prec f) (size-le n (size n') (lt_of_le_of_lt h (size-lt n')))))
  where
    same : size n' - prec f ≡ size n - prec f → pattern f n ≤ pattern f n'
    same e = rw e (omega (arith, shr_mono {a = n} {b = n'} (size n - prec f) h))

    -- a field more, and the leading digit, against the digits
    fewer_digits : size n - prec f < size n' - prec f → pattern f n ≤ pattern f n'
    fewer_digits l =
        let p = prec f in
        let k = size n - p in
        let k' = size n' - p in
        let P = two-le_pos p (two f) in
        let leads : hid f ≤ n' / 2 ^ k' = (le-div_iff_mul-le (pow_pos k')).1 (le_trans (le_of_eq (sym (pow-add 2 (p - 1) k'))) (size_reaches n' (p - 1 + k') (in_use (size n') p k P l))) in
        let under : n / 2 ^ k < hid f + hid f = subst (λ (x : ℕ). n / 2 ^ k < x) (two_hid f) (kept-lt p n) in
        let more = simp suc-mul at (mul-le-mul_right (hid f) l) in
        omega arith

-- ---- the pattern of a value that is not negative
abbrev pub units : Format → ℕ → ℤ → ℕ
units f m e = m * up e * 2 ^ low f / down e

pub to_bits_is : (f : Format) (m : ℕ) (e : ℤ) → to_bits f (fin false m e) ≡ pattern f (units f m e)
unfolding to_bits
to_bits_is f m e = omega arith

pub inf_pattern : (f : Format) → to_bits f (inf false) ≡ pattern f (2 ^ (low f + suc (emax f)))
unfolding to_bits size
inf_pattern binary32 = refl
inf_pattern binary64 = refl

-- no NaN, and the sign bit clear
abbrev pub signless : Float → Bool
signless nan = false
signless (inf s) = not s
signless (fin s m e) = not s

units_under : (f : Format) (m : ℕ) (e : ℤ) → T (fits f (fin false m e)) → units f m e ≤ 2 ^ (low f + suc (emax f))
units_under f zero e h = le_trans (le_of_eq (simp (zero-mul, zero-div))) (le_of_lt (pow_pos (low f + suc (emax f))))
units_under f (suc m) e h =
    le_of_lt ((div-lt_iff_lt-mul (down_pos e)).1
    (lt_of_lt_of_le (mul-lt-mul_of_pos_right (fits_parts f false (suc m) e h).2 (pow_pos (low f)))
    (le_of_eq (mul_right_comm (2 ^ suc (emax f)) (down e) (2 ^ low f) ∙ ap (λ (x : ℕ). x * down e) (mul_comm (2 ^ suc (emax f)) (2 ^ low f) ∙ sym (pow-add 2 (low f) (suc (emax f))))))))

pub bits_mono : (f : Format) (x y : Float) → T (fits f x) → T (fits f y) → T (signless x) → T (signless y) → T (le x y) → to_bits f x ≤ to_bits f y
bits_mono f nan y h k p q l = absurd p
bits_mono f (inf true) y h k p q l = absurd p
bits_mono f (inf false) nan h k p q l = absurd q
bits_mono f (inf false) (inf true) h k p q l = absurd q
bits_mono f (inf false) (inf false) h k p q l = le_refl (to_bits f (inf false))
bits_mono f (inf false) (fin t n d) h k p q l = unfold le in absurd l
bits_mono f (fin true m e) y h k p q l = absurd p
bits_mono f (fin false m e) nan h k p q l = absurd q
bits_mono f (fin false m e) (inf true) h k p q l = absurd q
bits_mono f (fin false m e) (inf false) h k p q l = rw (to_bits_is f m e, inf_pattern f) (pattern_mono f (units f m e) (2 ^ (low f + suc (emax f))) (units_under f m e h))
bits_mono f (fin false m e) (fin true n d) h k p q l = absurd q
bits_mono f (fin false m e) (fin false n d) h k p q l =
    rw (to_bits_is f m e, to_bits_is f n d)
    (pattern_mono f (units f m e) (units f n d) (div_mono (m * up e * 2 ^ low f) (down e) (n * up d * 2 ^ low f) (down d) (down_pos e) (down_pos d) (scaled (le→⊑ (fin false m e) (fin false n d) tt tt l))))
  where
    scaled : m * up e * down d + 0 * down e ≤ n * up d * down e + 0 * down d → m * up e * 2 ^ low f * down d ≤ n * up d * 2 ^ low f * down e
    scaled h =
        let g : m * up e * down d ≤ n * up d * down e = omega arith in
        rw (mul_right_comm (m * up e) (2 ^ low f) (down d), mul_right_comm (n * up d) (2 ^ low f) (down e)) (mul-le-mul_right (2 ^ low f) g)

pub bits_inj : (f : Format) (x y : Float) → T (fits f x) → T (fits f y) → to_bits f x ≡ to_bits f y → x ≡ y
bits_inj f x y h k e = sym (of_bits-to_bits f x h) ∙ ap (from_bits f) e ∙ of_bits-to_bits f y k

-- ---- equal values are the same value, but for the two zeros
same_signless : (f : Format) (x y : Float) → T (fits f x) → T (fits f y) → T (signless x) → T (signless y) → T (le x y) → T (le y x) → x ≡ y
same_signless f x y h k p q l g = bits_inj f x y h k (le_antisymm (bits_mono f x y h k p q l) (bits_mono f y x k h q p g))

zero_size : (m u d : ℕ) → 0 < d → m * u * d ≡ 0 → m * u ≡ 0
zero_size m u d D e = eq_of_mul-eq-mul_right d D (m * u) 0 (omega arith)

pub zero_is : (s : Bool) (m : ℕ) (e : ℤ) → m * up e ≡ 0 → T (eq (fin s m e) naught)
zero_is true m e z = le_antisym (fin true m e) naught (⊑→le (fin true m e) naught tt tt (omega arith)) (⊑→le naught (fin true m e) tt tt (omega arith))
zero_is false m e z = le_antisym (fin false m e) naught (⊑→le (fin false m e) naught tt tt (omega arith)) (⊑→le naught (fin false m e) tt tt (omega arith))

-- equal values with the same sign are the same value, zeros too
pub eq_signed : (f : Format) (x y : Float) → T (fits f x) → T (fits f y) → T (eq x y) → sign_bit x ≡ sign_bit y → x ≡ y
unfolding eq neg sign_bit
eq_signed f nan y h k e s = absurd e
eq_signed f (inf s) nan h k e t = absurd e
eq_signed f (inf true) (inf true) h k e t = refl
eq_signed f (inf true) (inf false) h k e t = absurd e
eq_signed f (inf false) (inf true) h k e t = absurd e
eq_signed f (inf false) (inf false) h k e t = refl
eq_signed f (inf s) (fin t n d) h k e u = absurd e
eq_signed f (fin s m e) nan h k i u = absurd i
eq_signed f (fin s m e) (inf t) h k i u = absurd i
eq_signed f (fin false m e) (fin true n d) h k i u = cc
eq_signed f (fin true m e) (fin false n d) h k i u = cc
eq_signed f (fin false m e) (fin false n d) h k i u =
    let x = fin false m e in
    let y = fin false n d in
    same_signless f x y h k tt tt (eq→le x y i) (eq→le y x (eq_sym x y i))
eq_signed f (fin true m e) (fin true n d) h k i u =
    let x = fin true m e in
    let y = fin true n d in
    ap neg (same_signless f (fin false m e) (fin false n d) (neg-fits f x h) (neg-fits f y k) tt tt (neg_le y x (eq→le y x (eq_sym x y i))) (neg_le x y (eq→le x y i)))

pub eq_same : (f : Format) (x y : Float) → T (fits f x) → T (fits f y) → T (eq x y) → (x ≡ y) ⊎ (T (eq x naught) × T (eq y naught))
unfolding eq sign_bit
eq_same f nan y h k e = absurd e
eq_same f (inf s) nan h k e = absurd e
eq_same f (inf true) (inf true) h k e = inl refl
eq_same f (inf true) (inf false) h k e = absurd e
eq_same f (inf false) (inf true) h k e = absurd e
eq_same f (inf false) (inf false) h k e = inl refl
eq_same f (inf s) (fin t n d) h k e = absurd e
eq_same f (fin s m e) nan h k i = absurd i
eq_same f (fin s m e) (inf t) h k i = absurd i
eq_same f (fin false m e) (fin false n d) h k i = inl (eq_signed f (fin false m e) (fin false n d) h k i refl)
eq_same f (fin true m e) (fin true n d) h k i = inl (eq_signed f (fin true m e) (fin true n d) h k i refl)
eq_same f (fin false m e) (fin true n d) h k i =
    let z = both_zero (m * up e * down d) (n * up d * down e) i in
    inr (zero_is false m e (zero_size m (up e) (down d) (down_pos d) z.0), zero_is true n d (zero_size n (up d) (down e) (down_pos e) z.1))
eq_same f (fin true m e) (fin false n d) h k i =
    let z = both_zero (m * up e * down d) (n * up d * down e) i in
    inr (zero_is true m e (zero_size m (up e) (down d) (down_pos d) z.0), zero_is false n d (zero_size n (up d) (down e) (down_pos e) z.1))
