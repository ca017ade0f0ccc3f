-- `next_up` and `next_down` of IEEE 754, clause 5.3.1: the least value of the format above x, and the greatest below it. And what they are at zero.
-- The patterns of the values that are not negative are in the values' order, so a neighbour is the next pattern up or down. Assumes nothing.
use Rattle.std.specs.Prelude.{◌≡◌, ℕ, zero, suc, ◌+◌, ◌-◌, ◌*◌, ◌%◌, ◌^◌, ◌<◌, ◌≤◌, Bool, true, false, not, T, ℤ, pos, negsuc, from_bits, refl, Float}
use Rattle.std.proofs.Common.{sym, subst, ⊎_elim, zero-lt-suc, zero-mul, mul-pos, mul-le-mul, le_antisymm, lt_of_le_of_lt, not-le_of_lt, arith, lit<}
use Prim.Native.Nat.{zero-le}
use Rattle.std.proofs.Math.Nat.{mod-le}
use Rattle.std.proofs.Math.Arith.{le→nltb, lt_of_le-ne}
use Rattle.std.specs.Float.{nan, inf, fin, Format, binary32, binary64}
use Rattle.std.specs.Float.Ieee.{low, up, down, neg, lt, le, eq, is_nan, nan_bits, fits, to_bits, hid, ones, top}
use Rattle.std.specs.Float.Ieee.Fits.{up_pos, neg-fits, inf-fits}
use Rattle.std.specs.Float.Ieee.Bits.{to_bits-of_bits, of_bits-fits, nan_bits_is, nan_bits_above}
use Rattle.number.specs.Signed.{⊑→le, lt→⊏, ⊏→lt}
use Rattle.number.specs.Order.{number, naught, zeros_le, le_or_lt, le_lt_trans, lt_le_trans, lt→le, lt_irrefl, lt_nan_left, lt_nan_right, le→not_lt, le_lowest, le_highest, lt_left, lt_right, eq→le, eq_sym, neg_le, neg_le_back, neg_lt, neg_neg}
use Rattle.number.specs.Round.{fits_parts}
use Rattle.number.specs.Pattern.{signless, bits_mono, bits_inj, zero_is}

-- ---- the definitions
-- 2 ^ -low, which is 2 ^ -1074 in an f64, and its negative
abbrev pub tiny : Format → Float
tiny f = fin false 1 (negsuc (low f - 1))

abbrev pub minus_tiny : Format → Float
minus_tiny f = fin true 1 (negsuc (low f - 1))

-- the neighbours of a value above zero
abbrev pub after : Format → Float → Float
after f x = from_bits f (to_bits f x + 1)

abbrev pub before : Format → Float → Float
before f x = from_bits f (to_bits f x - 1)

unfoldable pub next_up : Format → Float → Float
next_up f nan = nan
next_up f (inf true) = neg (before f (inf false))
next_up f (inf false) = inf false
next_up f (fin s zero e) = tiny f
next_up f (fin true (suc m) e) = neg (before f (fin false (suc m) e))
next_up f (fin false (suc m) e) = after f (fin false (suc m) e)

unfoldable pub next_down : Format → Float → Float
next_down f x = neg (next_up f (neg x))

-- ---- at either zero
pub next_up_zero : (f : Format) (s : Bool) → next_up f (fin s 0 (pos 0)) ≡ tiny f
unfolding next_up
next_up_zero f s = refl

pub next_down_zero : (f : Format) (s : Bool) → next_down f (fin s 0 (pos 0)) ≡ minus_tiny f
unfolding next_down next_up neg
next_down_zero f s = refl

pub zero≤tiny : (f : Format) (s : Bool) → T (le (fin s 0 (pos 0)) (tiny f)) × T (le (minus_tiny f) (fin s 0 (pos 0)))
unfolding le
zero≤tiny binary32 true = (tt, tt)
zero≤tiny binary32 false = (tt, tt)
zero≤tiny binary64 true = (tt, tt)
zero≤tiny binary64 false = (tt, tt)

low_suc : (f : Format) → suc (low f - 1) ≡ low f
low_suc binary32 = refl
low_suc binary64 = refl

-- m * 2 ^ e is a whole number of them
at_least_one : (m u d l : ℕ) → 0 < m → 0 < u → d ≤ l → 1 * d ≤ m * u * l
at_least_one m u d l M U h = mul-le-mul (mul-pos M U) h

tiny≤' : (f : Format) (x : Float) → T (fits f x) → T (lt naught x) → T (le (tiny f) x)
unfolding lt
tiny≤' f nan h k = absurd k
tiny≤' f (inf true) h k = absurd k
tiny≤' f (inf false) h k = unfold le in tt
tiny≤' f (fin true m e) h k = absurd k
tiny≤' f (fin false zero e) h k = absurd (omega (arith, simp zero-mul at (lt→⊏ naught (fin false 0 e) tt tt k)))
tiny≤' f (fin false (suc m) e) h k =
    ⊑→le (tiny f) (fin false (suc m) e) tt tt
    (rw (low_suc f) (omega (arith, at_least_one (suc m) (up e) (down e) (2 ^ low f) (zero-lt-suc m) (up_pos e) (fits_parts f false (suc m) e h).1)))

pub tiny≤ : (f : Format) (s : Bool) (x : Float) → T (fits f x) → T (lt (fin s 0 (pos 0)) x) → T (le (tiny f) x)
tiny≤ f s x h k = tiny≤' f x h (le_lt_trans naught (fin s 0 (pos 0)) x (zeros_le false s) k)

pub ≤minus_tiny : (f : Format) (s : Bool) (x : Float) → T (fits f x) → T (lt x (fin s 0 (pos 0))) → T (le x (minus_tiny f))
unfolding neg
≤minus_tiny f s x h k = neg_le_back (minus_tiny f) x (tiny≤ f (not s) (neg x) (neg-fits f x h) (neg_lt x (fin s 0 (pos 0)) k))

-- ---- the values of the patterns from 0 up to an infinity's
inf_top : (f : Format) → to_bits f (inf false) < top f
unfolding to_bits
inf_top binary32 = lit< tt
inf_top binary64 = lit< tt

-- a pattern, less its sign bit, up to an infinity's is no NaN's
pub no_nan_below : (f : Format) (b : ℕ) → b % top f ≤ to_bits f (inf false) → T (not (nan_bits f b))
unfolding to_bits
no_nan_below f b h = subst (λ (x : Bool). T (not x)) (sym (nan_bits_above f b)) (le→nltb (ones f * hid f) (b % top f) (omega arith))

pub no_nan_bits : (f : Format) (b : ℕ) → b ≤ to_bits f (inf false) → T (not (nan_bits f b))
no_nan_bits f b h = no_nan_below f b (omega (arith, mod-le b (top f)))

pub no_nan : (f : Format) (b : ℕ) → b ≤ to_bits f (inf false) → T (number (from_bits f b))
no_nan f b h = subst (λ (x : Bool). T (not x)) (nan_bits_is f b) (no_nan_bits f b h)

signless_of : (f : Format) (x : Float) → T (number x) → to_bits f x < top f → T (signless x)
unfolding to_bits is_nan
signless_of f nan p h = p
signless_of f (inf true) p h = omega arith
signless_of f (inf false) p h = tt
signless_of f (fin true m e) p h = omega arith
signless_of f (fin false m e) p h = tt

-- reading such a pattern and writing it again
pub back : (f : Format) (b : ℕ) → b ≤ to_bits f (inf false) → to_bits f (from_bits f b) ≡ b
back f b h = to_bits-of_bits f b (omega (arith, inf_top f)) (no_nan f b h)

pub no_sign : (f : Format) (b : ℕ) → b ≤ to_bits f (inf false) → T (signless (from_bits f b))
no_sign f b h = signless_of f (from_bits f b) (no_nan f b h) (subst (λ (n : ℕ). n < top f) (sym (back f b h)) (lt_of_le_of_lt h (inf_top f)))

naught_fits : (f : Format) → T (fits f naught)
unfolding fits
naught_fits f = tt

tiny_fits : (f : Format) → T (fits f (tiny f))
unfolding fits
tiny_fits binary32 = tt
tiny_fits binary64 = tt

-- ---- neighbours among the values that are not negative
pub bits_lt : (f : Format) (x y : Float) → T (fits f x) → T (fits f y) → T (signless x) → T (signless y) → T (lt x y) → to_bits f x < to_bits f y
bits_lt f x y h k p q l = lt_of_le-ne (bits_mono f x y h k p q (lt→le x y l)) (λ e. lt_irrefl y (subst (λ (z : Float). T (lt z y)) (bits_inj f x y h k e) l))

-- two values whose patterns are in order are in order
of_bits : (f : Format) (x y : Float) → T (fits f x) → T (fits f y) → T (signless x) → T (signless y) → T (number x) → T (number y) → to_bits f x < to_bits f y → T (lt x y)
of_bits f x y h k p q i j l = ⊎_elim (λ g. absurd (not-le_of_lt l (bits_mono f y x k h q p g))) (λ g. g) (le_or_lt y x j i)

of_bits_le : (f : Format) (x y : Float) → T (fits f x) → T (fits f y) → T (signless x) → T (signless y) → T (number x) → T (number y) → to_bits f x ≤ to_bits f y → T (le x y)
of_bits_le f x y h k p q i j l = ⊎_elim (λ g. g) (λ g. absurd (not-le_of_lt (bits_lt f y x k h q p g) l)) (le_or_lt x y i j)

module _ (f : Format) (x : Float) (h : T (fits f x)) (p : T (signless x)) where
  -- above x, where x is below the infinity
  room : T (lt x (inf false)) → to_bits f x + 1 ≤ to_bits f (inf false)
  room l = omega (arith, bits_lt f x (inf false) h (inf-fits f false) p tt l)

  after_above : T (lt x (inf false)) → T (lt x (after f x))
  after_above l =
      let b = room l in
      of_bits f x (after f x) h (of_bits-fits f (to_bits f x + 1)) p (no_sign f (to_bits f x + 1) b) (lt_left x (inf false) l) (no_nan f (to_bits f x + 1) b) (omega (arith, back f (to_bits f x + 1) b))

  after_least : (y : Float) → T (fits f y) → T (signless y) → T (lt x y) → T (le (after f x) y)
  after_least y k q l =
      let b = room (lt_le_trans x y (inf false) l (le_highest y (lt_right x y l))) in
      of_bits_le f (after f x) y (of_bits-fits f (to_bits f x + 1)) k (no_sign f (to_bits f x + 1) b) q (no_nan f (to_bits f x + 1) b) (lt_right x y l) (omega (arith, back f (to_bits f x + 1) b, bits_lt f x y h k p q l))

  -- below x, where x is above zero
  top_of : T (number x) → to_bits f x ≤ to_bits f (inf false)
  top_of n = bits_mono f x (inf false) h (inf-fits f false) p tt (le_highest x n)

  before_below : T (lt naught x) → T (lt (before f x) x)
  before_below l =
      let n = lt_right naught x l in
      let b : to_bits f x - 1 ≤ to_bits f (inf false) = omega (arith, top_of n) in
      of_bits f (before f x) x (of_bits-fits f (to_bits f x - 1)) h (no_sign f (to_bits f x - 1) b) p (no_nan f (to_bits f x - 1) b) n
      (omega (arith, back f (to_bits f x - 1) b, bits_lt f naught x (naught_fits f) h tt p l))

  before_greatest : (y : Float) → T (fits f y) → T (signless y) → T (lt y x) → T (le y (before f x))
  before_greatest y k q l =
      let b : to_bits f x - 1 ≤ to_bits f (inf false) = omega (arith, top_of (lt_right y x l)) in
      of_bits_le f y (before f x) k (of_bits-fits f (to_bits f x - 1)) q (no_sign f (to_bits f x - 1) b) (lt_left y x l) (no_nan f (to_bits f x - 1) b)
      (omega (arith, back f (to_bits f x - 1) b, bits_lt f y x k h q p l))

-- ---- the clause: `next_up f x` is above x, and nothing that the format holds lies between
pub above_zero : (m : ℕ) (e : ℤ) → T (lt naught (fin false (suc m) e))
above_zero m e = ⊏→lt naught (fin false (suc m) e) tt tt (omega (arith, mul-pos (zero-lt-suc m) (up_pos e)))

below_zero : (m : ℕ) (e : ℤ) → T (lt (fin true (suc m) e) naught)
below_zero m e = ⊏→lt (fin true (suc m) e) naught tt tt (omega (arith, mul-pos (zero-lt-suc m) (up_pos e)))

pub next_up_fits : (f : Format) (x : Float) → T (fits f x) → T (fits f (next_up f x))
unfolding next_up
next_up_fits f nan h = h
next_up_fits f (inf true) h = neg-fits f (before f (inf false)) (of_bits-fits f (to_bits f (inf false) - 1))
next_up_fits f (inf false) h = h
next_up_fits f (fin s zero e) h = tiny_fits f
next_up_fits f (fin true (suc m) e) h = neg-fits f (before f (fin false (suc m) e)) (of_bits-fits f (to_bits f (fin false (suc m) e) - 1))
next_up_fits f (fin false (suc m) e) h = of_bits-fits f (to_bits f (fin false (suc m) e) + 1)

pub next_up_above : (f : Format) (x : Float) → T (fits f x) → T (lt x (inf false)) → T (lt x (next_up f x))
unfolding next_up neg
next_up_above f nan h l = unfold lt in absurd l
next_up_above f (inf true) h l = neg_lt (before f (inf false)) (inf false) (before_below f (inf false) (inf-fits f false) tt (unfold lt in tt))
next_up_above f (inf false) h l = unfold lt in absurd l
next_up_above f (fin s zero e) h l = le_lt_trans (fin s 0 e) naught (tiny f) (eq→le (fin s 0 e) naught (zero_is s 0 e (zero-mul (up e)))) (above_zero 0 (negsuc (low f - 1)))
next_up_above f (fin true (suc m) e) h l =
    let x = fin false (suc m) e in
    neg_lt (before f x) x (before_below f x (neg-fits f (fin true (suc m) e) h) tt (above_zero m e))
next_up_above f (fin false (suc m) e) h l = after_above f (fin false (suc m) e) h tt l

-- a value with the sign set is at most one without
below_signless : (z y : Float) → T (signless z) → T (signless y) → T (le (neg z) y)
unfolding neg le
below_signless nan y p q = absurd p
below_signless (inf true) y p q = absurd p
below_signless (inf false) nan p q = q
below_signless (inf false) (inf true) p q = absurd q
below_signless (inf false) (inf false) p q = tt
below_signless (inf false) (fin t n d) p q = tt
below_signless (fin true m e) y p q = absurd p
below_signless (fin false m e) nan p q = q
below_signless (fin false m e) (inf true) p q = absurd q
below_signless (fin false m e) (inf false) p q = tt
below_signless (fin false m e) (fin true n d) p q = absurd q
below_signless (fin false m e) (fin false n d) p q = ⊑→le (fin true m e) (fin false n d) tt tt (omega arith)

-- of -a, where a has no sign
least_negative : (f : Format) (a : Float) → T (fits f a) → T (signless a) → T (number a) → (y : Float) → T (fits f y) → T (lt (neg a) y) → T (le (neg (before f a)) y)
least_negative f a h p n nan k l = absurd (subst T (lt_nan_right (neg a)) l)
least_negative f a h p n (inf true) k l = absurd (le→not_lt (inf true) (neg a) (le_lowest (neg a) (lt_left (neg a) (inf true) l)) l)
least_negative f a h p n (inf false) k l = below_signless (before f a) (inf false) (no_sign f (to_bits f a - 1) (omega (arith, top_of f a h p n))) tt
least_negative f a h p n (fin false m e) k l = below_signless (before f a) (fin false m e) (no_sign f (to_bits f a - 1) (omega (arith, top_of f a h p n))) tt
least_negative f a h p n (fin true m e) k l =
    unfold neg in
    neg_le (fin false m e) (before f a)
    (before_greatest f a h p (fin false m e) (neg-fits f (fin true m e) k) tt (subst (λ (z : Float). T (lt (fin false m e) z)) (neg_neg a) (neg_lt (neg a) (fin true m e) l)))

signless_above : (m : ℕ) (e : ℤ) (y : Float) → T (lt (fin false m e) y) → T (signless y)
unfolding lt
signless_above m e nan l = l
signless_above m e (inf true) l = l
signless_above m e (inf false) l = tt
signless_above m e (fin true n d) l = l
signless_above m e (fin false n d) l = tt

pub next_up_least : (f : Format) (x y : Float) → T (fits f x) → T (fits f y) → T (lt x y) → T (le (next_up f x) y)
unfolding next_up neg
next_up_least f nan y h k l = absurd (subst T (lt_nan_left y) l)
next_up_least f (inf true) y h k l = least_negative f (inf false) (inf-fits f false) tt (unfold is_nan in tt) y k l
next_up_least f (inf false) y h k l = absurd (le→not_lt y (inf false) (le_highest y (lt_right (inf false) y l)) l)
next_up_least f (fin s zero e) y h k l =
    let x = fin s 0 e in
    tiny≤' f y k (le_lt_trans naught x y (eq→le naught x (eq_sym x naught (zero_is s 0 e (zero-mul (up e))))) l)
next_up_least f (fin true (suc m) e) y h k l = least_negative f (fin false (suc m) e) (neg-fits f (fin true (suc m) e) h) tt (unfold is_nan in tt) y k l
next_up_least f (fin false (suc m) e) y h k l = after_least f (fin false (suc m) e) h tt y k (signless_above (suc m) e y l) l

-- ---- and the same downward
pub next_down_fits : (f : Format) (x : Float) → T (fits f x) → T (fits f (next_down f x))
unfolding next_down
next_down_fits f x h = neg-fits f (next_up f (neg x)) (next_up_fits f (neg x) (neg-fits f x h))

pub next_down_below : (f : Format) (x : Float) → T (fits f x) → T (lt (inf true) x) → T (lt (next_down f x) x)
unfolding next_down
next_down_below f x h l =
    subst (λ (z : Float). T (lt (neg (next_up f (neg x))) z)) (neg_neg x)
    (neg_lt (neg x) (next_up f (neg x)) (next_up_above f (neg x) (neg-fits f x h) (unfold neg in neg_lt (inf true) x l)))

pub next_down_greatest : (f : Format) (x y : Float) → T (fits f x) → T (fits f y) → T (lt y x) → T (le y (next_down f x))
unfolding next_down
next_down_greatest f x y h k l =
    subst (λ (z : Float). T (le z (neg (next_up f (neg x))))) (neg_neg y)
    (neg_le (next_up f (neg x)) (neg y) (next_up_least f (neg x) (neg y) (neg-fits f x h) (neg-fits f y k) (neg_lt y x l)))

-- ---- `next_up` by the tests that code makes
pub next_up_nan : (f : Format) (x : Float) → T (is_nan x) → next_up f x ≡ x
unfolding next_up is_nan
next_up_nan f nan h = refl
next_up_nan f (inf s) h = absurd h
next_up_nan f (fin s m e) h = absurd h

pub next_up_at_zero : (f : Format) (x : Float) → T (eq x naught) → next_up f x ≡ tiny f
unfolding next_up
next_up_at_zero f nan h = unfold eq in absurd h
next_up_at_zero f (inf s) h = unfold eq in absurd h
next_up_at_zero f (fin s zero e) h = refl
next_up_at_zero f (fin false (suc m) e) h = absurd (le→not_lt (fin false (suc m) e) naught (eq→le (fin false (suc m) e) naught h) (above_zero m e))
next_up_at_zero f (fin true (suc m) e) h =
    let x = fin true (suc m) e in
    absurd (le→not_lt naught x (eq→le naught x (eq_sym x naught h)) (below_zero m e))

pub next_up_positive : (f : Format) (x : Float) → T (lt naught x) → T (lt x (inf false)) → next_up f x ≡ after f x
unfolding next_up lt
next_up_positive f nan h k = absurd h
next_up_positive f (inf true) h k = absurd h
next_up_positive f (inf false) h k = absurd k
next_up_positive f (fin s zero e) h k = absurd (le→not_lt (fin s 0 e) naught (eq→le (fin s 0 e) naught (zero_is s 0 e (zero-mul (up e)))) h)
next_up_positive f (fin false (suc m) e) h k = refl
next_up_positive f (fin true (suc m) e) h k = absurd h

pub next_up_negative : (f : Format) (x : Float) → T (lt x naught) → next_up f x ≡ neg (before f (neg x))
unfolding next_up neg
next_up_negative f nan h = absurd (subst T (lt_nan_left naught) h)
next_up_negative f (inf true) h = refl
next_up_negative f (inf false) h = absurd (le→not_lt naught (inf false) (unfold le in tt) h)
next_up_negative f (fin s zero e) h = absurd (le→not_lt naught (fin s 0 e) (eq→le naught (fin s 0 e) (eq_sym (fin s 0 e) naught (zero_is s 0 e (zero-mul (up e))))) h)
next_up_negative f (fin false (suc m) e) h = absurd (le→not_lt naught (fin false (suc m) e) (lt→le naught (fin false (suc m) e) (above_zero m e)) h)
next_up_negative f (fin true (suc m) e) h = refl

pub next_up_inf : (f : Format) → next_up f (inf false) ≡ inf false
unfolding next_up
next_up_inf f = refl

-- the patterns of x above zero, and of -x for x below
positive_signless : (x : Float) → T (lt naught x) → T (signless x)
positive_signless x l = signless_above 0 (pos 0) x l

pub negative_bits : (f : Format) (x : Float) → T (fits f x) → T (lt x naught) → (0 < to_bits f (neg x)) × (to_bits f (neg x) ≤ to_bits f (inf false))
negative_bits f x h l =
    let l' = le_lt_trans naught (neg naught) (neg x) (unfold neg in zeros_le false true) (neg_lt x naught l) in
    let s = positive_signless (neg x) l' in
    let h' = neg-fits f x h in
    (lt_of_le_of_lt zero-le (bits_lt f naught (neg x) (naught_fits f) h' tt s l'), top_of f (neg x) h' s (lt_right naught (neg x) l'))

pub below_inf : (f : Format) (x : Float) → T (fits f x) → T (lt naught x) → to_bits f x < to_bits f (inf false) → T (lt x (inf false))
below_inf f x h l b = of_bits f x (inf false) h (inf-fits f false) (positive_signless x l) tt (lt_right naught x l) (unfold is_nan in tt) b

pub is_inf : (f : Format) (x : Float) → T (fits f x) → T (lt naught x) → to_bits f (inf false) ≤ to_bits f x → x ≡ inf false
is_inf f x h l b = bits_inj f x (inf false) h (inf-fits f false) (le_antisymm (top_of f x h (positive_signless x l) (lt_right naught x l)) b)
