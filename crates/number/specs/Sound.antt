-- A sound range [lo, hi]: ends of the format, finite and of magnitude at most 2 ^ (emax - 1), which is 2 ^ 1022 in an f64, and lo <= hi. Assumes nothing.
use Rattle.std.proofs.Common.{subst, arith}
use Rattle.std.specs.Prelude.{◌-◌, Bool, true, false, ◌&&◌, T, pos, Float}
use Rattle.std.specs.Float.{nan, inf, fin, Format}
use Rattle.std.specs.Float.Ieee.{emax, fits, neg, le}
use Rattle.std.specs.Float.Ieee.Fits.{and_l, and_r, and_i}
use Rattle.std.specs.Float.Ieee.Scale.{finite}
use Rattle.number.specs.Sign.{abs_of}
use Rattle.number.specs.Signed.{⊑→le}
use Rattle.number.specs.Order.{le_nan_left, le_trans, neg_le}

-- 2 ^ (emax - 1), and its negative
abbrev pub high_end : Format → Float
high_end f = fin false 1 (pos (emax f - 1))

abbrev pub low_end : Format → Float
low_end f = fin true 1 (pos (emax f - 1))

-- finite, and at most that in size
abbrev pub within : Format → Float → Bool
within f x = le (low_end f) x && le x (high_end f)

-- the range that a caller's two numbers make can be halved
abbrev pub ranged : Format → Float → Float → Bool
ranged f lo hi = within f lo && within f hi && le lo hi

-- and both are numbers of the format, as a caller's are
abbrev pub sound : Format → Float → Float → Bool
sound f lo hi = fits f lo && fits f hi && ranged f lo hi

-- the parts of these tests
pub within_low : (f : Format) (x : Float) → T (within f x) → T (le (low_end f) x)
within_low f x h = and_l (le (low_end f) x) (le x (high_end f)) h

pub within_high : (f : Format) (x : Float) → T (within f x) → T (le x (high_end f))
within_high f x h = and_r (le (low_end f) x) (le x (high_end f)) h

pub within_i : (f : Format) (x : Float) → T (le (low_end f) x) → T (le x (high_end f)) → T (within f x)
within_i f x p q = and_i (le (low_end f) x) (le x (high_end f)) p q

pub sound_held : (f : Format) (lo hi : Float) → T (sound f lo hi) → T (fits f lo) × T (fits f hi)
sound_held f lo hi h = let e = and_l (fits f lo && fits f hi) (ranged f lo hi) h in (and_l (fits f lo) (fits f hi) e, and_r (fits f lo) (fits f hi) e)

sound_ranged : (f : Format) (lo hi : Float) → T (sound f lo hi) → T (ranged f lo hi)
sound_ranged f lo hi h = and_r (fits f lo && fits f hi) (ranged f lo hi) h

pub sound_lo : (f : Format) (lo hi : Float) → T (sound f lo hi) → T (within f lo)
sound_lo f lo hi h = and_l (within f lo) (within f hi) (and_l (within f lo && within f hi) (le lo hi) (sound_ranged f lo hi h))

pub sound_hi : (f : Format) (lo hi : Float) → T (sound f lo hi) → T (within f hi)
sound_hi f lo hi h = and_r (within f lo) (within f hi) (and_l (within f lo && within f hi) (le lo hi) (sound_ranged f lo hi h))

pub sound_le : (f : Format) (lo hi : Float) → T (sound f lo hi) → T (le lo hi)
sound_le f lo hi h = and_r (within f lo && within f hi) (le lo hi) (sound_ranged f lo hi h)

pub sound_i : (f : Format) (lo hi : Float) → T (fits f lo) → T (fits f hi) → T (within f lo) → T (within f hi) → T (le lo hi) → T (sound f lo hi)
sound_i f lo hi d e p q h = and_i (fits f lo && fits f hi) (ranged f lo hi) (and_i (fits f lo) (fits f hi) d e) (and_i (within f lo && within f hi) (le lo hi) (and_i (within f lo) (within f hi) p q) h)

-- ---- what lies between two such values is such a value
pub finite_between : (a x b : Float) → T (finite a) → T (finite b) → T (le a x) → T (le x b) → T (finite x)
unfolding le
finite_between nan x b p q h k = absurd p
finite_between (inf s) x b p q h k = absurd p
finite_between (fin s m e) nan b p q h k = h
finite_between (fin s m e) (inf true) b p q h k = h
finite_between (fin s m e) (inf false) nan p q h k = k
finite_between (fin s m e) (inf false) (inf t) p q h k = q
finite_between (fin s m e) (inf false) (fin t n d) p q h k = k
finite_between (fin s m e) (fin u l g) b p q h k = tt

pub within_finite : (f : Format) (x : Float) → T (within f x) → T (finite x)
within_finite f x h = finite_between (low_end f) x (high_end f) tt tt (within_low f x h) (within_high f x h)

pub within_between : (f : Format) (lo x hi : Float) → T (within f lo) → T (within f hi) → T (le lo x) → T (le x hi) → T (within f x)
within_between f lo x hi p q h k =
    within_i f x (le_trans (low_end f) lo x (within_low f lo p) h) (le_trans x hi (high_end f) k (within_high f hi q))

-- ---- the same test by the magnitude
pub abs_within : (f : Format) (x : Float) → T (le (abs_of x) (high_end f)) → T (within f x)
unfolding abs_of neg
abs_within f nan h = absurd (subst T (le_nan_left (high_end f)) h)
abs_within f (inf s) h = unfold le in absurd h
abs_within f (fin false m e) h = within_i f (fin false m e) (⊑→le (low_end f) (fin false m e) tt tt (omega arith)) h
abs_within f (fin true m e) h = within_i f (fin true m e) (neg_le (fin false m e) (high_end f) h) (⊑→le (fin true m e) (high_end f) tt tt (omega arith))

pub within_abs : (f : Format) (x : Float) → T (within f x) → T (le (abs_of x) (high_end f))
unfolding abs_of neg
within_abs f nan h = absurd (within_finite f nan h)
within_abs f (inf s) h = absurd (within_finite f (inf s) h)
within_abs f (fin false m e) h = within_high f (fin false m e) h
within_abs f (fin true m e) h = neg_le (low_end f) (fin true m e) (within_low f (fin true m e) h)

-- ---- what lies in a sound range, and a part of it
pub inside_within : (f : Format) (lo x hi : Float) → T (sound f lo hi) → T (le lo x) → T (le x hi) → T (within f x)
inside_within f lo x hi h = within_between f lo x hi (sound_lo f lo hi h) (sound_hi f lo hi h)

pub part_sound : (f : Format) (lo a b hi : Float) → T (sound f lo hi) → T (fits f a) → T (fits f b) → T (le lo a) → T (le a b) → T (le b hi) → T (sound f a b)
part_sound f lo a b hi h d e p q r =
    sound_i f a b d e (inside_within f lo a hi h p (le_trans a b hi q r)) (inside_within f lo b hi h (le_trans lo a b p q) r) q
