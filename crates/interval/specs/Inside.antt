-- An interval inside another: no lo lowered, no hi raised, not empty (an interval is empty unless lo <= hi). What the operations do to
-- that, and to a sound interval. Assumes nothing.
use Rattle.std.specs.Prelude.{ℕ, zero, suc, not, ◌||◌, List, [], ◌∷◌, T, get_or, set, Float}
use Rattle.std.specs.Float.{binary64}
use Rattle.std.specs.Float.Ieee.{fits, is_nan, of_int, le}
use Rattle.std.specs.Float.Ieee.Fits.{add-fits, sub-fits, mul-fits, div-fits, nan-fits, inf-fits, of_int-fits, and_i, and_l, and_r}
use Rattle.number.specs.Notation.{◌≺◌, ◌≼◌}
use Rattle.number.specs.Order.{le_refl, le_trans, le_left, le_right, not_lt→le}
use Rattle.number.specs.MaxMin.{max_of, min_of, max_laws, min_laws, kept}
use Rattle.number.specs.Sound.{sound, sound_held, sound_lo, sound_hi, sound_le, part_sound}
use Rattle.number.specs.Halving.{mid, lo≤mid, mid≤hi}
use Rattle.maths.specs.Exp.{exp_of, exp_at, scaled}
use Rattle.maths.specs.Ln.{ln_of, ln_from, ln_at}
use Rattle.interval.specs.Interval.{is_empty, midpoint, contains, split, intersect, hull, exp, nothing, ln, minus}
use Rattle.interval.specs.Boxes.{missing, all_sound}
use Rattle.interval.specs.Choices.{either, neither}
use Rattle.interval.specs.declared.Interval.{Interval}

-- ---- the words
-- an f64
abbrev pub Held : Float → Type 0
Held x = T (fits binary64 x)

pub record Ends (i : Interval) : Type 0 where
  pub lo : Held i.lo
  pub hi : Held i.hi

-- not empty
pub record Proper (i : Interval) : Type 0 where
  pub ordered : T (i.lo ≼ i.hi)
  pub ends : Ends i

pub record Inside (old new : Interval) : Type 0 where
  pub lo : T (old.lo ≼ new.lo)
  pub hi : T (new.hi ≼ old.hi)
  pub ordered : T (new.lo ≼ new.hi)

-- a sound range (document 01, "The file")
abbrev pub Sound : Interval → Type 0
Sound i = T (sound binary64 i.lo i.hi)

-- ---- one inside another
pub inside_refl : (i : Interval) → T (i.lo ≼ i.hi) → Inside i i
inside_refl i h = record { lo = le_refl i.lo (le_left i.lo i.hi h); hi = le_refl i.hi (le_right i.lo i.hi h); ordered = h }

pub inside_trans : (i j k : Interval) → Inside i j → Inside j k → Inside i k
inside_trans i j k a b = record { lo = le_trans i.lo j.lo k.lo a.lo b.lo; hi = le_trans k.hi j.hi i.hi b.hi a.hi; ordered = b.ordered }

pub sound_ends : (i : Interval) → Sound i → Ends i
sound_ends i s = let h = sound_held binary64 i.lo i.hi s in record { lo = h.0; hi = h.1 }

pub sound_proper : (i : Interval) → Sound i → Proper i
sound_proper i s = record { ordered = sound_le binary64 i.lo i.hi s; ends = sound_ends i s }

pub inside_sound : (i j : Interval) → Inside i j → Ends j → Sound i → Sound j
inside_sound i j a e s = part_sound binary64 i.lo j.lo j.hi i.hi s e.lo e.hi a.lo a.ordered a.hi

-- ---- the midpoint and the halves of a sound interval
pub midpoint_held : (i : Interval) → Held (midpoint i)
unfolding midpoint
midpoint_held i = div-fits binary64 _ _

module _ (i : Interval) (s : Sound i) where
  above : T (i.lo ≼ mid binary64 i.lo i.hi)
  above = lo≤mid binary64 i.lo i.hi (sound_ends i s).lo (sound_lo binary64 i.lo i.hi s) (sound_hi binary64 i.lo i.hi s) (sound_le binary64 i.lo i.hi s)

  below : T (mid binary64 i.lo i.hi ≼ i.hi)
  below = mid≤hi binary64 i.lo i.hi (sound_ends i s).hi (sound_lo binary64 i.lo i.hi s) (sound_hi binary64 i.lo i.hi s) (sound_le binary64 i.lo i.hi s)

  self : Inside i i
  self = inside_refl i (sound_le binary64 i.lo i.hi s)

  pub midpoint_inside : T (contains i (midpoint i))
  unfolding contains midpoint of_int
  midpoint_inside = and_i (i.lo ≼ midpoint i) (midpoint i ≼ i.hi) above below

  pub lower_inside : Inside i (split i).lower
  unfolding split midpoint of_int
  lower_inside = record { lo = self.lo; hi = below; ordered = above }

  pub upper_inside : Inside i (split i).upper
  unfolding split midpoint of_int
  upper_inside = record { lo = above; hi = self.hi; ordered = below }

  pub lower_sound : Sound (split i).lower
  lower_sound = inside_sound i (split i).lower lower_inside (unfold split in record { lo = (sound_ends i s).lo; hi = midpoint_held i }) s

  pub upper_sound : Sound (split i).upper
  upper_sound = inside_sound i (split i).upper upper_inside (unfold split in record { lo = midpoint_held i; hi = (sound_ends i s).hi }) s

-- ---- an interval that is not empty
pub not_empty : (i : Interval) → T (not (is_empty i)) → T (i.lo ≼ i.hi)
unfolding is_empty
not_empty i n =
    let a = neither ((i.hi ≺ i.lo) || is_nan i.lo) (is_nan i.hi) n in
    let b = neither (i.hi ≺ i.lo) (is_nan i.lo) a.0 in
    not_lt→le i.hi i.lo a.1 b.1 b.0

-- ---- intersections and hulls
pub max_held : (x y : Float) → Held x → Held y → Held (max_of x y)
max_held x y p q = kept _ max_of max_laws (fits binary64) x y p q

pub min_held : (x y : Float) → Held x → Held y → Held (min_of x y)
min_held x y p q = kept _ min_of min_laws (fits binary64) x y p q

module _ (i j : Interval) where
  pub intersect_ends : Ends i → Ends j → Ends (intersect i j)
  unfolding intersect
  intersect_ends p q = record { lo = max_held i.lo j.lo p.lo q.lo; hi = min_held i.hi j.hi p.hi q.hi }

  pub hull_ends : Ends i → Ends j → Ends (hull i j)
  unfolding hull
  hull_ends p q = record { lo = min_held i.lo j.lo p.lo q.lo; hi = max_held i.hi j.hi p.hi q.hi }

  -- an intersection that is not empty lies inside each that is not
  pub intersect_left : T (i.lo ≼ i.hi) → T (not (is_empty (intersect i j))) → Inside i (intersect i j)
  unfolding intersect
  intersect_left h n = record {
    lo = max_laws.left i.lo j.lo (le_left i.lo i.hi h);
    hi = min_laws.left i.hi j.hi (le_right i.lo i.hi h);
    ordered = not_empty (intersect i j) n;
  }

  pub intersect_right : T (j.lo ≼ j.hi) → T (not (is_empty (intersect i j))) → Inside j (intersect i j)
  unfolding intersect
  intersect_right h n = record {
    lo = max_laws.right i.lo j.lo (le_left j.lo j.hi h);
    hi = min_laws.right i.hi j.hi (le_right j.lo j.hi h);
    ordered = not_empty (intersect i j) n;
  }

-- ---- exp and ln
exp_held : (x : Float) → Held (exp_of x)
unfolding exp_of exp_at scaled
exp_held x = either Held _ _ _ (nan-fits binary64) (either Held _ _ _ (inf-fits binary64 _) (either Held _ _ _ (of_int-fits binary64 _) (mul-fits binary64 _ _)))

ln_held : (x : Float) → Held (ln_of x)
unfolding ln_of ln_from ln_at
ln_held x =
    either Held _ _ _ (nan-fits binary64) (either Held _ _ _ (nan-fits binary64) (either Held _ _ _ (inf-fits binary64 _) (either Held _ _ _ (inf-fits binary64 _)
    (either Held _ _ _ (add-fits binary64 _ _) (add-fits binary64 _ _)))))

pub exp_ends : (i : Interval) → Ends (exp i)
unfolding exp
exp_ends i = record { lo = exp_held i.lo; hi = exp_held i.hi }

pub nothing_ends : Ends nothing
nothing_ends = record { lo = inf-fits binary64 _; hi = inf-fits binary64 _ }

pub ln_ends : (i : Interval) → Ends (ln i)
unfolding ln
ln_ends i = either Ends _ _ _ (record { lo = ln_held i.lo; hi = ln_held i.hi }) nothing_ends

-- ---- differences
pub minus_ends : (i j : Interval) → Ends (minus i j)
unfolding minus
minus_ends i j = record { lo = sub-fits binary64 i.lo j.hi; hi = sub-fits binary64 i.hi j.lo }

-- ---- boxes
abbrev pub Each : (Interval → Type 0) → List Interval → Type 0
Each P [] = Unit {0}
Each P (i ∷ is) = P i × Each P is

-- as many boxes, each inside its own
abbrev pub EachInside : List Interval → List Interval → Type 0
EachInside [] [] = Unit {0}
EachInside [] (j ∷ js) = ⊥
EachInside (i ∷ is) [] = ⊥
EachInside (i ∷ is) (j ∷ js) = Inside i j × EachInside is js

-- the boxes r are those of b, narrowed
pub record Narrower (b r : List Interval) : Type 0 where
  pub inside : EachInside b r
  pub proper : Each Proper r

each_refl : (b : List Interval) → Each Proper b → EachInside b b
each_refl [] g = tt
each_refl (i ∷ is) g = (inside_refl i g.0.ordered, each_refl is g.1)

each_trans : (a b c : List Interval) → EachInside a b → EachInside b c → EachInside a c
each_trans [] [] [] p q = tt
each_trans [] [] (k ∷ ks) p q = q
each_trans [] (j ∷ js) c p q = absurd p
each_trans (i ∷ is) [] c p q = absurd p
each_trans (i ∷ is) (j ∷ js) [] p q = q
each_trans (i ∷ is) (j ∷ js) (k ∷ ks) p q = (inside_trans i j k p.0 q.0, each_trans is js ks p.1 q.1)

pub narrower_refl : (b : List Interval) → Each Proper b → Narrower b b
narrower_refl b g = record { inside = each_refl b g; proper = g }

pub narrower_trans : (a b c : List Interval) → Narrower a b → Narrower b c → Narrower a c
narrower_trans a b c p q = record { inside = each_trans a b c p.inside q.inside; proper = q.proper }

pub each_proper : (b : List Interval) → Each Sound b → Each Proper b
each_proper [] h = tt
each_proper (i ∷ is) h = (sound_proper i h.0, each_proper is h.1)

pub each_sound : (b r : List Interval) → EachInside b r → Each Proper r → Each Sound b → Each Sound r
each_sound [] [] p q h = tt
each_sound [] (j ∷ js) p q h = absurd p
each_sound (i ∷ is) [] p q h = absurd p
each_sound (i ∷ is) (j ∷ js) p q h = (inside_sound i j p.0 q.0.ends h.0, each_sound is js p.1 q.1 h.1)

missing_proper : Proper missing
unfolding missing of_int fits le
missing_proper = record { ordered = tt; ends = record { lo = tt; hi = tt } }

pub box_proper : (b : List Interval) (i : ℕ) → Each Proper b → Proper (get_or b i missing)
box_proper [] i g = missing_proper
box_proper (x ∷ xs) zero g = g.0
box_proper (x ∷ xs) (suc i) g = box_proper xs i g.1

set_inside : (b : List Interval) (i : ℕ) (new : Interval) → Each Proper b → Inside (get_or b i missing) new → EachInside b (set b i new)
set_inside [] i new g p = tt
set_inside (x ∷ xs) zero new g p = (p, each_refl xs g.1)
set_inside (x ∷ xs) (suc i) new g p = (inside_refl x g.0.ordered, set_inside xs i new g.1 p)

set_proper : (b : List Interval) (i : ℕ) (new : Interval) → Each Proper b → Proper new → Each Proper (set b i new)
set_proper [] i new g p = tt
set_proper (x ∷ xs) zero new g p = (p, g.1)
set_proper (x ∷ xs) (suc i) new g p = (g.0, set_proper xs i new g.1 p)

-- an interval inside the old one, written
pub set_narrower : (b : List Interval) (i : ℕ) (new : Interval) → Each Proper b → Inside (get_or b i missing) new → Ends new → Narrower b (set b i new)
set_narrower b i new g p e = record { inside = set_inside b i new g p; proper = set_proper b i new g (record { ordered = p.ordered; ends = e }) }

-- ---- boxes that a call takes
pub boxes_sound : (b : List Interval) → T (all_sound b) → Each Sound b
unfolding all_sound
boxes_sound [] t = tt
boxes_sound (i ∷ is) t = (and_l (sound binary64 i.lo i.hi) (all_sound is) t, boxes_sound is (and_r (sound binary64 i.lo i.hi) (all_sound is) t))
