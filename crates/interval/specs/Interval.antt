-- Intervals (document 01, "Narrowing"; interval.rs): two f64, lo and hi. The methods take any f64 and refuse nothing.
use Rattle.std.specs.Prelude.{Bool, not, ◌&&◌, ◌||◌, Float}
use Rattle.std.specs.Float.Ieee.{is_nan}
use Rattle.std.specs.Float.Ieee.Scale.{finite}
use Rattle.number.specs.Notation.{when◌then◌else◌, ◌⊕◌, ◌⊖◌, ◌⊘◌, ◌≺◌, ◌≼◌, whole, +∞, -∞}
use Rattle.number.specs.MaxMin.{max_of, min_of}
use Rattle.maths.specs.Exp.{exp_of}
use Rattle.maths.specs.Ln.{ln_of}
use Rattle.interval.specs.declared.Interval.{Interval}
use Rattle.interval.specs.declared.Halves.{Halves}

infix 40 ◌‥◌
abbrev pub ◌‥◌ : Float → Float → Interval
a ‥ b = record { lo = a; hi = b }

unfoldable pub is_empty : Interval → Bool
is_empty i = (i.hi ≺ i.lo) || is_nan i.lo || is_nan i.hi

unfoldable pub width : Interval → Float
width i = i.hi ⊖ i.lo

unfoldable pub midpoint : Interval → Float
midpoint i = (i.lo ⊕ i.hi) ⊘ whole 2

unfoldable pub contains : Interval → Float → Bool
contains i x = (i.lo ≼ x) && (x ≼ i.hi)

unfoldable pub split : Interval → Halves
split i = record { lower = i.lo ‥ midpoint i; upper = midpoint i ‥ i.hi }

unfoldable pub intersect : Interval → Interval → Interval
intersect i j = max_of i.lo j.lo ‥ min_of i.hi j.hi

unfoldable pub hull : Interval → Interval → Interval
hull i j = min_of i.lo j.lo ‥ max_of i.hi j.hi

unfoldable pub exp : Interval → Interval
exp i = exp_of i.lo ‥ exp_of i.hi

-- ln is real on an interval that lies above zero and has finite ends
unfoldable pub has_ln : Interval → Bool
has_ln i = not ((i.lo ≼ whole 0) || not (finite i.lo) || not (finite i.hi))

-- no point at all, as the Rust writes it
abbrev pub nothing : Interval
nothing = +∞ ‥ -∞

unfoldable pub ln : Interval → Interval
ln i = when has_ln i then ln_of i.lo ‥ ln_of i.hi else nothing

-- ---- what narrowing computes of intervals
unfoldable pub plus : Interval → Interval → Interval
plus i j = i.lo ⊕ j.lo ‥ i.hi ⊕ j.hi

unfoldable pub minus : Interval → Interval → Interval
minus i j = i.lo ⊖ j.hi ‥ i.hi ⊖ j.lo

-- an end moves inward by over the slack
unfoldable pub moves : Float → Interval → Interval → Bool
moves slack old new = (old.lo ⊕ slack ≺ new.lo) || (new.hi ≺ old.hi ⊖ slack)
