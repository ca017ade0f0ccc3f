-- Boxes: a list of intervals, one for each variable.
use Rattle.std.specs.Prelude.{ℕ, zero, suc, ◌-◌, Bool, ◌&&◌, List, [], ◌∷◌, ◌++◌, negsuc, leb, eqb, Float, length, map, replicate}
use Rattle.std.specs.List.{list_all, list_any}
use Rattle.std.specs.Float.{binary64}
use Rattle.number.specs.Sound.{sound}
use Rattle.number.specs.Notation.{when◌then◌else◌, ◌≺◌, whole, integer}
use Rattle.interval.specs.Interval.{◌‥◌, is_empty, width, midpoint}
use Rattle.interval.specs.declared.Interval.{Interval}

-- a variable beyond the list is [-10, 10]
unfoldable pub missing : Interval
missing = integer (negsuc 9) ‥ whole 10

-- the boxes that narrowing of n variables starts from: the bounds, [-10, 10] for a missing one, a surplus one unused
unfoldable pub starting : ℕ → List Interval → List Interval
starting zero bounds = []
starting (suc n) [] = missing ∷ starting n []
starting (suc n) (b ∷ bounds) = b ∷ starting n bounds

unfoldable pub any_empty : List Interval → Bool
any_empty b = list_any is_empty b

-- ---- what halving asks of them
unfoldable pub midpoints : List Interval → List Float
midpoints b = map midpoint b

-- every interval is narrower than the tolerance
unfoldable pub all_below : Float → List Interval → Bool
all_below ε b = list_all (λ i. width i ≺ ε) b

-- the number of the last widest interval, from number n on; i is the widest so far, and w its width
unfoldable pub widest_from : ℕ → Float → ℕ → List Interval → ℕ
widest_from i w n [] = i
widest_from i w n (x ∷ xs) = let keep = width x ≺ w in widest_from (when keep then i else n) (when keep then w else width x) (suc n) xs

unfoldable pub widest : List Interval → ℕ
widest [] = 0
widest (x ∷ xs) = widest_from 0 (width x) 1 xs

-- ---- as the code holds them
-- a point has 16 places; those past its values are 0
unfoldable pub padded : List Float → List Float
padded m = m ++ replicate (16 - length m) (whole 0)

-- a list of lower and one of upper ends
unfoldable pub intervals : List Float → List Float → List Interval
intervals [] hs = []
intervals (l ∷ ls) [] = []
intervals (l ∷ ls) (h ∷ hs) = (l ‥ h) ∷ intervals ls hs

-- and the two lists of boxes
abbrev pub lows : List Interval → List Float
lows b = map (λ i. i.lo) b

abbrev pub highs : List Interval → List Float
highs b = map (λ i. i.hi) b

-- ---- the boxes that a call takes: over 16, or an unsound one, is document 01's 9. So is a box that lacks an end.
unfoldable pub all_sound : List Interval → Bool
all_sound b = list_all (λ i. sound binary64 i.lo i.hi) b

unfoldable pub are_paired : List Float → List Float → Bool
are_paired lo hi = eqb (length lo) (length hi) && leb (length lo) 16

unfoldable pub are_boxes : List Float → List Float → Bool
are_boxes lo hi = are_paired lo hi && all_sound (intervals lo hi)

-- likewise one list of intervals
abbrev pub is_domain : List Interval → Bool
is_domain b = leb (length b) 16 && all_sound b
