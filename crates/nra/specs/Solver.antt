-- Halving (document 01; nra.rs): `solve`, step by step. σ are the settings.
use Rattle.std.specs.Prelude.{ℕ, zero, suc, Bool, true, false, List, [], get_or, set, Float}
use Rattle.number.specs.Notation.{when◌then◌else◌, ◌≺◌, +∞}
use Rattle.number.specs.Sign.{abs_of}
use Rattle.settings.specs.declared.Settings.{Settings}
use Rattle.interval.specs.declared.Interval.{Interval}
use Rattle.interval.specs.Interval.{split}
use Rattle.interval.specs.Boxes.{missing, starting, midpoints, all_below, widest}
use Rattle.constraint.specs.Constraint.{Constraint, num_vars}
use Rattle.narrow.specs.Narrowing.{is_conflict, propagate}
use Rattle.point.specs.Check.{check}
use Rattle.point.specs.Residual.{residual}
use Rattle.nra.specs.declared.answer.Stop.{Stop}

pub record Problem : Type 0 where
  pub constraint : Constraint
  pub tolerance : Float

-- Both carry the count of halvings last. An assignment has its point and exactness, any other answer its stop word and residual.
pub data Answer : Type 0 where
  assignment : List Float → Bool → ℕ → Answer
  failed : Stop → Float → ℕ → Answer

abbrev pub halvings_of : Answer → ℕ
halvings_of (assignment m exact h) = h
halvings_of (failed w r h) = h

-- the stop word is "limit"
abbrev pub reached : Answer → Bool
reached (assignment m exact h) = false
reached (failed Stop.Conflict r h) = false
reached (failed Stop.Tolerance r h) = false
reached (failed Stop.Limit r h) = true
reached (failed Stop.Unsatisfied r h) = false

-- how far a point is from meeting the constraint: the residual's magnitude
abbrev pub distance_at : Settings → Constraint → List Float → Float
distance_at σ c m = abs_of (residual σ m c)

-- and how far the midpoint of the boxes is
unfoldable pub distance : Settings → Constraint → List Interval → Float
distance σ c b = distance_at σ c (midpoints b)

-- ---- between two halvings: the boxes, whose midpoint did not pass the check, and the halvings so far
pub record State : Type 0 where
  pub boxes : List Interval
  pub halvings : ℕ

pub data Progress : Type 0 where
  Stopped : Answer → Progress
  Going : State → Progress

-- ---- before the first halving

-- by whether the midpoint passes the check
unfoldable pub begin_checked : Problem → List Interval → Bool → Progress
begin_checked p b true = Stopped (assignment (midpoints b) (all_below p.tolerance b) 0)
begin_checked p b false = Going (record { boxes = b; halvings = 0 })

-- by whether narrowing met a conflict
unfoldable pub begin_narrowed : Settings → Problem → Bool → List Interval → Progress
begin_narrowed σ p true b = Stopped (failed Stop.Conflict +∞ 0)
begin_narrowed σ p false b = begin_checked p b (check σ (midpoints b) p.constraint)

unfoldable pub begin_in : Settings → Problem → List Interval → Progress
begin_in σ p b = let r = propagate σ p.constraint b in begin_narrowed σ p (is_conflict r.answer) r.places

-- with no variables, by whether the empty point passes
unfoldable pub begin_empty : Bool → Answer
begin_empty true = assignment [] true 0
begin_empty false = failed Stop.Unsatisfied +∞ 0

-- by the number of variables
unfoldable pub begin_at : Settings → Problem → List Interval → ℕ → Progress
begin_at σ p bounds zero = Stopped (begin_empty (check σ [] p.constraint))
begin_at σ p bounds (suc n) = begin_in σ p (starting (suc n) bounds)

unfoldable pub begin : Settings → Problem → List Interval → Progress
begin σ p bounds = begin_at σ p bounds (num_vars p.constraint)

-- ---- a halving, and all that follows it up to the next

-- of the last widest interval, the lower half only if its residual is strictly smaller
unfoldable pub halved : Settings → Constraint → List Interval → List Interval
halved σ c b =
    let w = widest b in
    let halves = split (get_or b w missing) in
    let lower = set b w halves.lower in
    let upper = set b w halves.upper in
    when distance σ c lower ≺ distance σ c upper then lower else upper

-- by whether the midpoint passes the check, and whether every interval is narrower than the tolerance
unfoldable pub settle_checked : Settings → Problem → ℕ → List Interval → Bool → Bool → Progress
settle_checked σ p h b true narrow = Stopped (assignment (midpoints b) false h)
settle_checked σ p h b false true = Stopped (failed Stop.Tolerance (distance σ p.constraint b) h)
settle_checked σ p h b false false = Going (record { boxes = b; halvings = h })

-- by whether narrowing met a conflict
unfoldable pub settle_narrowed : Settings → Problem → ℕ → Bool → List Interval → Progress
settle_narrowed σ p h true b = Stopped (failed Stop.Conflict +∞ h)
settle_narrowed σ p h false b = settle_checked σ p h b (check σ (midpoints b) p.constraint) (all_below p.tolerance b)

unfoldable pub settle_in : Settings → Problem → ℕ → List Interval → Progress
settle_in σ p h b = let r = propagate σ p.constraint b in settle_narrowed σ p h (is_conflict r.answer) r.places

unfoldable pub halve : Settings → Problem → State → Progress
halve σ p s = settle_in σ p (suc s.halvings) (halved σ p.constraint s.boxes)

-- ---- the whole

-- at most n halvings
unfoldable pub steps : Settings → Problem → ℕ → Progress → Progress
steps σ p zero g = g
steps σ p (suc n) (Stopped a) = Stopped a
steps σ p (suc n) (Going s) = steps σ p n (halve σ p s)

-- what goes on then has reached the limit
unfoldable pub finish : Settings → Problem → Progress → Answer
finish σ p (Stopped a) = a
finish σ p (Going s) = failed Stop.Limit (distance σ p.constraint s.boxes) s.halvings

unfoldable pub run : Settings → Problem → ℕ → Progress → Answer
run σ p n g = finish σ p (steps σ p n g)

-- Under limit 0 the Rust makes its check after the loop, where no point is exact. With no variables it comes before.
unfoldable pub untried : ℕ → Answer → Answer
untried zero a = a
untried (suc v) (assignment m exact h) = assignment m false h
untried (suc v) (failed w r h) = failed w r h

unfoldable pub solve : Settings → Problem → List Interval → ℕ → Answer
solve σ p bounds zero = untried (num_vars p.constraint) (run σ p 0 (begin σ p bounds))
solve σ p bounds (suc n) = run σ p (suc n) (begin σ p bounds)
