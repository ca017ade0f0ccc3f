-- Demand 3: an assignment lies in its starting box and passes document 01's check of the constraint, whatever the limit. Assumes nothing.
use Rattle.std.specs.Prelude.{◌≡◌, Bool, List, [], ◌∷◌, T, get_or, Float}
use Rattle.std.proofs.Math.Path.{refl}
use Rattle.std.proofs.Common.{subst}
use Prim.Native.Nat.{ℕ, zero, suc}
use Rattle.std.proofs.Math.Bool.{true, false}
use Rattle.std.specs.Float.Ieee.{fits, of_int, le}
use Rattle.std.specs.Float.Ieee.Fits.{and_l, and_r}
use Rattle.number.specs.Notation.{◌≼◌}
use Rattle.number.specs.Order.{le_trans}
use Rattle.settings.specs.declared.Settings.{Settings}
use Rattle.interval.specs.declared.Interval.{Interval}
use Rattle.interval.specs.Interval.{midpoint, contains, split}
use Rattle.interval.specs.Boxes.{missing, starting, midpoints, widest}
use Rattle.interval.specs.Choices.{either}
use Rattle.interval.specs.Inside.{Sound, Each, EachInside, Narrower, midpoint_inside, lower_inside, upper_inside, lower_sound, upper_sound, sound_ends, narrower_refl, narrower_trans, each_proper, each_sound, set_narrower}
use Rattle.constraint.specs.Constraint.{Constraint, num_vars}
use Rattle.narrow.specs.Narrowing.{propagate}
use Rattle.narrow.specs.Held.{ConstraintHeld}
use Rattle.narrow.proofs.Promise.{propagate_narrows}
use Rattle.point.specs.Check.{check}
use Rattle.nra.specs.Solver.{Problem, Answer, assignment, failed, State, Progress, Stopped, Going, begin_checked, begin_narrowed, begin_empty, begin_in, begin_at, begin, halved, settle_checked, settle_narrowed, settle_in, halve, steps, finish, run, untried, solve}

-- ---- the words
-- the starting box: the bounds as the call got them, [-10,10] for a missing one
abbrev pub starting_box : Problem → List Interval → List Interval
starting_box p bounds = starting (num_vars p.constraint) bounds

-- as many values as intervals, and lo <= value <= hi of each
abbrev pub InBox : List Interval → List Float → Type 0
InBox [] [] = Unit {0}
InBox [] (x ∷ xs) = ⊥
InBox (i ∷ is) [] = ⊥
InBox (i ∷ is) (x ∷ xs) = (T (i.lo ≼ x) × T (x ≼ i.hi)) × InBox is xs

-- ---- the midpoints of boxes inside the starting ones
midpoints_in : (b r : List Interval) → EachInside b r → Each Sound r → InBox b (midpoints r)
unfolding midpoints contains
midpoints_in [] [] h s = tt
midpoints_in [] (j ∷ js) h s = absurd h
midpoints_in (i ∷ is) [] h s = absurd h
midpoints_in (i ∷ is) (j ∷ js) h s =
    let w = midpoint_inside j s.0 in (
      (
        le_trans i.lo j.lo (midpoint j) h.0.lo (and_l (j.lo ≼ midpoint j) (midpoint j ≼ j.hi) w),
        le_trans (midpoint j) j.hi i.hi (and_r (j.lo ≼ midpoint j) (midpoint j ≼ j.hi) w) h.0.hi,
      ),
      midpoints_in is js h.1 s.1,
    )

-- ---- halving
missing_sound : Sound missing
unfolding missing of_int fits le
missing_sound = tt

box_sound : (b : List Interval) (i : ℕ) → Each Sound b → Sound (get_or b i missing)
box_sound [] i s = missing_sound
box_sound (x ∷ xs) zero s = s.0
box_sound (x ∷ xs) (suc i) s = box_sound xs i s.1

halved_narrows : (σ : Settings) (c : Constraint) (b : List Interval) → Each Sound b → Narrower b (halved σ c b)
unfolding halved
halved_narrows σ c b s =
    let w = widest b in
    let i = get_or b w missing in
    let k = box_sound b w s in
    let half = set_narrower b w in
    either (Narrower b) _ _ _ (half (split i).lower (each_proper b s) (lower_inside i k) (sound_ends (split i).lower (lower_sound i k))) (half (split i).upper (each_proper b s) (upper_inside i k) (sound_ends (split i).upper (upper_sound i k)))

-- ---- the run
module _ (σ : Settings) (p : Problem) (f : ConstraintHeld p.constraint) (start : List Interval) where
  -- boxes that the run can come to
  record Reached (b : List Interval) : Type 0 where
    narrower : Narrower start b
    sound : Each Sound b

  abbrev Holds : Answer → Type 0
  Holds (assignment m exact h) = InBox start m × (check σ m p.constraint ≡ true)
  Holds (failed w r h) = Unit {0}

  abbrev Keeps : Progress → Type 0
  Keeps (Stopped a) = Holds a
  Keeps (Going s) = Reached s.boxes

  narrowed : (b r : List Interval) → Reached b → Narrower b r → Reached r
  narrowed b r a n = record { narrower = narrower_trans start b r a.narrower n; sound = each_sound b r n.inside n.proper a.sound }

  propagated : (b : List Interval) → Reached b → Reached (propagate σ p.constraint b).places
  propagated b a = narrowed b (propagate σ p.constraint b).places a (propagate_narrows σ p.constraint b f (each_proper b a.sound))

  middle_in : (b : List Interval) → Reached b → InBox start (midpoints b)
  middle_in b a = midpoints_in start b a.narrower.inside a.sound

  settle_checked_keeps : (h : ℕ) (b : List Interval) (k n : Bool) → check σ (midpoints b) p.constraint ≡ k → Reached b → Keeps (settle_checked σ p h b k n)
  unfolding settle_checked
  settle_checked_keeps h b true n e a = (middle_in b a, e)
  settle_checked_keeps h b false true e a = tt
  settle_checked_keeps h b false false e a = a

  settle_narrowed_keeps : (h : ℕ) (conflict : Bool) (b : List Interval) → Reached b → Keeps (settle_narrowed σ p h conflict b)
  unfolding settle_narrowed
  settle_narrowed_keeps h true b a = tt
  settle_narrowed_keeps h false b a = settle_checked_keeps h b _ _ refl a

  halve_keeps : (s : State) → Reached s.boxes → Keeps (halve σ p s)
  unfolding halve settle_in
  halve_keeps s a =
      let b = halved σ p.constraint s.boxes in
      settle_narrowed_keeps (suc s.halvings) _ _ (propagated b (narrowed s.boxes b a (halved_narrows σ p.constraint s.boxes a.sound)))

  begin_checked_keeps : (b : List Interval) (k : Bool) → check σ (midpoints b) p.constraint ≡ k → Reached b → Keeps (begin_checked p b k)
  unfolding begin_checked
  begin_checked_keeps b true e a = (middle_in b a, e)
  begin_checked_keeps b false e a = a

  begin_narrowed_keeps : (conflict : Bool) (b : List Interval) → Reached b → Keeps (begin_narrowed σ p conflict b)
  unfolding begin_narrowed
  begin_narrowed_keeps true b a = tt
  begin_narrowed_keeps false b a = begin_checked_keeps b _ refl a

  run_holds : (n : ℕ) (g : Progress) → Keeps g → Holds (run σ p n g)
  unfolding run steps finish
  run_holds zero (Stopped a) k = k
  run_holds zero (Going s) k = tt
  run_holds (suc n) (Stopped a) k = k
  run_holds (suc n) (Going s) k = run_holds n (halve σ p s) (halve_keeps s k)

  untried_holds : (v : ℕ) (a : Answer) → Holds a → Holds (untried v a)
  unfolding untried
  untried_holds zero a k = k
  untried_holds (suc v) (assignment m exact h) k = k
  untried_holds (suc v) (failed w r h) k = k

starting_sound : (n : ℕ) (bounds : List Interval) → Each Sound bounds → Each Sound (starting n bounds)
unfolding starting
starting_sound zero bounds s = tt
starting_sound (suc n) [] s = (missing_sound, starting_sound n [] tt)
starting_sound (suc n) (b ∷ bs) s = (s.0, starting_sound n bs s.1)

-- An accepted problem: the constants of its constraint are f64 values, and its bounds are sound.
pub record Fair (p : Problem) (bounds : List Interval) : Type 0 where
  pub constants : ConstraintHeld p.constraint
  pub ranges : Each Sound bounds

module _ (σ : Settings) (p : Problem) (bounds : List Interval) (f : ConstraintHeld p.constraint) (s : Each Sound bounds) where
  empty_holds : (k : Bool) → check σ [] p.constraint ≡ k → Holds σ p f [] (begin_empty k)
  unfolding begin_empty
  empty_holds true e = (tt, e)
  empty_holds false e = tt

  begin_at_keeps : (v : ℕ) → Keeps σ p f (starting v bounds) (begin_at σ p bounds v)
  unfolding begin_at begin_in starting
  begin_at_keeps zero = empty_holds _ refl
  begin_at_keeps (suc v) =
      let b = starting (suc v) bounds in
      let a = starting_sound (suc v) bounds s in
      begin_narrowed_keeps σ p f b _ _ (propagated σ p f b b (record { narrower = narrower_refl b (each_proper b a); sound = a }))

  begin_keeps : Keeps σ p f (starting_box p bounds) (begin σ p bounds)
  unfolding begin
  begin_keeps = begin_at_keeps (num_vars p.constraint)

  solve_holds : (L : ℕ) → Holds σ p f (starting_box p bounds) (solve σ p bounds L)
  unfolding solve
  solve_holds zero = untried_holds σ p f (starting_box p bounds) _ _ (run_holds σ p f (starting_box p bounds) 0 _ begin_keeps)
  solve_holds (suc L) = run_holds σ p f (starting_box p bounds) (suc L) _ begin_keeps

pub assignment_kept : (σ : Settings) (p : Problem) (bounds : List Interval) → Fair p bounds → (L : ℕ) (m : List Float) (exact : Bool) (h : ℕ) → solve σ p bounds L ≡ assignment m exact h
    → InBox (starting_box p bounds) m × (check σ m p.constraint ≡ true)
assignment_kept σ p bounds f L m exact h e = subst (Holds σ p f.constants (starting_box p bounds)) e (solve_holds σ p bounds f.constants f.ranges L)
