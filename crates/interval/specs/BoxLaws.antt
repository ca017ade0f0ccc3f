-- Laws of two lists of ends, and of the starting boxes. Assumes nothing.
use Rattle.std.specs.Prelude.{ℕ, zero, suc, ◌<◌, ◌≤◌, ◌≡◌, refl, true, ◌&&◌, List, [], ◌∷◌, ◌++◌, leb, eqb, length, get_or, set, take, drop, replicate, Float, ◌-◌, ◌+◌}
use Rattle.std.proofs.Math.Path.{sym}
use Rattle.std.proofs.Common.{ap, ◌∙◌, le_of_suc-le-suc, not-suc-le-zero, arith, take_at, length-append, length-set, length-take, length-take-le, get_or-take}
use borrow.Author.Tests.{eqb-true, leb-true}
use Rattle.std.proofs.lemmas.List.{take_more, length-map, length-replicate, set-append_left, replicate-append-replicate, take-replicate, drop-replicate}
use Rattle.std.proofs.Math.Seq.{take-set-lt, set_at, append_snoc}
use Rattle.std.specs.Float.{nan}
use Rattle.number.specs.Notation.{whole}
use Rattle.interval.specs.Interval.{◌‥◌, midpoint}
use Rattle.record.specs.RefusalLaws.{both}
use Rattle.interval.specs.Boxes.{intervals, lows, highs, missing, starting, midpoints, padded, all_sound, are_paired, are_boxes}
use Rattle.interval.specs.declared.Interval.{Interval}
use Rattle.interval.specs.declared.domain.Domain.{Domain}
use Rattle.interval.specs.Views.{intervals_of}

pub intervals_at : (lo hi : List Float) (j : ℕ) (d : Interval) → length hi ≡ length lo → j < length lo → (get_or lo j nan ‥ get_or hi j nan) ≡ get_or (intervals lo hi) j d
unfolding intervals
intervals_at [] hi j d e h = absurd (not-suc-le-zero h)
intervals_at (a ∷ lo) [] j d e h = absurd (omega arith)
intervals_at (a ∷ lo) (b ∷ hi) zero d e h = refl
intervals_at (a ∷ lo) (b ∷ hi) (suc j) d e h = intervals_at lo hi j d (omega arith) (le_of_suc-le-suc h)

pub intervals_length : (lo hi : List Float) → length hi ≡ length lo → length (intervals lo hi) ≡ length lo
unfolding intervals
intervals_length [] hi e = refl
intervals_length (a ∷ lo) [] e = absurd (omega arith)
intervals_length (a ∷ lo) (b ∷ hi) e = ap suc (intervals_length lo hi (omega arith))

-- the ends of boxes, as boxes again
pub of_ends : (is : List Interval) → intervals (lows is) (highs is) ≡ is
unfolding intervals
of_ends [] = refl
of_ends (i ∷ is) = ap (λ (r : List Interval). i ∷ r) (of_ends is)

pub lows_length : (is : List Interval) → length (lows is) ≡ length is
lows_length is = length-map is _

pub highs_length : (is : List Interval) → length (highs is) ≡ length is
highs_length is = length-map is _

-- two lists that are paired, and those that are boxes
module _ (lo hi : List Float) where
  pub ends_paired : (eqb (length lo) (length hi) && leb (length lo) 16) ≡ true → (length hi ≡ length lo) × (length lo ≤ 16)
  ends_paired e = let w = both (eqb (length lo) (length hi)) (leb (length lo) 16) e in (sym (eqb-true _ _ w.0), leb-true _ _ w.1)

  pub as_many : are_paired lo hi ≡ true → length hi ≡ length lo
  unfolding are_paired
  as_many e = (ends_paired e).0

  pub few : are_paired lo hi ≡ true → length lo ≤ 16
  unfolding are_paired
  few e = (ends_paired e).1

  pub boxes_paired : are_boxes lo hi ≡ true → are_paired lo hi ≡ true
  unfolding are_boxes
  boxes_paired e = (both (are_paired lo hi) (all_sound (intervals lo hi)) e).0

  pub boxes_all_sound : are_boxes lo hi ≡ true → all_sound (intervals lo hi) ≡ true
  unfolding are_boxes
  boxes_all_sound e = (both (are_paired lo hi) (all_sound (intervals lo hi)) e).1

pub starting_length : (n : ℕ) (bounds : List Interval) → length (starting n bounds) ≡ n
unfolding starting
starting_length zero bounds = refl
starting_length (suc n) [] = ap suc (starting_length n [])
starting_length (suc n) (b ∷ bounds) = ap suc (starting_length n bounds)

-- as many as there are bounds
pub starting_all : (bounds : List Interval) → starting (length bounds) bounds ≡ bounds
unfolding starting
starting_all [] = refl
starting_all (b ∷ bounds) = ap (λ (r : List Interval). b ∷ r) (starting_all bounds)

-- ---- boxes by value
pub boxes_at : (d : Domain) (j : ℕ) → j < d.count.n → get_or d.boxes j missing ≡ get_or (intervals_of d) j missing
boxes_at d j l = sym (get_or-take d.count.n d.boxes j missing l)

-- ---- the midpoints
pub midpoints_length : (b : List Interval) → length (midpoints b) ≡ length b
unfolding midpoints
midpoints_length b = length-map b midpoint

pub midpoints_set : (b : List Interval) (w : ℕ) (v : Interval) → midpoints (set b w v) ≡ set (midpoints b) w (midpoint v)
unfolding midpoints
midpoints_set [] w v = refl
midpoints_set (i ∷ is) zero v = refl
midpoints_set (i ∷ is) (suc w) v = ap (λ (l : List Float). midpoint i ∷ l) (midpoints_set is w v)

-- ---- the values of a padded point
pub padded_take : (m : List Float) (n : ℕ) → length m ≡ n → take n (padded m) ≡ m
unfolding padded
padded_take m n e = take_at m _ n e

pub padded_blank : (m : List Float) (n : ℕ) → length m ≡ n → padded m ≡ padded (take n (padded m))
padded_blank m n e = ap padded (sym (padded_take m n e))

pub padded_length : (m : List Float) → length m ≤ 16 → length (padded m) ≡ 16
unfolding padded
padded_length m h = omega (arith, length-append m (replicate (16 - length m) (whole 0)), length-replicate (16 - length m) (whole 0))

pub padded_set : (m : List Float) (i : ℕ) (x : Float) → i < length m → set (padded m) i x ≡ padded (set m i x)
unfolding padded
padded_set m i x h = rw (length-set m i x) (set-append_left m _ i x h)

pub padded_zeros : (n : ℕ) → n ≤ 16 → replicate 16 (whole 0) ≡ padded (replicate n (whole 0))
unfolding padded
padded_zeros n h =
    let e : n + (16 - n) ≡ 16 = omega arith in
    rw (length-replicate n (whole 0)) (sym (replicate-append-replicate n (16 - n) (whole 0) ∙ ap (λ (k : ℕ). replicate k (whole 0)) e))

pub padded_more : (m : List Float) (i : ℕ) (x : Float) → i < length m → length m ≤ 16 → x ≡ get_or m i nan → set (padded (take i m)) i x ≡ padded (take (i + 1) m)
unfolding padded
padded_more m i x h few e =
    let l = length-take-le i m (omega arith) in
    let k : 16 - i ≡ suc (16 - (i + 1)) = omega arith in
    rw (take_more m i nan h, ← e, length-append (take i m) (x ∷ []), l, k)
    (set_at (take i m) (whole 0) (replicate (16 - (i + 1)) (whole 0)) x i l ∙ sym (append_snoc (take i m) x (replicate (16 - (i + 1)) (whole 0))))

-- places with values in the first of them
pub padded_places : (m : List Float) → m ++ drop (length m) (replicate 16 (whole 0)) ≡ padded m
unfolding padded
padded_places m = ap (λ (r : List Float). m ++ r) (drop-replicate (length m) 16 (whole 0))

-- the places of a point: those past its n values are 0
pub zeros_blank : (n : ℕ) → n ≤ 16 → replicate 16 (whole 0) ≡ padded (take n (replicate 16 (whole 0)))
zeros_blank n h = rw (take-replicate n 16 (whole 0) h) (padded_zeros n h)

module _ (v : List Float) (n : ℕ) (few : n ≤ 16) (blank : v ≡ padded (take n v)) where
  pub places_length : length v ≡ 16
  places_length = ap length blank ∙ padded_length (take n v) (omega (arith, length-take n v))

  pub values_length : length (take n v) ≡ n
  values_length = length-take-le n v (omega (arith, places_length))

  pub set_blank : (i : ℕ) (x : Float) → i < n → set v i x ≡ padded (take n (set v i x))
  set_blank i x h =
      ap (λ (l : List Float). set l i x) blank ∙ padded_set (take n v) i x (omega (arith, values_length)) ∙ ap padded (sym (take-set-lt n v i x h))
