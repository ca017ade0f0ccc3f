-- The steps of the loops over boxes, over plain values. Assumes nothing.
use Prim.Native.Nat.{ℕ, zero, suc, ◌+◌, ◌<◌, ◌≤◌, min}
use mathlib.Core.Path.{◌≡◌, refl, sym, ap, ap₂, ◌∙◌}
use mathlib.Core.Bool.{Bool, true, ◌&&◌}
use Rattle.std.specs.Prelude.{zip}
use Rattle.std.specs.List.{list_all}
use Rattle.std.specs.Float.{binary64}
use Rattle.number.specs.Sound.{sound}
use mathlib.Core.List.{List, [], ◌∷◌, ◌++◌}
use native.Mathlib.Nat.{le_of_suc-le-suc}
use native.Mathlib.Numerals.{add-one}
use native.Mathlib.Omega.{arith}
use lib.Ieee.{Float, nan}
use lib.ListN.{length, get_or, set, take, drop, replicate, drop_of_length-le}
use lib.Seq.{drop-cons, take_all, paste, take-set-lt}
use Rattle.std.proofs.lemmas.List.{take-replicate, take_more, take_more_set, get_or-map}
use Rattle.std.proofs.lemmas.List.Edits.{paste_more}
use Rattle.interval.specs.Interval.{◌‥◌}
use Rattle.interval.specs.Boxes.{missing, starting}
use lib.Dec.{leb, eqb}
use Rattle.interval.specs.Boxes.{intervals, lows, highs}
use Rattle.interval.specs.BoxLaws.{starting_length, midpoints_length, padded_more, intervals_length, intervals_at, ends_paired, lows_length, highs_length, zeros_blank, padded_places, padded_blank, set_blank}
use Rattle.interval.specs.declared.Interval.{Interval}

-- ---- a list that is filled from another
-- the boxes of two lists of ends, the first i of which stand in l
module _ (lo hi : List Float) (paired : (eqb (length lo) (length hi) && leb (length lo) 16) ≡ true) (l : List Interval) (i : ℕ) (same : take i l ≡ take i (intervals lo hi)) where
  pub placed_more : i < length lo → length l ≡ 16 → {v : Interval} → v ≡ (get_or lo i nan ‥ get_or hi i nan) → take (i + 1) (set l i v) ≡ take (i + 1) (intervals lo hi)
  placed_more h k {v} w =
      let p = ends_paired lo hi paired in
      take_more_set l i v (omega (arith, p.1))
      ∙ ap₂ (λ (t : List Interval) (x : Interval). t ++ x ∷ []) same (w ∙ intervals_at lo hi i v p.0 h)
      ∙ sym (take_more (intervals lo hi) i v (omega (arith, intervals_length lo hi p.0)))

-- the first i of s stand in l, which was t
module _ (t s l : List Float) (i : ℕ) where
  pub pasted_more : l ≡ paste t 0 s i → i < length t → i < length s → {x : Float} → x ≡ get_or s i nan → set l i x ≡ paste t 0 s (i + 1)
  pasted_more e h k {x} w =
      let z : i ≡ 0 + i = omega arith in
      ap₂ (λ (r : List Float) (y : Float). set r i y) e w ∙ ap (λ (m : ℕ). set (paste t 0 s i) m (get_or s i nan)) z ∙ paste_more t 0 s i nan (omega arith) k

-- ---- the starting boxes
-- the first k bounds, k being as many as there are, before the missing ones
pub started : (n m k : ℕ) (bounds : List Interval) → n ≤ m → k ≡ min n (length bounds) → take n (take k bounds ++ drop k (replicate m missing)) ≡ starting n bounds
unfolding starting
started zero m k bounds h e = refl
started (suc n) zero k bounds h e = absurd (omega arith)
started (suc n) (suc m) k [] h e =
    let z : k ≡ 0 = omega arith in
    rw z (ap (λ (r : List Interval). missing ∷ r) (started n m 0 [] (le_of_suc-le-suc h) (omega arith)))
started (suc n) (suc m) zero (b ∷ bounds) h e = absurd (omega arith)
started (suc n) (suc m) (suc k) (b ∷ bounds) h e = ap (λ (r : List Interval). b ∷ r) (started n m k bounds (le_of_suc-le-suc h) (omega arith))

pub started_16 : (n k : ℕ) (bounds : List Interval) → n ≤ 16 → k ≡ min n (length bounds) → take n (take k bounds ++ drop k (replicate 16 missing)) ≡ starting n bounds
started_16 n k bounds h e = started n 16 k bounds h e

pub take_16 : {A : Type 0} (n : ℕ) (x : A) → n ≤ 16 → take n (replicate 16 x) ≡ replicate n x
take_16 n x h = take-replicate n 16 x h

-- ---- the same without a list of boxes
-- box i of the starting ones
started_at : (n i : ℕ) (bounds : List Interval) (d : Interval) → i < n → get_or (starting n bounds) i d ≡ get_or bounds i missing
unfolding starting
started_at zero i bounds d h = absurd (omega arith)
started_at (suc n) zero [] d h = refl
started_at (suc n) zero (b ∷ bounds) d h = refl
started_at (suc n) (suc i) [] d h = started_at n i [] d (omega arith)
started_at (suc n) (suc i) (b ∷ bounds) d h = started_at n i bounds d (omega arith)

module _ (n i : ℕ) (bounds : List Interval) (h : i < n) {b : Interval} (e : b ≡ get_or bounds i missing) where
  pub started_low : b.lo ≡ get_or (lows (starting n bounds)) i nan
  started_low =
      ap (λ (x : Interval). x.lo) (e ∙ sym (started_at n i bounds missing h))
      ∙ sym (get_or-map (λ (x : Interval). x.lo) (starting n bounds) i missing nan (omega (arith, starting_length n bounds)))

  pub started_high : b.hi ≡ get_or (highs (starting n bounds)) i nan
  started_high =
      ap (λ (x : Interval). x.hi) (e ∙ sym (started_at n i bounds missing h))
      ∙ sym (get_or-map (λ (x : Interval). x.hi) (starting n bounds) i missing nan (omega (arith, starting_length n bounds)))

-- beyond the ends
pub beyond : (lo hi : List Float) (i : ℕ) → length hi ≡ length lo → length lo ≤ i → missing ≡ get_or (intervals lo hi) i missing
unfolding intervals
beyond [] hi i e h = refl
beyond (l ∷ lo) [] i e h = absurd (omega arith)
beyond (l ∷ lo) (x ∷ hi) zero e h = absurd (omega arith)
beyond (l ∷ lo) (x ∷ hi) (suc i) e h = beyond lo hi i (omega arith) (omega arith)

-- each pair of ends
pub sound_ends : (lo hi : List Float) → list_all (λ (p : Float × Float). sound binary64 p.0 p.1) (zip lo hi) ≡ list_all (λ (i : Interval). sound binary64 i.lo i.hi) (intervals lo hi)
unfolding intervals
sound_ends [] hi = refl
sound_ends (l ∷ lo) [] = refl
sound_ends (l ∷ lo) (h ∷ hi) = ap (λ (t : Bool). sound binary64 l h && t) (sound_ends lo hi)

-- ---- what a loop has left of a list, and what it has made
pub ruleset shorter = (drop-cons, drop_of_length-le, add-one)

pub ruleset longer = (padded_more, get_or-map, midpoints_length)

pub ruleset zeros = (take_16, zeros_blank)

pub ruleset places = (take_16, take-set-lt, padded_places, padded_blank, set_blank)

pub ruleset placed = (take_all, intervals_length, ends_paired)

pub ruleset begun = (started_low, started_high, starting_length)

pub ruleset pasted = (pasted_more, lows_length, highs_length, get_or-map)
