-- Values of the definitions, computed.
use Rattle.std.specs.Prelude.{◌≡◌, refl, true, [], ◌∷◌, negsuc}
use Rattle.std.specs.Float.{nan}
use Rattle.number.specs.Notation.{whole, integer}
use Rattle.interval.specs.Interval.{◌‥◌, is_empty, midpoint, intersect, hull, nothing, ln}
use Rattle.interval.specs.Boxes.{starting}
use Rattle.interval.specs.Computing.{computing}

-- a NaN yields the other end, reversed ends are kept
intersect_nan : intersect (nan ‥ whole 3) (whole 2 ‥ nan) ≡ (whole 2 ‥ whole 3)
unfolding computing
intersect_nan = refl

disjoint : is_empty (intersect (whole 0 ‥ whole 1) (whole 2 ‥ whole 3)) ≡ true
unfolding computing
disjoint = refl

hull_of_two : hull (whole 0 ‥ whole 1) (whole 2 ‥ whole 3) ≡ (whole 0 ‥ whole 3)
unfolding computing
hull_of_two = refl

-- ln is nothing where the interval reaches zero
ln_from_zero : ln (whole 0 ‥ whole 1) ≡ nothing
unfolding computing
ln_from_zero = refl

midpoint_of : midpoint (whole 1 ‥ whole 3) ≡ whole 2
unfolding computing
midpoint_of = refl

-- a missing bound is [-10, 10], a surplus one unused
filled_up : starting 2 ((whole 1 ‥ whole 3) ∷ []) ≡ (whole 1 ‥ whole 3) ∷ (integer (negsuc 9) ‥ whole 10) ∷ []
unfolding computing
filled_up = refl

cut_off : starting 1 ((whole 1 ‥ whole 3) ∷ (whole 4 ‥ whole 5) ∷ []) ≡ (whole 1 ‥ whole 3) ∷ []
unfolding computing
cut_off = refl
