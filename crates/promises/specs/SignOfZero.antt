-- Document 02 [3], the sign of zero, of `max_of` and `min_of`: the contracts of `eml_max` and `eml_min` say that the calls return these, and intersection,
-- hull, narrowing and residual are defined by them. Assumes nothing.
use Rattle.std.specs.Prelude.{◌≡◌, Bool, true, false, not, T, ◌⊎◌, pos, refl, Float}
use Rattle.std.proofs.Common.{sym, ◌∙◌, ⊎_elim}
use Rattle.std.proofs.Math.Dec.{not_T, T_not}
use Rattle.std.specs.Float.{nan, inf, fin, Format}
use Rattle.std.specs.Float.Ieee.{fits}
use Rattle.number.specs.Order.{number, le_left, le_right}
use Rattle.number.specs.MaxMin.{less, greater, max_of, min_of, less→le, less_total, at_most, at_least, max_greatest, min_least, takes_first, takes_second}
use Rattle.number.specs.Computing.{computing}

-- "IEEE 754-2019 clause 9.6 orders -0 below +0 in maximumNumber and minimumNumber." And not the other way round.
pub below : T (less (fin true 0 (pos 0)) (fin false 0 (pos 0))) × T (not (less (fin false 0 (pos 0)) (fin true 0 (pos 0))))
unfolding computing
below = (tt, tt)

-- The clause. `prefers` is the operation's own test, greater for maximumNumber and less for minimumNumber, both with -0 below +0: x if it is preferred to
-- y, y if it is preferred to x, the number if the other is a NaN, a NaN if both are; and where neither is preferred either of them, which are the same.
pub record Clause (prefers : Float → Float → Bool) (op : Float → Float → Float) : Type 0 where
  pub first : (x y : Float) → T (prefers x y) → op x y ≡ x
  pub second : (x y : Float) → T (prefers y x) → op x y ≡ y
  -- "A NaN still yields the other operand."
  pub nan_second : (x : Float) → op x nan ≡ x
  pub nan_first : (y : Float) → op nan y ≡ y
  pub neither : (f : Format) (x y : Float) → T (fits f x) → T (fits f y) → T (number x) → T (number y) → T (not (prefers x y)) → T (not (prefers y x)) → (op x y ≡ x) × (op x y ≡ y)

-- one of two that are the same is both
both : (z x y : Float) → (z ≡ x) ⊎ (z ≡ y) → x ≡ y → (z ≡ x) × (z ≡ y)
both z x y o e = ⊎_elim (λ p. (p, p ∙ e)) (λ q. (q ∙ sym e, q)) o

-- "Our other engraving tools follow the clause, so this solver should too."
pub maximum_number : Clause greater max_of
unfolding computing
maximum_number = record { first = first; second = second; nan_second = nan_second; nan_first = nan_first; neither = neither }
  where
    first : (x y : Float) → T (greater x y) → max_of x y ≡ x
    first x y l = takes_first at_most max_of max_greatest x y (le_right y x (less→le y x l)) (not_T (not (less y x)) (λ n. T_not (less y x) n l))

    second : (x y : Float) → T (greater y x) → max_of x y ≡ y
    second x y l = takes_second at_most max_of max_greatest x y (le_right x y (less→le x y l)) (not_T (not (less x y)) (λ n. T_not (less x y) n l))

    nan_second : (x : Float) → max_of x nan ≡ x
    nan_second nan = refl
    nan_second (inf s) = refl
    nan_second (fin s m e) = refl

    nan_first : (y : Float) → max_of nan y ≡ y
    nan_first y = refl

    neither : (f : Format) (x y : Float) → T (fits f x) → T (fits f y) → T (number x) → T (number y) → T (not (greater x y)) → T (not (greater y x)) → (max_of x y ≡ x) × (max_of x y ≡ y)
    neither f x y h k p q n m = both (max_of x y) x y (max_greatest.one_of x y) (less_total f x y h k p q m n)

pub minimum_number : Clause less min_of
unfolding computing
minimum_number = record { first = first; second = second; nan_second = nan_second; nan_first = nan_first; neither = neither }
  where
    first : (x y : Float) → T (less x y) → min_of x y ≡ x
    first x y l = takes_first at_least min_of min_least x y (le_left x y (less→le x y l)) (not_T (not (less x y)) (λ n. T_not (less x y) n l))

    second : (x y : Float) → T (less y x) → min_of x y ≡ y
    second x y l = takes_second at_least min_of min_least x y (le_left y x (less→le y x l)) (not_T (not (less y x)) (λ n. T_not (less y x) n l))

    nan_second : (x : Float) → min_of x nan ≡ x
    nan_second nan = refl
    nan_second (inf s) = refl
    nan_second (fin s m e) = refl

    nan_first : (y : Float) → min_of nan y ≡ y
    nan_first y = refl

    neither : (f : Format) (x y : Float) → T (fits f x) → T (fits f y) → T (number x) → T (number y) → T (not (less x y)) → T (not (less y x)) → (min_of x y ≡ x) × (min_of x y ≡ y)
    neither f x y h k p q n m = both (min_of x y) x y (min_least.one_of x y) (less_total f x y h k p q n m)
