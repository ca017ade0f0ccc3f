-- Document 01, "Testing a point" (`evaluate_constraint_residual` of helpers.rs): how far a point is from meeting a constraint.
use Rattle.std.specs.Prelude.{◌^◌, List, set, Float}
use Rattle.std.specs.Result.{result_unwrap_or}
use Rattle.std.specs.Float.{binary64}
use Rattle.std.specs.Float.Ieee.{neg}
use Rattle.number.specs.Notation.{when◌then◌else◌, ◌⊕◌, ◌≺◌, ◌≼◌, whole, decimal, +∞, -∞}
use Rattle.number.specs.Sign.{abs_of}
use Rattle.number.specs.MaxMin.{max_of, min_of}
use Rattle.number.specs.Halving.{mid}
use Rattle.settings.specs.declared.Settings.{Settings}
use Rattle.constraint.specs.declared.Relation.{Relation}
use Rattle.constraint.specs.Constraint.{Constraint, Constraints, Atom, Not, And, Or, ForAll, Exists, end, ◌⨾◌}
use Rattle.point.specs.Eval.{eval_real}

-- an atom's residual: NeZero's is |v|
unfoldable pub shortfall : Relation → Float → Float
shortfall Relation.EqZero v = abs_of v
shortfall Relation.GtZero v = when whole 0 ≺ v then whole 0 else neg v
shortfall Relation.GeZero v = when whole 0 ≼ v then whole 0 else neg v
shortfall Relation.LtZero v = when v ≺ whole 0 then whole 0 else abs_of v
shortfall Relation.LeZero v = when v ≼ whole 0 then whole 0 else abs_of v
shortfall Relation.NeZero v = abs_of v

-- the value that an evaluation error counts as, so that NeZero's error is 0
abbrev pub error_value : Relation → Float
error_value Relation.EqZero = +∞
error_value Relation.GtZero = -∞
error_value Relation.GeZero = -∞
error_value Relation.LtZero = +∞
error_value Relation.LeZero = +∞
error_value Relation.NeZero = whole 0

-- Not's, by the residual of what it denies
unfoldable pub residual_of_not : Float → Float
residual_of_not r = when r ≺ decimal 1 (10 ^ 12) then whole 1 else whole 0

-- three residuals in order, from x on
abbrev pub of_three : (Float → Float → Float) → Float → Float → Float → Float → Float
of_three f x a b c = f (f (f x (abs_of a)) (abs_of b)) (abs_of c)

-- And adds up from +0 in the written order, Or takes the least from +∞, and the quantifiers the greatest from 0 and the least from +∞ of
-- their three samples
unfoldable mutual
  pub residual : Settings → List Float → Constraint → Float
  residual σ p (Atom rel t) = shortfall rel (result_unwrap_or (eval_real σ p t) (error_value rel))
  residual σ p (Not c) = residual_of_not (residual σ p c)
  residual σ p (And cs) = residuals σ p ◌⊕◌ (whole 0) cs
  residual σ p (Or cs) = residuals σ p min_of +∞ cs
  residual σ p (ForAll v lo hi c) =
      of_three max_of (whole 0) (residual σ (set p v lo) c) (residual σ (set p v (mid binary64 lo hi)) c) (residual σ (set p v hi) c)
  residual σ p (Exists v lo hi c) =
      of_three min_of +∞ (residual σ (set p v lo) c) (residual σ (set p v (mid binary64 lo hi)) c) (residual σ (set p v hi) c)

  pub residuals : Settings → List Float → (Float → Float → Float) → Float → Constraints → Float
  residuals σ p f x end = x
  residuals σ p f x (c ⨾ cs) = residuals σ p f (f x (abs_of (residual σ p c))) cs
