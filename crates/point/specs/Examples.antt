-- The edges of document 01's "Testing a point", computed.
use Rattle.std.specs.Prelude.{◌≡◌, refl, [], ◌∷◌, Err}
use Rattle.std.specs.Float.{nan}
use Rattle.number.specs.Notation.{whole, +∞}
use Rattle.settings.specs.Settings.{usual}
use Rattle.tree.specs.Tree.{Tree}
use Rattle.constraint.specs.declared.Relation.{Relation}
use Rattle.constraint.specs.Constraint.{Atom, And, Or, end}
use Rattle.point.specs.declared.eval.EvalError.TheVariants.{VarOutOfBounds, NanEncountered}
use Rattle.point.specs.Eval.{eval_real}
use Rattle.point.specs.Residual.{residual}
use Rattle.point.specs.Computing.{computing}

-- ---- the first error in postorder; a NaN in the point is met at the end

first_error : eval_real usual (nan ∷ []) (Tree.Eml (Tree.Var 5) (Tree.Eml (Tree.Var 0) (Tree.Var 6))) ≡ Err (VarOutOfBounds 5 1)
unfolding computing
first_error = refl

nan_value : eval_real usual (nan ∷ []) (Tree.Var 0) ≡ Err NanEncountered
unfolding computing
nan_value = refl

-- ---- an empty And and an empty Or; NeZero's error is 0

and_of_none : residual usual [] (And end) ≡ whole 0
unfolding computing
and_of_none = refl

or_of_none : residual usual [] (Or end) ≡ +∞
unfolding computing
or_of_none = refl

error_of_ne_zero : residual usual [] (Atom Relation.NeZero (Tree.Var 0)) ≡ whole 0
unfolding computing
error_of_ne_zero = refl
