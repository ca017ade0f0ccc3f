-- Document 02 [9]: "A stretch found only because exp was clamped looks right and prints wrong." The problem of examples/clamped.emlq with the flag off and with
-- it set, and the clamp's edges, computed. Assumes nothing.
use Rattle.std.specs.Prelude.{◌≡◌, refl, ◌^◌, true, false, Float, List, [], ◌∷◌, Err}
use Rattle.std.specs.Float.{nan, binary64}
use Rattle.std.specs.Float.Ieee.{neg}
use Rattle.number.specs.Notation.{whole, decimal, -∞}
use Rattle.number.specs.Halving.{mid}
use Rattle.number.specs.Next.{next_up, next_down}
use Rattle.settings.specs.declared.Settings.{Settings}
use Rattle.settings.specs.Settings.{usual}
use Rattle.interval.specs.declared.Interval.{Interval}
use Rattle.interval.specs.Interval.{◌‥◌}
use Rattle.tree.specs.Tree.{Tree}
use Rattle.constraint.specs.declared.Relation.TheVariants.{GtZero}
use Rattle.constraint.specs.Constraint.{Atom}
use Rattle.point.specs.declared.eval.EvalError.TheVariants.{VarOutOfBounds, NanEncountered, ExpOverflow}
use Rattle.point.specs.Eval.{eval_real}
use Rattle.nra.specs.Solver.{Answer, assignment, solve}
use Rattle.nra.specs.Answers.{problem}
use Rattle.nra.specs.Computing.{computing}
use Rattle.promises.specs.Strict.{flagged}

-- a bar's width, exp(v0) - ln(exp(v1)), is above zero
abbrev bar : Tree
bar = Tree.Eml (Tree.Var 0) (Tree.Eml (Tree.Var 1) Tree.One)

abbrev bounds : List Interval
bounds = (decimal 65 10 ‥ decimal 663 100) ∷ (whole 600 ‥ whole 1000) ∷ []

abbrev strict : Settings
strict = flagged true usual

abbrev solved : Settings → Answer
solved σ = solve σ (problem (Atom GtZero bar) (decimal 1 (10 ^ 8))) bounds 10_000

-- an Eml of a constant and One
abbrev exp_of_const : Float → Tree
exp_of_const x = Tree.Eml (Tree.Const x) Tree.One

pub record Clamped : Type 0 where
  -- the stretch with the flag off, where exp(800) is exp(709); and with it set, where that is an error, and the lower half of v1 has a point
  pub off : solved usual ≡ assignment (mid binary64 (decimal 65 10) (decimal 663 100) ∷ whole 800 ∷ []) false 0
  pub on : solved strict ≡ assignment (mid binary64 (decimal 65 10) (decimal 663 100) ∷ whole 700 ∷ []) false 1
  pub overflow : eval_real strict (mid binary64 (decimal 65 10) (decimal 663 100) ∷ whole 800 ∷ []) bar ≡ Err (ExpOverflow (whole 800))
  -- the clamp and its negative are not beyond it, the next numbers are, and an infinity is
  pub at_clamp : eval_real strict [] (exp_of_const (whole 709)) ≡ eval_real usual [] (exp_of_const (whole 709))
  pub over : eval_real strict [] (exp_of_const (next_up binary64 (whole 709))) ≡ Err (ExpOverflow (next_up binary64 (whole 709)))
  pub at_minus : eval_real strict [] (exp_of_const (neg (whole 709))) ≡ eval_real usual [] (exp_of_const (neg (whole 709)))
  pub under : eval_real strict [] (exp_of_const (next_down binary64 (neg (whole 709)))) ≡ Err (ExpOverflow (next_down binary64 (neg (whole 709))))
  pub infinite : eval_real strict (-∞ ∷ []) (Tree.Eml (Tree.Var 0) Tree.One) ≡ Err (ExpOverflow -∞)
  -- at one node it goes before NanEncountered; an error in the right child goes before it; and a NaN on the left is not beyond the clamp
  pub before_nan : eval_real strict (nan ∷ []) (Tree.Eml (Tree.Const (whole 800)) (Tree.Var 0)) ≡ Err (ExpOverflow (whole 800))
  pub nan_when_off : eval_real usual (nan ∷ []) (Tree.Eml (Tree.Const (whole 800)) (Tree.Var 0)) ≡ Err NanEncountered
  pub right_first : eval_real strict [] (Tree.Eml (Tree.Const (whole 800)) (Tree.Var 5)) ≡ Err (VarOutOfBounds 5 0)
  pub nan_on_the_left : eval_real strict (nan ∷ []) (Tree.Eml (Tree.Var 0) Tree.One) ≡ Err NanEncountered

pub clamped : Clamped
unfolding computing
clamped = record {
  off = refl;
  on = refl;
  overflow = refl;
  at_clamp = refl;
  over = refl;
  at_minus = refl;
  under = refl;
  infinite = refl;
  before_nan = refl;
  nan_when_off = refl;
  right_first = refl;
  nan_on_the_left = refl;
}
