-- Document 01, "Testing a point" (helpers.rs): the check of a point, on the constraint itself. σ are the settings.
use Rattle.std.specs.Prelude.{Bool, true, false, not, ◌&&◌, ◌||◌, List, set, Float, Result, Ok, Err}
use Rattle.std.specs.Float.{binary64}
use Rattle.std.specs.Float.Ieee.{neg}
use Rattle.number.specs.Notation.{◌≺◌, ◌≼◌, whole}
use Rattle.number.specs.Sign.{abs_of}
use Rattle.number.specs.Halving.{mid}
use Rattle.settings.specs.declared.Settings.{Settings}
use Rattle.constraint.specs.declared.Relation.{Relation}
use Rattle.constraint.specs.Constraint.{Constraint, Constraints, Atom, Not, And, Or, ForAll, Exists, end, ◌⨾◌}
use Rattle.point.specs.declared.eval.EvalError.{EvalError}
use Rattle.point.specs.Eval.{eval_real}

-- an atom's test of its tree's value
unfoldable pub holds : Settings → Relation → Float → Bool
holds σ Relation.EqZero v = abs_of v ≺ σ.equality
holds σ Relation.GtZero v = whole 0 ≺ v
holds σ Relation.GeZero v = neg σ.slack ≼ v
holds σ Relation.LtZero v = v ≺ whole 0
holds σ Relation.LeZero v = v ≼ σ.slack
holds σ Relation.NeZero v = σ.slack ≺ abs_of v

-- an evaluation that fails does not pass
abbrev pub passes : Settings → Relation → Result Float EvalError → Bool
passes σ rel (Ok v) = holds σ rel v
passes σ rel (Err e) = false

-- Quantifiers test lo, (lo+hi)/2, hi. `set p v x` is the point p with variable v at x; a variable beyond the point alters nothing in it.
unfoldable mutual
  pub check : Settings → List Float → Constraint → Bool
  check σ p (Atom rel t) = passes σ rel (eval_real σ p t)
  check σ p (Not c) = not (check σ p c)
  check σ p (And cs) = check_all σ p cs
  check σ p (Or cs) = check_any σ p cs
  check σ p (ForAll v lo hi c) = check σ (set p v lo) c && check σ (set p v (mid binary64 lo hi)) c && check σ (set p v hi) c
  check σ p (Exists v lo hi c) = check σ (set p v lo) c || check σ (set p v (mid binary64 lo hi)) c || check σ (set p v hi) c

  pub check_all : Settings → List Float → Constraints → Bool
  check_all σ p end = true
  check_all σ p (c ⨾ cs) = check σ p c && check_all σ p cs

  pub check_any : Settings → List Float → Constraints → Bool
  check_any σ p end = false
  check_any σ p (c ⨾ cs) = check σ p c || check_any σ p cs
