-- The starred examples of document 01, "Conditions of acceptance", in its order, as one table. Assumes nothing.
use Rattle.std.specs.Prelude.{◌≡◌, refl, ℕ, ◌^◌, true, List, [], ◌∷◌, Ok, Err}
use Rattle.std.specs.Float.Ieee.{neg}
use Rattle.number.specs.Notation.{bits, whole, decimal, +∞}
use Rattle.settings.specs.Settings.{usual}
use Rattle.interval.specs.declared.Interval.{Interval}
use Rattle.interval.specs.Interval.{◌‥◌}
use Rattle.tree.specs.Tree.{Tree}
use Rattle.constraint.specs.declared.Relation.{Relation}
use Rattle.constraint.specs.declared.Relation.TheVariants.{EqZero, GtZero, GeZero, NeZero}
use Rattle.constraint.specs.Constraint.{Constraint, Atom, Not, And, Or, ForAll, end, ◌⨾◌}
use Rattle.normal.specs.NormalForm.{to_nnf}
use Rattle.point.specs.declared.eval.EvalError.TheVariants.{ComplexResult}
use Rattle.point.specs.Eval.{eval_real}
use Rattle.narrow.specs.declared.PropResult.TheVariants.{Changed, Stable, Conflict}
use Rattle.record.specs.Leaving.{◌leaving◌}
use Rattle.narrow.specs.Narrowing.{Narrowed, propagate}
use Rattle.nra.specs.declared.answer.Stop.{Stop}
use Rattle.nra.specs.Solver.{Answer, assignment, failed, Progress, Stopped, Going, begin, halve, solve}
use Rattle.nra.specs.Answers.{problem}
use Rattle.nra.specs.Computing.{computing}

-- narrowing by one constraint in one box
abbrev narrow : Constraint → Interval → Narrowed
narrow c i = propagate usual c (i ∷ [])

abbrev is : Relation → Constraint
is rel = Atom rel (Tree.Var 0)

-- Eml(Const 0, One) and Eml(Const 0, Const -1)
abbrev exp0 : Tree
exp0 = Tree.Eml (Tree.Const (whole 0)) Tree.One

abbrev ln_negative : Tree
ln_negative = Tree.Eml (Tree.Const (whole 0)) (Tree.Const (neg (whole 1)))

-- tolerance 1e-8
abbrev solved : Constraint → List Interval → ℕ → Answer
solved c bounds n = solve usual (problem c (decimal 1 (10 ^ 8))) bounds n

abbrev never : Constraint
never = ForAll 0 (whole 0) (whole 1) (Atom EqZero Tree.One)

abbrev eight : List Interval
eight = (whole 0 ‥ whole 8) ∷ []

-- the boxes after one halving
abbrev after_one : Progress → Progress
after_one (Stopped a) = Stopped a
after_one (Going s) = halve usual (problem never (decimal 1 (10 ^ 8))) s

pub record Starred : Type 0 where
  -- GtZero [-3,-1] Conflict; [0,0] Conflict; GeZero [0,0] Stable
  pub gt_negative : narrow (is GtZero) (neg (whole 3) ‥ neg (whole 1)) ≡ Conflict leaving (neg (whole 3) ‥ neg (whole 1)) ∷ []
  pub gt_zero : narrow (is GtZero) (whole 0 ‥ whole 0) ≡ Conflict leaving (whole 0 ‥ whole 0) ∷ []
  pub ge_zero : narrow (is GeZero) (whole 0 ‥ whole 0) ≡ Stable leaving (whole 0 ‥ whole 0) ∷ []
  -- EqZero [-1,2]: Changed, [0,0]; And of it with GtZero: Conflict, box [0,0]
  pub eq_narrows : narrow (is EqZero) (neg (whole 1) ‥ whole 2) ≡ Changed leaving (whole 0 ‥ whole 0) ∷ []
  pub and_narrows : narrow (And (is EqZero ⨾ is GtZero ⨾ end)) (neg (whole 1) ‥ whole 2) ≡ Conflict leaving (whole 0 ‥ whole 0) ∷ []
  -- Or of those two, [-1,2]: Changed, [0,2]
  pub or_narrows : narrow (Or (is EqZero ⨾ is GtZero ⨾ end)) (neg (whole 1) ‥ whole 2) ≡ Changed leaving (whole 0 ‥ whole 2) ∷ []
  -- NeZero [0,1]: Changed, lo has bits 1; [0,1e-13]: Conflict
  pub ne_nudges : narrow (is NeZero) (whole 0 ‥ whole 1) ≡ Changed leaving (bits 1 ‥ whole 1) ∷ []
  pub ne_conflict : narrow (is NeZero) (whole 0 ‥ decimal 1 (10 ^ 13)) ≡ Conflict leaving (whole 0 ‥ decimal 1 (10 ^ 13)) ∷ []
  -- empty And Stable, empty Or Conflict
  pub and_empty : narrow (And end) (whole 0 ‥ whole 1) ≡ Stable leaving (whole 0 ‥ whole 1) ∷ []
  pub or_empty : narrow (Or end) (whole 0 ‥ whole 1) ≡ Conflict leaving (whole 0 ‥ whole 1) ∷ []
  -- Eml(Const 0, One) is 1; Eml(Const 0, Const -1) is ComplexResult of 400921FB54442D18; Not of EqZero of the latter: solved, exact; its normal form:
  -- unsatisfied
  pub eml_one : eval_real usual [] exp0 ≡ Ok (whole 1)
  pub eml_complex_result : eval_real usual [] ln_negative ≡ Err (ComplexResult (bits 0x400921FB54442D18))
  pub not_solved : solved (Not (Atom EqZero ln_negative)) [] 10_000 ≡ assignment [] true 0
  pub normal_form : solved (to_nnf (Not (Atom EqZero ln_negative))) [] 10_000 ≡ failed Stop.Unsatisfied +∞ 0
  -- ForAll v0 in [0,1] EqZero(One), bounds [0,8], limit 1: 'limit', best 1, halvings 1, box [4,8]
  pub forall_limit : solved never eight 1 ≡ failed Stop.Limit (whole 1) 1
  pub forall_box : after_one (begin usual (problem never (decimal 1 (10 ^ 8))) eight) ≡ Going (record { boxes = (whole 4 ‥ whole 8) ∷ []; halvings = 1 })

pub starred : Starred
unfolding computing
starred = record {
  gt_negative = refl;
  gt_zero = refl;
  ge_zero = refl;
  eq_narrows = refl;
  and_narrows = refl;
  or_narrows = refl;
  ne_nudges = refl;
  ne_conflict = refl;
  and_empty = refl;
  or_empty = refl;
  eml_one = refl;
  eml_complex_result = refl;
  not_solved = refl;
  normal_form = refl;
  forall_limit = refl;
  forall_box = refl;
}
