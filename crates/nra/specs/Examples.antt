-- Values that the checker computes from the definitions: document 01's example of limits 0 and 1, and the printing program's. Assumes nothing.
use Rattle.std.specs.Prelude.{◌≡◌, refl, ℕ, ◌^◌, true, false, [], ◌∷◌}
use Rattle.number.specs.Notation.{whole, decimal}
use Rattle.settings.specs.Settings.{usual}
use Rattle.interval.specs.declared.Interval.{Interval}
use Rattle.interval.specs.Interval.{◌‥◌}
use Rattle.tree.specs.Tree.{Tree}
use Rattle.constraint.specs.declared.Relation.TheVariants.{GtZero}
use Rattle.constraint.specs.Constraint.{Atom}
use Rattle.nra.specs.Solver.{Answer, assignment, solve}
use Rattle.nra.specs.Answers.{problem}
use Rattle.nra.specs.Computing.{computing}

-- GtZero of variable 0, tolerance 1e-8
abbrev positive : Interval → ℕ → Answer
positive i limit = solve usual (problem (Atom GtZero (Tree.Var 0)) (decimal 1 (10 ^ 8))) (i ∷ []) limit

-- [2,2]: limit 0 exact 0, limit 1 exact 1
exact_0 : positive (whole 2 ‥ whole 2) 0 ≡ assignment (whole 2 ∷ []) false 0
unfolding computing
exact_0 = refl

exact_1 : positive (whole 2 ‥ whole 2) 1 ≡ assignment (whole 2 ∷ []) true 0
unfolding computing
exact_1 = refl

printed : positive (whole 1 ‥ whole 3) 10_000 ≡ assignment (whole 2 ∷ []) false 0
unfolding computing
printed = refl
