-- Values of the definition, computed. Document 01's starred examples are in one table (crate `promises`).
use Rattle.std.specs.Prelude.{ℕ, ◌-◌, ◌≡◌, refl, [], ◌∷◌, negsuc, Float}
use Rattle.std.specs.Float.Ieee.{neg}
use Rattle.number.specs.Notation.{integer, whole}
use Rattle.settings.specs.Settings.{usual}
use Rattle.interval.specs.declared.Interval.{Interval}
use Rattle.interval.specs.Interval.{◌‥◌}
use Rattle.record.specs.Leaving.{◌leaving◌}
use Rattle.tree.specs.Tree.{Tree}
use Rattle.constraint.specs.declared.Relation.{Relation}
use Rattle.constraint.specs.declared.Relation.TheVariants.{EqZero, GtZero}
use Rattle.constraint.specs.Constraint.{Constraint, Atom, Not}
use Rattle.narrow.specs.declared.PropResult.TheVariants.{Changed, Conflict}
use Rattle.narrow.specs.Narrowing.{Narrowed, propagate}
use Rattle.narrow.specs.Computing.{computing}

abbrev narrowed : Constraint → Interval → Narrowed
narrowed c i = propagate usual c (i ∷ [])

-- Var 0 compared with zero
abbrev var : Relation → Constraint
var rel = Atom rel (Tree.Var 0)

abbrev minus : ℕ → Float
minus n = integer (negsuc (n - 1))

-- a Not narrows by what is inside it, as the Rust does, so that every point of [-3,-1] passes the check and the answer is Conflict
not_as_the_rust : narrowed (Not (var GtZero)) (minus 3 ‥ minus 1) ≡ (Conflict leaving (minus 3 ‥ minus 1) ∷ [])
unfolding computing
not_as_the_rust = refl

-- the greater of two zeros is +0: in [-0,1] an equation writes both ends, and lo is no longer -0
zero_of_two_signs : narrowed (var EqZero) (neg (whole 0) ‥ whole 1) ≡ (Changed leaving (whole 0 ‥ whole 0) ∷ [])
unfolding computing
zero_of_two_signs = refl
