-- Decisions, computed from the definitions. Assumes nothing.
use Rattle.std.specs.Prelude.{◌≡◌, refl, false, [], ◌∷◌, Float}
use Rattle.std.specs.Float.Ieee.{neg}
use Rattle.number.specs.Notation.{whole}
use Rattle.settings.specs.Settings.{usual}
use Rattle.tree.specs.Tree.{Tree}
use Rattle.constraint.specs.declared.Relation.{Relation}
use Rattle.constraint.specs.declared.Relation.TheVariants.{GtZero, NeZero}
use Rattle.constraint.specs.Constraint.{Constraint, Atom}
use Rattle.point.specs.Check.{check}
use Rattle.decide.specs.Deciding.{QuantResult, True, TrueWithWitness, FalseWithCounterexample, Unknown, decide_forall, decide_exists}
use Rattle.decide.specs.Computing.{computing}

abbrev is : Relation → Constraint
is rel = Atom rel (Tree.Var 0)

-- ---- decisions about variable 0 of one
abbrev for_all : Constraint → Float → Float → QuantResult
for_all c lo hi = decide_forall usual 0 lo hi c 1

abbrev exists : Constraint → Float → Float → QuantResult
exists c lo hi = decide_exists usual 0 lo hi c 1

positive : for_all (is GtZero) (whole 1) (whole 3) ≡ True
unfolding computing
positive = refl

not_positive : for_all (is GtZero) (neg (whole 1)) (whole 3) ≡ FalseWithCounterexample (neg (whole 1) ∷ [])
unfolding computing
not_positive = refl

-- zero lies in the range, and no sample is zero
not_seen : for_all (is NeZero) (neg (whole 1)) (whole 2) ≡ Unknown
unfolding computing
not_seen = refl

witness : exists (is GtZero) (whole 1) (whole 3) ≡ TrueWithWitness (whole 2 ∷ [])
unfolding computing
witness = refl

no_witness : exists (is GtZero) (neg (whole 3)) (neg (whole 1)) ≡ Unknown
unfolding computing
no_witness = refl

-- a variable beyond the point alters nothing in it
beyond : decide_forall usual 1 (whole 1) (whole 3) (is GtZero) 1 ≡ FalseWithCounterexample (whole 0 ∷ [])
unfolding computing
beyond = refl

-- True is no more than a conflict: GtZero(Eml(Var 0, Const 5)) in [-3,3] is True, although it fails at -3. Narrowing does not round its ends outward,
-- and exp(ln 5) is not 5, so the constant is met by an empty interval.
abbrev above : Constraint
above = Atom GtZero (Tree.Eml (Tree.Var 0) (Tree.Const (whole 5)))

true_though : for_all above (neg (whole 3)) (whole 3) ≡ True
unfolding computing
true_though = refl

it_fails : check usual (neg (whole 3) ∷ []) above ≡ false
unfolding computing
it_fails = refl
