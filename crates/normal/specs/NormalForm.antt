-- The normal form (document 01, "Narrowing"; constraint.rs): `to_nnf` and `negate` push Not down to the atoms, whatever these hold.
use Rattle.constraint.specs.declared.Relation.{Relation}
use Rattle.constraint.specs.declared.Relation.TheVariants.{EqZero, GtZero, GeZero, LtZero, LeZero, NeZero}
use Rattle.constraint.specs.Constraint.{Formula, Formulas, Atom, Not, And, Or, ForAll, Exists, end, ◌⨾◌}

-- EqZero/NeZero, GtZero/LeZero, GeZero/LtZero exchange
abbrev pub opposite_of : Relation → Relation
opposite_of EqZero = NeZero
opposite_of GtZero = LeZero
opposite_of GeZero = LtZero
opposite_of LtZero = GeZero
opposite_of LeZero = GtZero
opposite_of NeZero = EqZero

-- and so do And/Or, ForAll/Exists
unfoldable mutual
  pub to_nnf : {A : Type 0} → Formula A → Formula A
  to_nnf (Atom rel x) = Atom rel x
  to_nnf (Not c) = negate c
  to_nnf (And cs) = And (to_nnf_all cs)
  to_nnf (Or cs) = Or (to_nnf_all cs)
  to_nnf (ForAll v lo hi c) = ForAll v lo hi (to_nnf c)
  to_nnf (Exists v lo hi c) = Exists v lo hi (to_nnf c)

  pub negate : {A : Type 0} → Formula A → Formula A
  negate (Atom rel x) = Atom (opposite_of rel) x
  negate (Not c) = to_nnf c
  negate (And cs) = Or (negate_all cs)
  negate (Or cs) = And (negate_all cs)
  negate (ForAll v lo hi c) = Exists v lo hi (negate c)
  negate (Exists v lo hi c) = ForAll v lo hi (negate c)

  pub to_nnf_all : {A : Type 0} → Formulas A → Formulas A
  to_nnf_all end = end
  to_nnf_all (c ⨾ cs) = to_nnf c ⨾ to_nnf_all cs

  pub negate_all : {A : Type 0} → Formulas A → Formulas A
  negate_all end = end
  negate_all (c ⨾ cs) = negate c ⨾ negate_all cs
