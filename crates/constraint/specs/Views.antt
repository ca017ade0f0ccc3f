-- What records that passed mean.
use Rattle.std.specs.Prelude.{ℕ, ◌-◌, ◌≤◌, ◌<◌, List, length}
use Rattle.tree.specs.Views.{the_tree}
use Rattle.constraint.specs.Constraint.{Constraint, Constraints, Atom, Not, And, Or, ForAll, Exists}
use Rattle.constraint.specs.Records.{record_at, finished, constraint_at, gather}
use Rattle.constraint.specs.Starts.{up_to}
use Rattle.constraint.specs.declared.Record.{Record}
use Rattle.constraint.specs.declared.records.Records.{Records}
use Rattle.constraint.specs.declared.shape.EmlConstraint.{EmlConstraint}
use Rattle.constraint.specs.declared.shape.Operands.{Operands}
use Rattle.constraint.specs.declared.shape.Shape.{Shape}

-- what record k says
abbrev pub record_of : Records → ℕ → Record
record_of r k = record_at r.constraints.now k

-- the constraint that record k finishes
abbrev pub constraint_of : Records → ℕ → Constraint
constraint_of r k = constraint_at r.nodes.now r.constraints.now k

-- the one that is left
abbrev pub the_constraint : Records → Constraint
the_constraint r = constraint_of r (r.count - 1)

-- the last m that are finished before record n, oldest first
abbrev pub constraints_before : Records → ℕ → ℕ → Constraints
constraints_before r m n = gather (up_to r.nodes.now r.constraints.now m n)

-- they are there
pub record Taken (r : Records) (m n : ℕ) : Type 0 where
  pub within : n ≤ r.count
  pub enough : m ≤ length (finished r.constraints.now n)

-- a constraint that is given as a value
abbrev pub meaning : EmlConstraint → Constraint
meaning c = constraint_of c.records.now c.root

abbrev pub meanings : Operands → List Constraint
meanings o = up_to o.records.now.nodes.now o.records.now.constraints.now o.count o.end

-- and what it is made of
abbrev pub shape_meaning : Shape → Constraint
shape_meaning (Shape.Atom rel t) = Atom rel (the_tree t)
shape_meaning (Shape.Not c) = Not (meaning c)
shape_meaning (Shape.And o) = And (gather (meanings o))
shape_meaning (Shape.Or o) = Or (gather (meanings o))
shape_meaning (Shape.ForAll v lo hi c) = ForAll v lo hi (meaning c)
shape_meaning (Shape.Exists v lo hi c) = Exists v lo hi (meaning c)

-- records before record k
abbrev pub Below : ℕ → Shape → Type 0
Below k (Shape.Atom rel t) = Unit {0}
Below k (Shape.Not c) = c.root < k
Below k (Shape.And o) = o.end ≤ k
Below k (Shape.Or o) = o.end ≤ k
Below k (Shape.ForAll v lo hi c) = (v < 16) × (c.root < k)
Below k (Shape.Exists v lo hi c) = (v < 16) × (c.root < k)
