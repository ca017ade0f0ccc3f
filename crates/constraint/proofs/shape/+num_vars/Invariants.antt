-- The record number falls at each call, or the same record is looked at more closely.
use Prim.Native.Nat.{◌+◌, ◌*◌}
use Rattle.constraint.proofs.shape.+num_vars.Given as goal

abbrev pub decreases-EmlConstraint::num_vars : goal.decreases-EmlConstraint::num_vars
decreases-EmlConstraint::num_vars l = 2 * l.self.root + 1

abbrev pub decreases-Operands::num_vars : goal.decreases-Operands::num_vars
decreases-Operands::num_vars l = 2 * l.self.end
