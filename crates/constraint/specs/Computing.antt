-- One name under which a proof by computation opens every definition of this crate and of `tree`.
use Rattle.std.specs.Float.Ieee
use Rattle.tree.specs.Computing as Below
use Rattle.constraint.specs.Constraint
use Rattle.constraint.specs.Records
use Rattle.constraint.specs.Starts
use Rattle.constraint.specs.Encoding
use Rattle.constraint.specs.Comparison

unfoldable pub computing : Unit {0}
unfolding Below.computing Ieee.fits Ieee.le Constraint.map_formula Constraint.number Constraint.levels Constraint.quantifiers Constraint.num_vars
    Records.relation_of Records.record_at Records.is_record Records.gather Records.finish Records.finished Records.formula_at Records.constraint_at
    Records.record_refusal Records.records_refusal Starts.begun Starts.start_at Encoding.record_bytes Encoding.records_bytes Encoding.records_of
    Comparison.compare_refusal Comparison.compared
computing = tt
