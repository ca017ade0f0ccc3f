-- One name under which a proof by computation opens every definition of this crate and of those below it.
use Rattle.constraint.specs.Computing as Below
use Rattle.file.specs.File

unfoldable pub computing : Unit {0}
unfolding Below.computing File.nodes_of File.constraints_of File.bounds_of File.is_headed File.is_laid_out File.bound_at File.bounds File.bound_refusal File.refusal File.read_file File.is_counted File.given_refusal File.read_given
computing = tt
