-- One name under which a proof by computation opens every definition, those of the crates below too.
use Rattle.point.specs.Computing as Points
use Rattle.narrow.specs.Computing as Narrows
use Rattle.decide.specs.Deciding

unfoldable pub computing : Unit {0}
unfolding Points.computing Narrows.computing Deciding.point_at Deciding.forall_samples Deciding.exists_samples Deciding.boxes_at Deciding.refutes Deciding.forall_by Deciding.decide_forall Deciding.exists_by Deciding.decide_exists
computing = tt
