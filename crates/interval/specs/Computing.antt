-- One name under which a proof by computation opens every definition, those of `number` and `maths` too.
use Rattle.maths.specs.Computing as Below
use Rattle.interval.specs.Interval
use Rattle.interval.specs.Boxes

unfoldable pub computing : Unit {0}
unfolding Below.computing Interval.is_empty Interval.width Interval.midpoint Interval.contains Interval.split Interval.intersect Interval.hull
    Interval.exp Interval.has_ln Interval.ln Interval.plus Interval.minus Interval.moves Boxes.missing Boxes.starting Boxes.any_empty
    Boxes.intervals Boxes.all_sound Boxes.are_paired Boxes.are_boxes
computing = tt
