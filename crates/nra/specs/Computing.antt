-- One name under which a proof by computation opens every definition, those of the crates below too.
use Rattle.point.specs.Computing as Points
use Rattle.narrow.specs.Computing as Narrows
use Rattle.interval.specs.Boxes
use Rattle.tree.specs.Tree
use Rattle.constraint.specs.Constraint
use Rattle.nra.specs.Solver

unfoldable pub computing : Unit {0}
unfolding Points.computing Narrows.computing Tree.tree_vars Constraint.num_vars Boxes.midpoints Boxes.all_below Boxes.widest_from Boxes.widest
    Solver.distance Solver.begin_checked Solver.begin_narrowed Solver.begin_empty Solver.begin_in Solver.begin_at Solver.begin Solver.halved
    Solver.settle_checked Solver.settle_narrowed Solver.settle_in Solver.halve Solver.steps Solver.finish Solver.run Solver.untried Solver.solve
computing = tt
