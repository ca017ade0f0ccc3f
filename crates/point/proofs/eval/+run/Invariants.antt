-- What falls at each call.
use Prim.Native.Nat.{◌+◌, ◌*◌, max}
use Rattle.point.proofs.eval.+run.Given as goal

abbrev pub decreases-run : goal.decreases-run
decreases-run l = 2 * l.tree.root + 1

abbrev pub decreases-run_eml : goal.decreases-run_eml
decreases-run_eml l = 2 * max l.left.root l.right.root + 2
