-- What falls at each call.
use Prim.Native.Nat.{◌+◌, ◌*◌, max}
use Rattle.narrow.proofs.forward.«+forward».Given as goal

abbrev pub decreases-eval_interval : goal.decreases-eval_interval
decreases-eval_interval l = 2 * l.tree.root + 1

abbrev pub decreases-eval_eml : goal.decreases-eval_eml
decreases-eval_eml l = 2 * max l.left.root l.right.root + 2
