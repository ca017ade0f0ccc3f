-- What falls at each call.
use Rattle.std.proofs.Common.{suc, ◌*◌, max}
use Rattle.narrow.proofs.backward.«+backward».Given as goal

abbrev pub decreases-backward_both : goal.decreases-backward_both
decreases-backward_both l = suc (2 * max l.left.root l.right.root)

abbrev pub decreases-backward_propagate : goal.decreases-backward_propagate
decreases-backward_propagate l = 2 * l.tree.root
