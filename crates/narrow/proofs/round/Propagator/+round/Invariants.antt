-- What falls at each call.
use Rattle.std.proofs.Common.{◌+◌, ◌*◌}
use Rattle.narrow.proofs.round.Propagator.«+round».Given as goal

abbrev pub decreases-propagate_once : goal.decreases-propagate_once
decreases-propagate_once l = 4 * l.c.root + 2

abbrev pub decreases-narrow_any : goal.decreases-narrow_any
decreases-narrow_any l = 4 * l.cs.end + 1

abbrev pub decreases-narrow_all : goal.decreases-narrow_all
decreases-narrow_all l = 4 * l.cs.end

abbrev pub decreases-survivors_of : goal.decreases-survivors_of
decreases-survivors_of l = 4 * l.cs.end

abbrev pub decreases-narrow_branch : goal.decreases-narrow_branch
decreases-narrow_branch l = 4 * l.c.root + 3
