-- The node's number falls at each call.
use Rattle.tree.proofs.+vars_at.Given as goal

abbrev pub decreases-vars_at : goal.decreases-vars_at
decreases-vars_at l = l.k
