-- What falls at each call.
use Prim.Native.Nat.{◌+◌, ◌*◌}
use Rattle.normal.proofs.+negate_negate_all_to_nnf_to_nnf_all.Given as goal

abbrev pub decreases-negate : goal.decreases-negate
decreases-negate l = 2 * l.k + 1

abbrev pub decreases-negate_all : goal.decreases-negate_all
decreases-negate_all l = 2 * l.n

abbrev pub decreases-to_nnf : goal.decreases-to_nnf
decreases-to_nnf l = 2 * l.k + 1

abbrev pub decreases-to_nnf_all : goal.decreases-to_nnf_all
decreases-to_nnf_all l = 2 * l.n
