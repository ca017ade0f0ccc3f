-- `narrow::round::adopt` meets its contract. Assumes nothing.
use Rattle.std.proofs.Common.{arith, rules}
use Rattle.narrow.proofs.Branches.{adopt_next}
use Rattle.narrow.proofs.round.adopt.Goals as goal

pub loop-i-preserved : goal.loop-i-preserved
loop-i-preserved c =
    adopt_next _ _ _ _ _ _ c.loop-i.invariant _ (omega (arith, c.loop-i.auto)) (omega arith) c.tighten.ensures (search rules)
