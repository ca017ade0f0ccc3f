-- `narrow::round::Propagator::propagate` meets its contract. Assumes nothing.
use Rattle.std.proofs.Common.{rules}
use Rattle.narrow.proofs.Rounds.{stays, changes}
use Rattle.narrow.proofs.round.Propagator.propagate.Goals as goal

pub loop-preserved : goal.loop-preserved
loop-preserved c = changes _ _ _ _ _ _ _ c.loop.invariant c.loop-test.true c.propagate_once-result.ensures (search rules) (search rules)

pub returns-then-ne : goal.returns-then-ne
returns-then-ne c = stays _ _ _ _ _ _ _ c.loop.invariant c.loop-test.true c.propagate_once-result.ensures (search rules) (search rules)
