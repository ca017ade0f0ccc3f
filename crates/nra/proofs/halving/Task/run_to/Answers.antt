-- `nra::halving::Task::run_to` meets its contract. Assumes nothing.
use native.Mathlib.Omega.{arith}
use Rattle.nra.proofs.Steps.{halve_counts, runs_on}
use Rattle.nra.proofs.halving.Task.run_to.Goals as goal

pub loop-preserved : goal.loop-preserved
loop-preserved c = record {
  counted = grind (arith, halve_counts);
  left = runs_on _ _ _ _ _ c.loop.invariant.left c.loop-test.true c.in_ok-state.ensures;
}
