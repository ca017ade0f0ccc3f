-- What each turn of the loop keeps.
use Prim.Native.Nat.{◌-◌}
use mathlib.Core.Path.{◌≡◌}
use Rattle.nra.specs.Answers.{asked, state_of}
use Rattle.nra.specs.Solver.{Going, steps}
use Rattle.nra.proofs.halving.Task.run_to.Given as goal

abbrev pub invariant-loop : goal.invariant-loop
invariant-loop l = record {
  counted : l.state.halvings ≡ l.counter;
  left : steps l.self.settings (asked l.self) (l.self.limit - l.counter) (Going (state_of l.state)) ≡ steps l.self.settings (asked l.self) (l.self.limit - l.fn.state.halvings) (Going (state_of l.fn.state));
}
