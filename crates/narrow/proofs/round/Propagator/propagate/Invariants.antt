-- What is left of the rounds, joined to what was done, is the whole.
use Rattle.constraint.specs.Views.{meaning}
use Rattle.narrow.proofs.Rounds.{Going}
use Rattle.narrow.proofs.round.Propagator.propagate.Given as goal

abbrev pub invariant-loop : goal.invariant-loop
invariant-loop l = Going l.self.settings l.self.mode (meaning l.c) l.initial.boxes l.boxes l.done l.counter
