-- What is left of the hull, joined to what was done, is the whole.
use Rattle.narrow.proofs.Branches.{Adopting}
use Rattle.narrow.proofs.round.adopt.Given as goal

abbrev pub invariant-loop-i : goal.invariant-loop-i
invariant-loop-i l = Adopting l.settings l.hull l.initial.boxes l.boxes l.result l.i
