-- What each turn of the loop keeps.
use mathlib.Core.Path.{◌≡◌}
use lib.ListN.{length, take}
use Rattle.interval.specs.Boxes.{intervals}
use Rattle.interval.proofs.domain.Domain.of_ends.Given as goal

abbrev pub invariant-loop-i : goal.invariant-loop-i
invariant-loop-i l = (length l.boxes ≡ 16) × (take l.i l.boxes ≡ take l.i (intervals l.lo l.hi))
