-- What each turn of the loop keeps.
use Prim.Native.Nat.{◌<◌}
use mathlib.Core.Path.{◌≡◌}
use lib.ListN.{length, drop}
use Rattle.interval.specs.Boxes.{widest_from, widest}
use Rattle.interval.proofs.domain.Domain.widest.Given as goal

abbrev pub invariant-loop-i : goal.invariant-loop-i
invariant-loop-i l = (l.at < length l.boxes) × (widest_from l.at l.most l.i (drop l.i l.boxes) ≡ widest l.boxes)
