-- What each turn of the loop keeps.
use mathlib.Core.Path.{◌≡◌}
use lib.ListN.{take}
use Rattle.interval.specs.Boxes.{midpoints, padded}
use Rattle.interval.specs.Views.{intervals_of}
use Rattle.interval.proofs.domain.Domain.midpoints.Given as goal

abbrev pub invariant-loop-i : goal.invariant-loop-i
invariant-loop-i l = l.values ≡ padded (take l.i (midpoints (intervals_of l.self)))
