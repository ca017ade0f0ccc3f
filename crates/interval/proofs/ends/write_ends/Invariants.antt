-- What each turn of the loop keeps.
use mathlib.Core.Path.{◌≡◌}
use lib.Seq.{paste}
use Rattle.interval.specs.Boxes.{lows, highs}
use Rattle.interval.proofs.ends.write_ends.Given as goal

abbrev pub invariant-loop-i : goal.invariant-loop-i
invariant-loop-i l = (l.lo ≡ paste l.initial.lo 0 (lows l.boxes) l.i) × (l.hi ≡ paste l.initial.hi 0 (highs l.boxes) l.i)
