-- What each turn of the loop keeps.
use mathlib.Core.Path.{◌≡◌}
use lib.Seq.{paste}
use Rattle.interval.specs.Boxes.{starting, intervals, lows, highs}
use Rattle.interval.proofs.ends.write_starting.Given as goal

abbrev pub invariant-loop-i : goal.invariant-loop-i
invariant-loop-i l =
    (l.out_lo ≡ paste l.initial.out_lo 0 (lows (starting l.n (intervals l.lo l.hi))) l.i)
    × (l.out_hi ≡ paste l.initial.out_hi 0 (highs (starting l.n (intervals l.lo l.hi))) l.i)
