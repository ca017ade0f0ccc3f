-- What falls at each call, and what the loop over a quantifier's samples keeps.
use Prim.Native.Nat.{◌+◌, ◌*◌}
use mathlib.Core.Path.{◌≡◌}
use lib.ListN.{set, drop}
use Rattle.std.specs.List.{fold}
use Rattle.interval.specs.Views.{values_of}
use Rattle.constraint.specs.Views.{meaning}
use Rattle.point.specs.Measure.{quantified}
use Rattle.point.proofs.helpers.+measured.Given as goal

abbrev pub decreases-measured : goal.decreases-measured
decreases-measured g l = 2 * l.c.root + 1

abbrev pub decreases-measured_each : goal.decreases-measured_each
decreases-measured_each g l = 2 * l.cs.end

abbrev pub decreases-measured_samples : goal.decreases-measured_samples
decreases-measured_samples g l = 2 * l.c.root + 2

abbrev pub invariant-measured_samples-loop-x : goal.invariant-measured_samples-loop-x
invariant-measured_samples-loop-x g l =
    let c = meaning l.c in
    let m = g.M.Measure in
    fold (λ t x. m.sample_more l.each t (m.measure l.settings (set (values_of l.point) l.v x) c)) l.total (drop l.x-index l.x-items) ≡ m.measure l.settings (values_of l.point) (quantified l.each l.v l.lo l.hi c)
