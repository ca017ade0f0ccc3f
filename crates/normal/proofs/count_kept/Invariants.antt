-- What each turn of the loop keeps.
use mathlib.Core.Path.{◌≡◌}
use Prim.Native.Nat.{◌≤◌}
use Rattle.normal.specs.Given.{count_kept}
use Rattle.normal.proofs.count_kept.Given as goal

abbrev pub invariant-loop-k : goal.invariant-loop-k
invariant-loop-k l = (l.count ≤ l.k) × (l.count ≡ count_kept l.records.constraints.now l.k)
