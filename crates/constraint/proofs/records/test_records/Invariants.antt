-- What each turn of the loop keeps.
use Prim.Native.Nat.{◌≤◌}
use lib.ListN.{length, take}
use mathlib.Core.Path.{◌≡◌}
use mathlib.Core.List.{map}
use Rattle.record.specs.Refusal.{first}
use Rattle.constraint.specs.Constraint.{levels, quantifiers}
use Rattle.constraint.specs.Records.{finished, record_refusal}
use Rattle.constraint.specs.Starts.{begun, start_at, filled}
use Rattle.constraint.specs.Code.{depths, quantified}
use Rattle.constraint.proofs.records.test_records.Given as goal

abbrev pub invariant-loop-k : goal.invariant-loop-k
invariant-loop-k l = record {
  low : length l.stack ≤ l.k;
  none_yet : first (record_refusal l.count l.constraints) l.k ≡ 0;
  depths_are : depths l.stack ≡ map levels (finished l.constraints l.k);
  quantified_are : quantified l.stack ≡ map quantifiers (finished l.constraints l.k);
  room : length l.begun ≡ 256;
  firsts_are : take (length l.stack) l.begun ≡ begun l.constraints l.k;
  filled_are : l.starts ≡ filled (start_at l.constraints) l.k l.initial.starts;
}
