-- What each turn of the loop keeps.
use mathlib.Core.Path.{◌≡◌}
use lib.ListN.{length, take}
use Rattle.record.specs.Refusal.{first}
use Rattle.file.specs.File.{bounds, bound_refusal}
use Rattle.file.proofs.read_bounds.Given as goal

abbrev pub invariant-loop-i : goal.invariant-loop-i
invariant-loop-i l = record {
  room : length l.boxes ≡ 16;
  passed : first (bound_refusal l.bytes) l.i ≡ 0;
  read : take l.i l.boxes ≡ bounds l.bytes l.i;
}
