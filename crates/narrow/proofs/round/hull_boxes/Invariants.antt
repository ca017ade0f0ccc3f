-- Those before i are the hulls.
use Rattle.std.proofs.Common.{◌≡◌, length, take}
use Rattle.narrow.specs.Narrowing.{hulls}
use Rattle.narrow.proofs.round.hull_boxes.Given as goal

abbrev pub invariant-loop-i : goal.invariant-loop-i
invariant-loop-i l = record { room : length l.boxes ≡ 16; done : take l.i l.boxes ≡ take l.i (hulls l.left l.right) }
