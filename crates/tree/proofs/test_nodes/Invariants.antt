-- What each turn of the loop keeps.
use Rattle.std.proofs.Common.{◌≡◌, ◌*◌, ◌≤◌, length}
use Rattle.record.specs.Refusal.{first}
use Rattle.tree.specs.Nodes.{node_refusal}
use Rattle.tree.specs.Code.{Held}
use Rattle.tree.proofs.test_nodes.Given as goal

abbrev pub invariant-loop-k : goal.invariant-loop-k
invariant-loop-k l = record {
  fits : (l.count ≤ 1024) × (16 * l.count ≤ length l.nodes);
  none : first (node_refusal l.nodes) l.k ≡ 0;
  held : Held l.nodes l.k l.extents;
}
