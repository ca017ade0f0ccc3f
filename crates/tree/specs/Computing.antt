-- One name under which a proof by computation opens every definition of this crate. Proofs by reasoning open one definition at a time.
use Rattle.std.specs.Float.Ieee
use Rattle.number.specs.Notation
use Rattle.record.specs.Bytes
use Rattle.record.specs.Refusal
use Rattle.tree.specs.Tree
use Rattle.tree.specs.Nodes
use Rattle.tree.specs.Encoding
use Rattle.tree.specs.Canonical

unfoldable pub computing : Unit {0}
unfolding Notation.when◌then◌else◌ Ieee.of_bits Ieee.to_bits Bytes.u32_at Bytes.u64_at Bytes.f64_at Bytes.u32_bytes Bytes.u64_bytes Refusal.first
    Tree.size Tree.depth Tree.is_small Tree.tree_vars Nodes.node_at Nodes.is_node Nodes.tree_of Nodes.trees Nodes.tree_at Nodes.node_refusal
    Nodes.nodes_refusal Nodes.nodes_fit Nodes.list_refusal Encoding.node_bytes Encoding.nodes_bytes Canonical.append_refusal Canonical.ln_refusal
    Canonical.sub_refusal Canonical.ln Canonical.sub
computing = tt
