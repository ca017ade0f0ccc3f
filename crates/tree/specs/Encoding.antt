-- The encoding of nodes: the 16 bytes of a record (document 01, "The file").
use Rattle.std.specs.Prelude.{ℕ, List, [], ◌∷◌, ◌++◌}
use Rattle.std.specs.Float.{binary64}
use Rattle.std.specs.Float.Ieee.{to_bits}
use Rattle.record.specs.Bytes.{u32_bytes, u64_bytes}
use Rattle.tree.specs.declared.Node.{Node}

unfoldable pub node_bytes : Node ℕ → List ℕ
node_bytes Node.One = u32_bytes 0 ++ u32_bytes 0 ++ u32_bytes 0 ++ u32_bytes 0
node_bytes (Node.Const v) = u32_bytes 1 ++ u32_bytes 0 ++ u64_bytes (to_bits binary64 v)
node_bytes (Node.Var i) = u32_bytes 2 ++ u32_bytes i ++ u32_bytes 0 ++ u32_bytes 0
node_bytes (Node.Eml l r) = u32_bytes 3 ++ u32_bytes l ++ u32_bytes r ++ u32_bytes 0

unfoldable pub nodes_bytes : List (Node ℕ) → List ℕ
nodes_bytes [] = []
nodes_bytes (n ∷ ns) = node_bytes n ++ nodes_bytes ns
