-- Nodes (document 01, "The file"): 16 bytes each. The kind and its three zeros are read as one u32.
use Rattle.std.specs.Prelude.{ℕ, zero, suc, ◌+◌, ◌*◌, ◌≤◌, ◌<◌, ◌≡◌, Bool, false, ◌&&◌, List, [], ◌∷◌, ◌++◌, leb, ltb, eqb, length, get_or}
use Rattle.std.specs.Float.Ieee.Scale.{finite}
use Rattle.number.specs.Notation.{when◌then◌else◌}
use Rattle.record.specs.Bytes.{u32_at, f64_at}
use Rattle.record.specs.Refusal.{◌or_else◌, ◌unless◌, first}
use Rattle.tree.specs.Tree.{Tree, is_small}
use Rattle.tree.specs.declared.Node.{Node}

-- what record k says: One, Const, Var, Eml by kind, read with no test
unfoldable pub node_at : List ℕ → ℕ → Node ℕ
node_at b k =
    let at = 16 * k in
    when eqb (u32_at b at) 0 then Node.One
    else when eqb (u32_at b at) 1 then Node.Const (f64_at b (at + 8))
    else when eqb (u32_at b at) 2 then Node.Var (u32_at b (at + 4))
    else Node.Eml (u32_at b (at + 4)) (u32_at b (at + 8))

-- whether it is a node record: index 0..15, a finite constant, both children below its own number, unused bytes zero
unfoldable pub is_node : List ℕ → ℕ → Bool
is_node b k =
    let at = 16 * k in
    let kind = u32_at b at in
    let left = u32_at b (at + 4) in
    let right = u32_at b (at + 8) in
    let last = u32_at b (at + 12) in
    when eqb kind 0 then eqb left 0 && eqb right 0 && eqb last 0
    else when eqb kind 1 then eqb left 0 && finite (f64_at b (at + 8))
    else when eqb kind 2 then ltb left 16 && eqb right 0 && eqb last 0
    else when eqb kind 3 then ltb left k && ltb right k && eqb last 0
    else false

-- a node's tree, by the trees of the nodes before it
unfoldable pub tree_of : List Tree → Node ℕ → Tree
tree_of before Node.One = Tree.One
tree_of before (Node.Const v) = Tree.Const v
tree_of before (Node.Var i) = Tree.Var i
tree_of before (Node.Eml l r) = Tree.Eml (get_or before l Tree.One) (get_or before r Tree.One)

-- the trees of the first k nodes, and the tree of node k
unfoldable pub trees : List ℕ → ℕ → List Tree
trees b zero = []
trees b (suc k) = let before = trees b k in before ++ tree_of before (node_at b k) ∷ []

unfoldable pub tree_at : List ℕ → ℕ → Tree
tree_at b k = tree_of (trees b k) (node_at b k)

-- 3 node record; 4 expanded size or depth
unfoldable pub node_refusal : List ℕ → ℕ → ℕ
node_refusal b k = 3 unless is_node b k or_else 4 unless is_small (tree_at b k)

-- each of n nodes
unfoldable pub nodes_refusal : List ℕ → ℕ → ℕ
nodes_refusal b n = first (node_refusal b) n

-- a list of n nodes in len bytes
unfoldable pub nodes_fit : ℕ → ℕ → Bool
nodes_fit len n = leb n 1024 && leb (16 * n) len

-- 2 count or length; then each node
unfoldable pub list_refusal : List ℕ → ℕ → ℕ
list_refusal b n = 2 unless nodes_fit (length b) n or_else nodes_refusal b n

-- n nodes that passed the tests
pub record Valid (b : List ℕ) (n : ℕ) : Type 0 where
  pub few : n ≤ 1024
  pub there : 16 * n ≤ length b
  pub each : (k : ℕ) → k < n → node_refusal b k ≡ 0
