-- What a tree of a list stands for.
use Rattle.std.specs.Prelude.{ℕ, ◌<◌}
use Rattle.tree.specs.Tree.{Tree}
use Rattle.tree.specs.Nodes.{tree_at}
use Rattle.tree.specs.declared.Node.{Node}
use Rattle.tree.specs.declared.EmlTree.{EmlTree}

abbrev pub the_tree : EmlTree → Tree
the_tree t = tree_at t.nodes.now t.root

-- and what its root does, by the children's trees
abbrev pub node_tree : Node EmlTree → Tree
node_tree Node.One = Tree.One
node_tree (Node.Const v) = Tree.Const v
node_tree (Node.Var i) = Tree.Var i
node_tree (Node.Eml l r) = Tree.Eml (the_tree l) (the_tree r)

-- of root k: an index is below 16, and the children's roots come before it
abbrev pub Bounded : ℕ → Node EmlTree → Type 0
Bounded k Node.One = Unit {0}
Bounded k (Node.Const v) = Unit {0}
Bounded k (Node.Var i) = i < 16
Bounded k (Node.Eml l r) = (l.root < k) × (r.root < k)
