-- Trees (tree.rs), their expanded size and depth, and the number of their variables.
use Rattle.std.specs.Prelude.{ℕ, suc, ◌+◌, max, Bool, ◌&&◌, leb, Float}

pub data Tree : Type 0 where
  One : Tree
  Const : Float → Tree
  Var : ℕ → Tree
  Eml : Tree → Tree → Tree

unfoldable pub size : Tree → ℕ
size One = 1
size (Const v) = 1
size (Var i) = 1
size (Eml l r) = 1 + size l + size r

unfoldable pub depth : Tree → ℕ
depth One = 1
depth (Const v) = 1
depth (Var i) = 1
depth (Eml l r) = 1 + max (depth l) (depth r)

unfoldable pub is_small : Tree → Bool
is_small t = leb (size t) 4096 && leb (depth t) 128

-- one more than the highest index, and 0 where there is none
unfoldable pub tree_vars : Tree → ℕ
tree_vars One = 0
tree_vars (Const v) = 0
tree_vars (Var i) = suc i
tree_vars (Eml l r) = max (tree_vars l) (tree_vars r)
