-- The constants of a constraint that is read from records are f64 values. Assumes nothing.
use Prim.Native.Nat.{ℕ, zero, suc}
use Rattle.std.specs.Prelude.{List, [], ◌∷◌, ◌++◌, get_or}
use Rattle.std.specs.Float.Ieee.{binary64}
use Rattle.std.specs.Float.Ieee.Bits.{of_bits-fits}
use Rattle.interval.specs.Choices.{either}
use Rattle.interval.specs.Inside.{Held}
use Rattle.tree.specs.Tree.{Tree}
use Rattle.record.specs.Bytes.{f64_at}
use Rattle.tree.specs.declared.Node.{Node}
use Rattle.tree.specs.Nodes.{node_at, tree_of, trees, tree_at}
use Rattle.constraint.specs.Records.{formula_at, constraint_at}
use Rattle.constraint.specs.Constraint.{Formula, Formulas, Constraint, Constraints, Atom, Not, And, Or, ForAll, Exists, end, ◌⨾◌, map_formula, map_formulas}

-- ---- the constants of a constraint are f64 values
abbrev pub TreeHeld : Tree → Type 0
TreeHeld Tree.One = Unit {0}
TreeHeld (Tree.Const v) = Held v
TreeHeld (Tree.Var i) = Unit {0}
TreeHeld (Tree.Eml l r) = TreeHeld l × TreeHeld r

abbrev mutual
  pub ConstraintHeld : Constraint → Type 0
  ConstraintHeld (Atom rel t) = TreeHeld t
  ConstraintHeld (Not c) = ConstraintHeld c
  ConstraintHeld (And cs) = ConstraintsHeld cs
  ConstraintHeld (Or cs) = ConstraintsHeld cs
  ConstraintHeld (ForAll v lo hi c) = ConstraintHeld c
  ConstraintHeld (Exists v lo hi c) = ConstraintHeld c

  pub ConstraintsHeld : Constraints → Type 0
  ConstraintsHeld end = Unit {0}
  ConstraintsHeld (c ⨾ cs) = ConstraintHeld c × ConstraintsHeld cs

-- ---- those that are read from records are
module _ (nodes : List ℕ) where
  abbrev NodeHeld : Node ℕ → Type 0
  NodeHeld Node.One = Unit {0}
  NodeHeld (Node.Const v) = Held v
  NodeHeld (Node.Var i) = Unit {0}
  NodeHeld (Node.Eml l r) = Unit {0}

  node_held : (k : ℕ) → NodeHeld (node_at nodes k)
  unfolding node_at f64_at
  node_held k = either NodeHeld _ _ _ tt (either NodeHeld _ _ _ (of_bits-fits binary64 _) (either NodeHeld _ _ _ tt tt))

  abbrev TreesHeld : List Tree → Type 0
  TreesHeld [] = Unit {0}
  TreesHeld (t ∷ ts) = TreeHeld t × TreesHeld ts

  one_held : (ts : List Tree) (i : ℕ) → TreesHeld ts → TreeHeld (get_or ts i Tree.One)
  one_held [] i h = tt
  one_held (t ∷ ts) zero h = h.0
  one_held (t ∷ ts) (suc i) h = one_held ts i h.1

  of_held : (ts : List Tree) (x : Node ℕ) → TreesHeld ts → NodeHeld x → TreeHeld (tree_of ts x)
  unfolding tree_of
  of_held ts Node.One h n = tt
  of_held ts (Node.Const v) h n = n
  of_held ts (Node.Var i) h n = tt
  of_held ts (Node.Eml l r) h n = (one_held ts l h, one_held ts r h)

  more_held : (ts : List Tree) (t : Tree) → TreesHeld ts → TreeHeld t → TreesHeld (ts ++ t ∷ [])
  more_held [] t h k = (k, tt)
  more_held (x ∷ ts) t h k = (h.0, more_held ts t h.1 k)

  trees_held : (k : ℕ) → TreesHeld (trees nodes k)
  unfolding trees
  trees_held zero = tt
  trees_held (suc k) = more_held (trees nodes k) _ (trees_held k) (of_held (trees nodes k) (node_at nodes k) (trees_held k) (node_held k))

  tree_held : (k : ℕ) → TreeHeld (tree_at nodes k)
  unfolding tree_at
  tree_held k = of_held (trees nodes k) (node_at nodes k) (trees_held k) (node_held k)

  mutual
    unfolding map_formula

    formula_held : (c : Formula ℕ) → ConstraintHeld (map_formula (tree_at nodes) c)
    formula_held (Atom rel i) = tree_held i
    formula_held (Not c) = formula_held c
    formula_held (And cs) = formulas_held cs
    formula_held (Or cs) = formulas_held cs
    formula_held (ForAll v lo hi c) = formula_held c
    formula_held (Exists v lo hi c) = formula_held c

    formulas_held : (cs : Formulas ℕ) → ConstraintsHeld (map_formulas (tree_at nodes) cs)
    formulas_held end = tt
    formulas_held (c ⨾ cs) = (formula_held c, formulas_held cs)

  pub constraint_held : (b : List ℕ) (k : ℕ) → ConstraintHeld (constraint_at nodes b k)
  unfolding constraint_at
  constraint_held b k = formula_held (formula_at b k)
