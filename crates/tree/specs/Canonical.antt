-- `Canonical::ln` and `Canonical::sub` (canonical.rs) on a list of nodes: their trees, the nodes that they append, and their refusals.
use Rattle.std.specs.Prelude.{ℕ, ◌+◌, ◌*◌, Bool, ◌&&◌, List, [], ◌∷◌, ◌++◌, ltb, length, Result, Ok, Err}
use Rattle.std.proofs.lemmas.List.Edits.{sets}
use Rattle.record.specs.Refusal.{◌or_else◌, ◌unless◌, refused_or}
use Rattle.record.specs.Leaving.{Leaving, ◌leaving◌}
use Rattle.tree.specs.Tree.{Tree, is_small}
use Rattle.tree.specs.Nodes.{nodes_fit, tree_at, list_refusal}
use Rattle.tree.specs.Encoding.{nodes_bytes}
use Rattle.tree.specs.declared.Node.{Node}

-- ---- the Rust's trees
abbrev pub ln_tree : Tree → Tree
ln_tree x = Tree.Eml Tree.One (Tree.Eml (Tree.Eml Tree.One x) Tree.One)

abbrev pub sub_tree : Tree → Tree → Tree
sub_tree x y = Tree.Eml (ln_tree x) (Tree.Eml y Tree.One)

-- ---- the nodes, from number n on: One, inner, middle, outer
abbrev pub ln_nodes : ℕ → ℕ → List (Node ℕ)
ln_nodes n x = Node.One ∷ Node.Eml n x ∷ Node.Eml (n + 1) n ∷ Node.Eml n (n + 2) ∷ []

-- One, the four of ln, exp_y, result
abbrev pub sub_nodes : ℕ → ℕ → ℕ → List (Node ℕ)
sub_nodes n x y = Node.One ∷ ln_nodes (n + 1) x ++ Node.Eml y n ∷ Node.Eml (n + 4) (n + 5) ∷ []

-- ---- the refusals, in document 01's order: the list's own tests; 3; 4; 10
unfoldable pub append_refusal : (b : List ℕ) (n : ℕ) (named : Bool) (result : Tree) (m : ℕ) → ℕ
append_refusal b n named result m =
    list_refusal b n
    or_else 3 unless named
    or_else 4 unless is_small result
    or_else 10 unless nodes_fit (length b) (n + m)

unfoldable pub ln_refusal : List ℕ → ℕ → ℕ → ℕ
ln_refusal b n x = append_refusal b n (ltb x n) (ln_tree (tree_at b x)) 4

unfoldable pub sub_refusal : List ℕ → ℕ → ℕ → ℕ → ℕ
sub_refusal b n x y = append_refusal b n (ltb x n && ltb y n) (sub_tree (tree_at b x) (tree_at b y)) 7

-- ---- the answer, and the list at exit
-- a refusal returns its number and alters nothing; else the number of the last node appended
abbrev pub append : ℕ → List ℕ → ℕ → List (Node ℕ) → ℕ → Leaving (Result ℕ ℕ) (List ℕ)
append refusal b n ns last = refused_or refusal (λ r. Err r leaving b) (Ok last leaving sets b (16 * n) (nodes_bytes ns))

unfoldable pub ln : List ℕ → ℕ → ℕ → Leaving (Result ℕ ℕ) (List ℕ)
ln b n x = append (ln_refusal b n x) b n (ln_nodes n x) (n + 3)

unfoldable pub sub : List ℕ → ℕ → ℕ → ℕ → Leaving (Result ℕ ℕ) (List ℕ)
sub b n x y = append (sub_refusal b n x y) b n (sub_nodes n x y) (n + 6)
