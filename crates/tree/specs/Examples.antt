-- Node lists, computed.
use Rattle.std.specs.Prelude.{ℕ, ◌≡◌, refl, List, [], ◌∷◌, ◌++◌, length, set, replicate, Ok, Err}
use Rattle.number.specs.Notation.{bits}
use Rattle.tree.specs.Tree.{One, Const, Var, Eml}
use Rattle.tree.specs.Nodes.{tree_at, list_refusal}
use Rattle.tree.specs.Encoding.{node_bytes, nodes_bytes}
use Rattle.tree.specs.Canonical.{ln_refusal, ln}
use Rattle.record.specs.Leaving.{◌leaving◌}
use Rattle.tree.specs.Computing.{computing}
use Rattle.tree.specs.declared.Node.{Node}

-- the refusal of all nodes of a list
abbrev refusal : List (Node ℕ) → ℕ
refusal ns = list_refusal (nodes_bytes ns) (length ns)

-- Var 3 and Const 1, byte by byte
var_bytes : node_bytes (Node.Var 3) ≡ 2 ∷ 0 ∷ 0 ∷ 0 ∷ 3 ∷ 0 ∷ 0 ∷ 0 ∷ replicate 8 0
unfolding computing
var_bytes = refl

const_bytes : node_bytes (Node.Const (bits 0x3FF0000000000000)) ≡ 1 ∷ 0 ∷ 0 ∷ 0 ∷ replicate 10 0 ++ 240 ∷ 63 ∷ []
unfolding computing
const_bytes = refl

-- a list that is accepted, and the tree of its last node
abbrev some : List (Node ℕ)
some = Node.One ∷ Node.Var 15 ∷ Node.Const (bits 0x8000000000000000) ∷ Node.Eml 0 1 ∷ Node.Eml 3 2 ∷ []

some_accepted : refusal some ≡ 0
unfolding computing
some_accepted = refl

some_tree : tree_at (nodes_bytes some) 4 ≡ Eml (Eml One (Var 15)) (Const (bits 0x8000000000000000))
unfolding computing
some_tree = refl

-- 2: five nodes in the bytes of four
too_short : list_refusal (nodes_bytes (Node.One ∷ Node.One ∷ Node.One ∷ Node.One ∷ [])) 5 ≡ 2
unfolding computing
too_short = refl

-- 3: a child that is its own parent, index 16, an infinite constant, an unused byte
own_child : refusal (Node.One ∷ Node.Eml 0 1 ∷ []) ≡ 3
unfolding computing
own_child = refl

index_16 : refusal (Node.Var 16 ∷ []) ≡ 3
unfolding computing
index_16 = refl

infinite : refusal (Node.Const (bits 0x7FF0000000000000) ∷ []) ≡ 3
unfolding computing
infinite = refl

unused_byte : list_refusal (set (nodes_bytes (Node.Var 0 ∷ [])) 15 1) 1 ≡ 3
unfolding computing
unused_byte = refl

-- each node has the one before it as both children: node 10's size is 2047, node 11's 4095, node 12's 8191
abbrev doubled : ℕ → List (Node ℕ)
doubled n = Node.Eml n n ∷ []

abbrev twelve : List (Node ℕ)
twelve =
    Node.One ∷ doubled 0 ++ doubled 1 ++ doubled 2 ++ doubled 3 ++ doubled 4 ++ doubled 5 ++ doubled 6
    ++ doubled 7 ++ doubled 8 ++ doubled 9 ++ doubled 10

size_4095 : refusal twelve ≡ 0
unfolding computing
size_4095 = refl

size_8191 : refusal (twelve ++ doubled 11) ≡ 4
unfolding computing
size_8191 = refl

-- ln of a node whose size is 4095, of a node that is not there, and with three free places; then with four
ln_size : ln_refusal (nodes_bytes twelve) 12 11 ≡ 4
unfolding computing
ln_size = refl

ln_none : ln_refusal (nodes_bytes some) 5 5 ≡ 3
unfolding computing
ln_none = refl

ln_short : ln_refusal (nodes_bytes some) 2 0 ≡ 10
unfolding computing
ln_short = refl

ln_fits : ln_refusal (nodes_bytes some) 1 0 ≡ 0
unfolding computing
ln_fits = refl

-- what the calls answer, and leave
ln_refused : ln (nodes_bytes some) 2 0 ≡ (Err 10 leaving nodes_bytes some)
unfolding computing
ln_refused = refl

ln_answers : ln (nodes_bytes some) 1 0 ≡ (Ok 4 leaving nodes_bytes (Node.One ∷ Node.One ∷ Node.Eml 1 0 ∷ Node.Eml 2 1 ∷ Node.Eml 1 3 ∷ []))
unfolding computing
ln_answers = refl
