-- Laws of nodes and of their trees: what a function that reads accepted nodes cites. Assumes nothing.
use Prim.Native.Nat.{ℕ, zero, suc, ◌+◌, ◌*◌, ◌≤◌, ◌<◌}
use Rattle.std.specs.Prelude.{◌≡◌, Bool, true, false, ◌&&◌, List, [], ◌∷◌, T, eqb, ltb, leb, Float, length, get_or}
use Rattle.std.proofs.Math.Path.{refl, ap, ap₂}
use Rattle.std.proofs.Common.{sym, ◌∙◌, subst, ⊎_elim, le_of_suc-le-suc, not-suc-le-zero, eq-or-lt_of_le, arith, leb-true, ltb→lt, length-append}
use Rattle.std.specs.Float.Ieee.Fits.{and_l, and_r}
use Rattle.std.specs.Float.Ieee.Scale.{finite}
use Rattle.std.proofs.Math.ListN.{get_or-append}
use Rattle.std.proofs.lemmas.List.{get_or_at}
use Rattle.number.specs.Notation.{when◌then◌else◌}
use Rattle.record.specs.Bytes.{u32_at}
use Rattle.record.specs.Refusal.{◌unless◌}
use Rattle.record.specs.RefusalLaws.{both, none_both, none_unless, none_of_each}
use Rattle.tree.specs.Tree.{Tree, size, depth, is_small, tree_vars}
use Rattle.tree.specs.Nodes.{node_at, is_node, tree_of, trees, tree_at, node_refusal, nodes_refusal, nodes_fit, list_refusal, Valid}
use Rattle.tree.specs.declared.Node.{Node}

-- ---- a node's tree by what its record says
pub length_trees : (b : List ℕ) (k : ℕ) → length (trees b k) ≡ k
unfolding trees
length_trees b zero = refl
length_trees b (suc k) = length-append (trees b k) (tree_of (trees b k) (node_at b k) ∷ []) ∙ omega (arith, length_trees b k)

tree_before : (b : List ℕ) (k j : ℕ) → j < k → get_or (trees b k) j Tree.One ≡ tree_at b j
unfolding trees tree_at
tree_before b zero j l = absurd (not-suc-le-zero l)
tree_before b (suc k) j l =
    let new = tree_of (trees b k) (node_at b k) in
    ⊎_elim
    (λ e. get_or_at (trees b k) new [] Tree.One j (length_trees b k ∙ sym e) ∙ ap (tree_at b) (sym e))
    (λ q. get_or-append (trees b k) (new ∷ []) Tree.One j (omega (arith, length_trees b k)) ∙ tree_before b k j q)
    (eq-or-lt_of_le (le_of_suc-le-suc l))

module _ (b : List ℕ) (k : ℕ) where
  pub tree_one : node_at b k ≡ Node.One → tree_at b k ≡ Tree.One
  unfolding tree_at tree_of
  tree_one e = ap (tree_of (trees b k)) e

  pub tree_const : (v : Float) → node_at b k ≡ Node.Const v → tree_at b k ≡ Tree.Const v
  unfolding tree_at tree_of
  tree_const v e = ap (tree_of (trees b k)) e

  pub tree_var : (i : ℕ) → node_at b k ≡ Node.Var i → tree_at b k ≡ Tree.Var i
  unfolding tree_at tree_of
  tree_var i e = ap (tree_of (trees b k)) e

  pub tree_eml : (l r : ℕ) → l < k → r < k → node_at b k ≡ Node.Eml l r → tree_at b k ≡ Tree.Eml (tree_at b l) (tree_at b r)
  unfolding tree_at tree_of
  tree_eml l r p q e = ap (tree_of (trees b k)) e ∙ ap₂ Tree.Eml (tree_before b k l p) (tree_before b k r q)

-- ---- what a node record that is one says
abbrev pub Right : ℕ → Node ℕ → Type 0
Right own Node.One = Unit {0}
Right own (Node.Const v) = T (finite v)
Right own (Node.Var i) = i < 16
Right own (Node.Eml l r) = (l < own) × (r < own)

right_of : (own l r : ℕ) (v : Float) (one const var eml l0 r0 z0 : Bool) →
    T (when one then l0 && r0 && z0 else when const then l0 && finite v else when var then ltb l 16 && r0 && z0
    else when eml then ltb l own && ltb r own && z0 else false) →
    Right own (when one then Node.One else when const then Node.Const v else when var then Node.Var l else Node.Eml l r)
unfolding when◌then◌else◌
right_of own l r v true const var eml l0 r0 z0 h = tt
right_of own l r v false true var eml l0 r0 z0 h = and_r l0 (finite v) h
right_of own l r v false false true eml l0 r0 z0 h = ltb→lt l 16 (and_l (ltb l 16) r0 (and_l (ltb l 16 && r0) z0 h))
right_of own l r v false false false true l0 r0 z0 h =
    let g = and_l (ltb l own && ltb r own) z0 h in
    (ltb→lt l own (and_l (ltb l own) (ltb r own) g), ltb→lt r own (and_r (ltb l own) (ltb r own) g))
right_of own l r v false false false false l0 r0 z0 h = absurd h

pub right : (b : List ℕ) (k : ℕ) → is_node b k ≡ true → Right k (node_at b k)
unfolding is_node node_at
right b k e =
    let at = 16 * k in
    let kind = u32_at b at in
    right_of k _ _ _ (eqb kind 0) (eqb kind 1) (eqb kind 2) (eqb kind 3)
    (eqb (u32_at b (at + 4)) 0) (eqb (u32_at b (at + 8)) 0) (eqb (u32_at b (at + 12)) 0) (subst T (sym e) tt)

pub children : (b : List ℕ) (k i j : ℕ) → is_node b k ≡ true → node_at b k ≡ Node.Eml i j → (i < k) × (j < k)
children b k i j is e = subst (Right k) e (right b k is)

-- ---- a node that passed
pub small_parts : (t : Tree) → is_small t ≡ true → (size t ≤ 4096) × (depth t ≤ 128)
unfolding is_small
small_parts t e = let w = both (leb (size t) 4096) (leb (depth t) 128) e in (leb-true _ _ w.0, leb-true _ _ w.1)

passed : (b : List ℕ) (k : ℕ) → node_refusal b k ≡ 0 → (is_node b k ≡ true) × (is_small (tree_at b k) ≡ true)
unfolding node_refusal
passed b k e = let w = none_both (3 unless is_node b k) _ e in (none_unless 2 (is_node b k) w.0, none_unless 3 (is_small (tree_at b k)) w.1)

-- ---- a list that passed
pub fit_parts : (len n : ℕ) → nodes_fit len n ≡ true → (n ≤ 1024) × (16 * n ≤ len)
unfolding nodes_fit
fit_parts len n e = let w = both (leb n 1024) (leb (16 * n) len) e in (leb-true _ _ w.0, leb-true _ _ w.1)

pub list_valid : (b : List ℕ) (n : ℕ) → list_refusal b n ≡ 0 → Valid b n
unfolding list_refusal nodes_refusal
list_valid b n e =
    let w = none_both (2 unless nodes_fit (length b) n) _ e in
    let f = fit_parts (length b) n (none_unless 1 (nodes_fit (length b) n) w.0) in
    record { few = f.0; there = f.1; each = none_of_each (node_refusal b) n w.1 }

module _ (b : List ℕ) (n : ℕ) (v : Valid b n) where
  pub prefix : (m : ℕ) → m ≤ n → Valid b m
  prefix m h = record { few = omega (arith, v.few); there = omega (arith, v.there); each = λ k l. v.each k (omega arith) }

  module _ (k : ℕ) (l : k < n) where
    pub passed_node : is_node b k ≡ true
    passed_node = (passed b k (v.each k l)).0

    pub size_small : size (tree_at b k) ≤ 4096
    size_small = (small_parts (tree_at b k) (passed b k (v.each k l)).1).0

    pub depth_small : depth (tree_at b k) ≤ 128
    depth_small = (small_parts (tree_at b k) (passed b k (v.each k l)).1).1

    pub children_below : (i j : ℕ) → node_at b k ≡ Node.Eml i j → (i < k) × (j < k)
    children_below i j e = children b k i j passed_node e

    pub index_small : (i : ℕ) → node_at b k ≡ Node.Var i → i < 16
    index_small i e = subst (Right k) e (right b k passed_node)

  vars_below : (f k : ℕ) → k < f → k < n → tree_vars (tree_at b k) ≤ 16
  unfolding tree_vars
  vars_below zero k h l = absurd (not-suc-le-zero h)
  vars_below (suc f) k h l = of (node_at b k) refl (λ j p. vars_below f j (omega arith) (omega arith))
    where
      of : (x : Node ℕ) → node_at b k ≡ x → ((j : ℕ) → j < k → tree_vars (tree_at b j) ≤ 16) → tree_vars (tree_at b k) ≤ 16
      of Node.One e below = rw (tree_one b k e) (omega arith)
      of (Node.Const v) e below = rw (tree_const b k v e) (omega arith)
      of (Node.Var i) e below = rw (tree_var b k i e) (index_small k l i e)
      of (Node.Eml i j) e below =
          let w = children_below k l i j e in
          rw (tree_eml b k i j w.0 w.1 e) (omega (arith, below i w.0, below j w.1))

  pub vars_small : (k : ℕ) → k < n → tree_vars (tree_at b k) ≤ 16
  vars_small k l = vars_below (suc k) k (omega arith) l

-- ---- a recursion on node numbers: what it asks at a node and at its children, and the tree of an Eml
module _ (b : List ℕ) (k : ℕ) (v : Valid b (k + 1)) where
  pub record_there : 16 * k + 16 ≤ length b
  record_there = omega (arith, v.there)

  pub index_below : (i : ℕ) → node_at b k ≡ Node.Var i → i < 16
  index_below i e = index_small b (k + 1) v k (omega arith) i e

  module _ (i j : ℕ) (e : node_at b k ≡ Node.Eml i j) where
    below : (i < k) × (j < k)
    below = children_below b (k + 1) v k (omega arith) i j e

    pub at_left : (t : ℕ) → k ≡ t → (i < t) × Valid b (i + 1)
    at_left t is = (omega (arith, below.0), prefix b (k + 1) v (i + 1) (omega (arith, below.0)))

    pub at_right : (t : ℕ) → k ≡ t → (j < t) × Valid b (j + 1)
    at_right t is = (omega (arith, below.1), prefix b (k + 1) v (j + 1) (omega (arith, below.1)))

    pub tree_is : tree_at b k ≡ Tree.Eml (tree_at b i) (tree_at b j)
    tree_is = tree_eml b k i j below.0 below.1 e

-- for a function that goes by a node's kind
pub ruleset node_trees = (children, tree_one, tree_const, tree_var, tree_eml)

pub ruleset valid_trees = (record_there, index_below, at_left, at_right, tree_is)
