-- Laws of the encoding: what is stored one after the other, and a stored record is read as its node. Assumes nothing.
use Rattle.std.specs.Prelude.{ℕ, zero, suc, ◌+◌, ◌*◌, ◌≤◌, ◌<◌, ◌≡◌, true, List, [], ◌∷◌, ◌++◌, length, get_or}
use Rattle.std.proofs.Math.Path.{refl}
use Rattle.std.proofs.Common.{sym, ap, ◌∙◌, append_assoc, append-nil, zero-add, arith, length-append, get_or-append-add}
use borrow.Author.Tests.{lt-ltb}
use Rattle.std.proofs.Math.ListN.{get_or-append}
use Rattle.std.proofs.lemmas.List.Edits.{sets}
use Rattle.number.specs.Notation.{when◌then◌else◌}
use Rattle.record.specs.Bytes.{u32_at, u32_bytes, u64_bytes}
use Rattle.record.specs.ByteLaws.{then_bytes, u32_read, sets_at}
use Rattle.tree.specs.Nodes.{node_at, is_node}
use Rattle.tree.specs.Encoding.{node_bytes, nodes_bytes}
use Rattle.tree.specs.Frame.{word_same}
use Rattle.tree.specs.declared.Node.{Node}

length_node : (x : Node ℕ) → length (node_bytes x) ≡ 16
unfolding node_bytes u32_bytes u64_bytes
length_node Node.One = refl
length_node (Node.Const v) = refl
length_node (Node.Var i) = refl
length_node (Node.Eml l r) = refl

pub length_nodes : (xs : List (Node ℕ)) → length (nodes_bytes xs) ≡ 16 * length xs
unfolding nodes_bytes
length_nodes [] = refl
length_nodes (x ∷ xs) = length-append (node_bytes x) (nodes_bytes xs) ∙ omega (arith, length_node x, length_nodes xs)

nodes_append : (xs ys : List (Node ℕ)) → nodes_bytes xs ++ nodes_bytes ys ≡ nodes_bytes (xs ++ ys)
unfolding nodes_bytes
nodes_append [] ys = refl
nodes_append (x ∷ xs) ys = append_assoc (node_bytes x) (nodes_bytes xs) (nodes_bytes ys) ∙ ap (λ (l : List ℕ). node_bytes x ++ l) (nodes_append xs ys)

-- ---- what calls one after the other leave: a node, nodes after nodes
pub one_node : (b : List ℕ) {b₁ : List ℕ} (k : ℕ) (x : Node ℕ) → b₁ ≡ sets b (16 * k) (node_bytes x) → b₁ ≡ sets b (16 * k) (nodes_bytes (x ∷ []))
unfolding nodes_bytes
one_node b k x e = e ∙ ap (sets b (16 * k)) (sym (append-nil (node_bytes x)))

pub then_nodes : (b : List ℕ) {b₁ b₂ : List ℕ} (k j : ℕ) (xs ys : List (Node ℕ)) → b₁ ≡ sets b (16 * k) (nodes_bytes xs) →
    b₂ ≡ sets b₁ (16 * j) (nodes_bytes ys) → j ≡ k + length xs →
    b₂ ≡ sets b (16 * k) (nodes_bytes (xs ++ ys))
then_nodes b k j xs ys e₁ e₂ h =
    then_bytes b (16 * k) (16 * j) (nodes_bytes xs) (nodes_bytes ys) e₁ e₂ (omega (arith, length_nodes xs))
    ∙ ap (sets b (16 * k)) (nodes_append xs ys)

pub then_node : (b : List ℕ) {b₁ b₂ : List ℕ} (k j : ℕ) (xs : List (Node ℕ)) (x : Node ℕ) → b₁ ≡ sets b (16 * k) (nodes_bytes xs) →
    b₂ ≡ sets b₁ (16 * j) (node_bytes x) → j ≡ k + length xs →
    b₂ ≡ sets b (16 * k) (nodes_bytes (xs ++ x ∷ []))
then_node b {b₁} k j xs x e₁ e₂ h = then_nodes b k j xs (x ∷ []) e₁ (one_node b₁ j x e₂) h

-- ---- what is read after a store
-- byte o of node j
pub node_byte : (xs : List (Node ℕ)) (j o : ℕ) → j < length xs → o < 16 →
    get_or (nodes_bytes xs) (16 * j + o) 0 ≡ get_or (node_bytes (get_or xs j Node.One)) o 0
unfolding nodes_bytes
node_byte [] j o h l = absurd (omega arith)
node_byte (x ∷ xs) zero o h l =
    ap (λ (i : ℕ). get_or (node_bytes x ++ nodes_bytes xs) i 0) (zero-add o)
    ∙ get_or-append (node_bytes x) (nodes_bytes xs) 0 o (omega (arith, length_node x))
node_byte (x ∷ xs) (suc j) o h l =
    ap (λ (i : ℕ). get_or (node_bytes x ++ nodes_bytes xs) i 0) (omega (arith, length_node x))
    ∙ get_or-append-add (node_bytes x) (nodes_bytes xs) (16 * j + o) 0
    ∙ node_byte xs j o (omega arith) l

pub written : (b : List ℕ) (n : ℕ) (xs : List (Node ℕ)) (j o : ℕ) → j < length xs → o < 16 → 16 * (n + length xs) ≤ length b →
    get_or (sets b (16 * n) (nodes_bytes xs)) (16 * (n + j) + o) 0 ≡ get_or (node_bytes (get_or xs j Node.One)) (16 * 0 + o) 0
written b n xs j o h l g =
    ap (λ (i : ℕ). get_or (sets b (16 * n) (nodes_bytes xs)) i 0) (omega arith)
    ∙ sets_at (nodes_bytes xs) b (16 * n) (16 * j + o) (omega (arith, length_nodes xs)) (omega (arith, length_nodes xs))
    ∙ node_byte xs j o h l
    ∙ ap (λ (i : ℕ). get_or (node_bytes (get_or xs j Node.One)) i 0) (sym (zero-add o))

-- ---- a record that was written is read as its node, and passes
-- record k of c is x's
abbrev pub Has : List ℕ → ℕ → Node ℕ → Type 0
Has c k x = (o : ℕ) → o < 16 → get_or c (16 * k + o) 0 ≡ get_or (node_bytes x) (16 * 0 + o) 0

has_word : (c : List ℕ) (k : ℕ) (x : Node ℕ) → Has c k x → (o i : ℕ) → o + 4 ≤ 16 → i ≡ 16 * k + o → u32_at c i ≡ u32_at (node_bytes x) o
has_word c k x same o i h e = word_same c (node_bytes x) k 0 same o i o h e (omega arith)

module _ (c : List ℕ) (k : ℕ) (same : Has c k Node.One) where
  pub one_read : (node_at c k ≡ Node.One) × (is_node c k ≡ true)
  unfolding node_at is_node when◌then◌else◌
  one_read = rw (kind, left, right, last) (refl, refl)
    where
      kind : u32_at c (16 * k) ≡ 0
      kind = unfold node_bytes u32_bytes u32_at in has_word c k Node.One same 0 (16 * k) (omega arith) (omega arith)

      left : u32_at c (16 * k + 4) ≡ 0
      left = unfold node_bytes u32_bytes u32_at in has_word c k Node.One same 4 (16 * k + 4) (omega arith) refl

      right : u32_at c (16 * k + 8) ≡ 0
      right = unfold node_bytes u32_bytes u32_at in has_word c k Node.One same 8 (16 * k + 8) (omega arith) refl

      last : u32_at c (16 * k + 12) ≡ 0
      last = unfold node_bytes u32_bytes u32_at in has_word c k Node.One same 12 (16 * k + 12) (omega arith) refl

module _ (c : List ℕ) (k l r : ℕ) (same : Has c k (Node.Eml l r)) (p : l < k) (q : r < k) (few : k < 1024) where
  pub eml_read : (node_at c k ≡ Node.Eml l r) × (is_node c k ≡ true)
  unfolding node_at is_node when◌then◌else◌
  eml_read = rw (kind, left, right, last, lt-ltb l k p, lt-ltb r k q) (refl, refl)
    where
      kind : u32_at c (16 * k) ≡ 3
      kind = unfold node_bytes u32_bytes u32_at in has_word c k (Node.Eml l r) same 0 (16 * k) (omega arith) (omega arith)

      left : u32_at c (16 * k + 4) ≡ l
      left = unfold node_bytes u32_bytes u32_at in has_word c k (Node.Eml l r) same 4 (16 * k + 4) (omega arith) refl ∙ u32_read l (omega arith)

      right : u32_at c (16 * k + 8) ≡ r
      right = unfold node_bytes u32_bytes u32_at in has_word c k (Node.Eml l r) same 8 (16 * k + 8) (omega arith) refl ∙ u32_read r (omega arith)

      last : u32_at c (16 * k + 12) ≡ 0
      last = unfold node_bytes u32_bytes u32_at in has_word c k (Node.Eml l r) same 12 (16 * k + 12) (omega arith) refl
