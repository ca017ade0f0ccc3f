-- A node's record is its sixteen bytes: equal bytes make equal nodes, and nodes that lie below a place do not
-- depend on the bytes from there on. Assumes nothing.
use Prim.Native.Nat.{ℕ, zero, suc, ◌+◌, ◌*◌, ◌^◌, ◌≤◌, ◌<◌}
use Rattle.std.specs.Prelude.{◌≡◌, length, get_or}
use Rattle.std.proofs.Math.Path.{refl, ap₂}
use Rattle.std.proofs.Common.{sym, ap, ◌∙◌, arith}
use mathlib.Core.List.{List, [], ◌∷◌, ◌++◌}
use Rattle.std.specs.Float.Ieee.{binary64, of_bits}
use Rattle.record.specs.Bytes.{u32_at, u64_at, f64_at}
use Rattle.record.specs.ByteLaws.{u32_same}
use Rattle.tree.specs.Tree.{Tree}
use Rattle.tree.specs.Nodes.{node_at, is_node, tree_of, trees, tree_at, node_refusal, Valid}
use Rattle.tree.specs.declared.Node.{Node}

-- record k of b is record l of c
module _ (b c : List ℕ) (k l : ℕ) (same : (o : ℕ) → o < 16 → get_or b (16 * k + o) 0 ≡ get_or c (16 * l + o) 0) where
  pub word_same : (o i j : ℕ) → o + 4 ≤ 16 → i ≡ 16 * k + o → j ≡ 16 * l + o → u32_at b i ≡ u32_at c j
  word_same o i j h p q =
      u32_same b c i j (λ u l. ap (λ (m : ℕ). get_or b m 0) (omega arith) ∙ same (o + u) (omega arith) ∙ ap (λ (m : ℕ). get_or c m 0) (omega arith))

  kind_same : u32_at b (16 * k) ≡ u32_at c (16 * l)
  kind_same = word_same 0 (16 * k) (16 * l) (omega arith) (omega arith) (omega arith)

  left_same : u32_at b (16 * k + 4) ≡ u32_at c (16 * l + 4)
  left_same = word_same 4 (16 * k + 4) (16 * l + 4) (omega arith) refl refl

  right_same : u32_at b (16 * k + 8) ≡ u32_at c (16 * l + 8)
  right_same = word_same 8 (16 * k + 8) (16 * l + 8) (omega arith) refl refl

  last_same : u32_at b (16 * k + 12) ≡ u32_at c (16 * l + 12)
  last_same = word_same 12 (16 * k + 12) (16 * l + 12) (omega arith) refl refl

  float_same : f64_at b (16 * k + 8) ≡ f64_at c (16 * l + 8)
  unfolding f64_at u64_at
  float_same =
      ap₂ (λ (x y : ℕ). of_bits binary64 (x + 2 ^ 32 * y)) right_same
      (word_same 12 (16 * k + 8 + 4) (16 * l + 8 + 4) (omega arith) (omega arith) (omega arith))

  pub node_same : node_at b k ≡ node_at c l
  unfolding node_at
  node_same = rw (kind_same, left_same, right_same, float_same)

  pub is_node_same : k ≡ l → is_node b k ≡ is_node c l
  unfolding is_node
  is_node_same e = rw (kind_same, left_same, right_same, last_same, float_same, e)

-- the first n records of b are those of c
module _ (b c : List ℕ) (n : ℕ) (same : (i : ℕ) → i < 16 * n → get_or b i 0 ≡ get_or c i 0) where
  record_same : (k : ℕ) → k < n → (o : ℕ) → o < 16 → get_or b (16 * k + o) 0 ≡ get_or c (16 * k + o) 0
  record_same k h o l = same (16 * k + o) (omega arith)

  trees_same : (k : ℕ) → k ≤ n → trees b k ≡ trees c k
  unfolding trees
  trees_same zero h = refl
  trees_same (suc k) h =
      ap₂ (λ (ts : List Tree) (x : Node ℕ). ts ++ tree_of ts x ∷ []) (trees_same k (omega arith)) (node_same b c k k (record_same k h))

  pub tree_same : (k : ℕ) → k < n → tree_at b k ≡ tree_at c k
  unfolding tree_at
  tree_same k h = ap₂ tree_of (trees_same k (omega arith)) (node_same b c k k (record_same k h))

  refusal_same : (k : ℕ) → k < n → node_refusal b k ≡ node_refusal c k
  unfolding node_refusal
  refusal_same k h = rw (is_node_same b c k k (record_same k h) refl, tree_same k h)

  pub valid_same : 16 * n ≤ length c → Valid b n → Valid c n
  valid_same h v = record { few = v.few; there = h; each = λ k l. sym (refusal_same k l) ∙ v.each k l }
