-- The test of a record, and what is read of it, go by its kind. Assumes nothing.
use Prim.Native.Nat.{ℕ, zero, suc, ◌+◌, ◌*◌, ◌<◌}
use mathlib.Core.Path.{◌≡◌, refl, sym, ◌∙◌}
use mathlib.Core.Bool.{Bool, false, ◌&&◌}
use Rattle.std.proofs.Math.Bool.{and_assoc}
use mathlib.Core.List.{List}
use native.Mathlib.Omega.{arith}
use lib.Dec.{ltb, eqb}
use borrow.Author.Tests.{le-ltb, ne_eqb}
use lib.Ieee.Scale.{finite}
use Rattle.record.specs.Bytes.{u32_at, f64_at}
use Rattle.tree.specs.Nodes.{is_node, node_at}
use Rattle.tree.specs.declared.Node.{Node}
use lib.Ieee.{Float}
use Rattle.number.specs.Notation.{when◌then◌else◌}
use Rattle.tree.specs.Code.{left_end, right_end, chosen}

below_one : (n : ℕ) → ltb n 1 ≡ eqb n 0
below_one zero = refl
below_one (suc n) = le-ltb (suc n) 1 (omega arith) ∙ sym (ne_eqb (suc n) 0 (λ e. omega (arith, e)))

node_test : (kind left right last k : ℕ) (real : Bool) →
    ((ltb kind 4 && ltb left (left_end kind k)) && chosen kind real (ltb right (right_end kind k) && eqb last 0))
    ≡ (when eqb kind 0 then eqb left 0 && eqb right 0 && eqb last 0
    else when eqb kind 1 then eqb left 0 && real
    else when eqb kind 2 then ltb left 16 && eqb right 0 && eqb last 0
    else when eqb kind 3 then ltb left k && ltb right k && eqb last 0
    else false)
unfolding when◌then◌else◌
node_test zero left right last k real = rw (below_one left, below_one right) (sym (and_assoc (eqb left 0) (eqb right 0) (eqb last 0)))
node_test (suc zero) left right last k real = rw (below_one left) refl
node_test (suc (suc zero)) left right last k real = rw (below_one right) (sym (and_assoc (ltb left 16) (eqb right 0) (eqb last 0)))
node_test (suc (suc (suc zero))) left right last k real = sym (and_assoc (ltb left k) (ltb right k) (eqb last 0))
node_test (suc (suc (suc (suc n)))) left right last k real =
    simp (
      le-ltb (suc (suc (suc (suc n)))) 4 (omega arith),
      other 0 (omega arith),
      other 1 (omega arith),
      other 2 (omega arith),
      other 3 (omega arith),
    )
  where
    other : (j : ℕ) → j < 4 → eqb (suc (suc (suc (suc n)))) j ≡ false
    other j h = ne_eqb (suc (suc (suc (suc n)))) j (λ e. omega (arith, e))

-- the test as `is_node` makes it, of the numbers that it read
pub node_is : (b : List ℕ) (k kind left right last : ℕ) (real : Bool) → kind ≡ u32_at b (16 * k) → left ≡ u32_at b (16 * k + 4) →
    right ≡ u32_at b (16 * k + 8) → last ≡ u32_at b (16 * k + 12) →
    real ≡ finite (f64_at b (16 * k + 8)) →
    {x y : ℕ} {z : Bool} → x ≡ left_end kind k → y ≡ right_end kind k → z ≡ chosen kind real (ltb right y && eqb last 0) →
    ((ltb kind 4 && ltb left x) && z) ≡ is_node b k
unfolding is_node
node_is b k kind left right last real e f g h r u v w = simp (u, w, v, sym e, sym f, sym g, sym h, sym r) (node_test kind left right last k real)

-- ---- the node that `node_in` reads, by its kind
module _ (b : List ℕ) (k kind : ℕ) (e : kind ≡ u32_at b (16 * k)) where
  pub reads_one : kind ≡ 0 → Node.One ≡ node_at b k
  unfolding node_at when◌then◌else◌
  reads_one z = simp (sym e ∙ z)

  pub reads_const : (v : Float) → kind ≡ 1 → v ≡ f64_at b (16 * k + 8) → Node.Const v ≡ node_at b k
  unfolding node_at when◌then◌else◌
  reads_const v z f = simp (sym e ∙ z, f)

  pub reads_var : (i : ℕ) → kind ≡ 2 → i ≡ u32_at b (16 * k + 4) → Node.Var i ≡ node_at b k
  unfolding node_at when◌then◌else◌
  reads_var i z f = simp (sym e ∙ z, f)

  pub reads_eml : (l r : ℕ) → (kind ≡ 0 → ⊥) → (kind ≡ 1 → ⊥) → (kind ≡ 2 → ⊥) → l ≡ u32_at b (16 * k + 4) → r ≡ u32_at b (16 * k + 8) →
      Node.Eml l r ≡ node_at b k
  unfolding node_at when◌then◌else◌
  reads_eml l r x y z f g = simp (sym e, ne_eqb _ _ x, ne_eqb _ _ y, ne_eqb _ _ z, f, g)

pub ruleset node_reads = (reads_one, reads_const, reads_var, reads_eml)
