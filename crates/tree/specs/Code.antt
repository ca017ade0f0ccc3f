-- What the functions below the tests compute, in the terms of their arguments.
use Rattle.std.specs.Prelude.{ℕ, ◌+◌, ◌≤◌, ◌<◌, ◌≡◌, Bool, ◌&&◌, List, leb, ltb, eqb, length, get_or, if◌then◌else◌}
use Rattle.record.specs.Refusal.{◌or_else◌, ◌unless◌}
use Rattle.tree.specs.Tree.{Tree, size, depth}
use Rattle.tree.specs.Nodes.{nodes_fit, tree_at, list_refusal}
use Rattle.tree.specs.declared.Extent.{Extent}
use Rattle.tree.specs.declared.SmallExtent.{SmallExtent}

-- the ends of the numbers of a record of that kind, of node k
abbrev pub right_end : ℕ → ℕ → ℕ
right_end kind k = if eqb kind 3 then k else 1

abbrev pub left_end : ℕ → ℕ → ℕ
left_end kind k = if eqb kind 2 then 16 else right_end kind k

abbrev pub chosen : ℕ → Bool → Bool → Bool
chosen kind constant other = if eqb kind 1 then constant else other

-- the size and the depth of a tree
abbrev pub IsExtent : Tree → Extent → Type 0
IsExtent t e = (e.size ≡ size t) × (e.depth ≡ depth t)

-- as document 01 bounds them
abbrev pub small_extent : Extent → Bool
small_extent e = leb e.size 4096 && leb e.depth 128

abbrev pub Small : Extent → Type 0
Small e = (e.size ≤ 4096) × (e.depth ≤ 128)

-- those of an accepted tree
pub record Measured (t : Tree) (e : Extent) : Type 0 where
  pub is : IsExtent t e
  pub small : Small e

abbrev pub widened : SmallExtent → Extent
widened e = record { size = e.size; depth = e.depth }

-- the list holds those of the first n nodes
pub record Held (b : List ℕ) (n : ℕ) (es : List SmallExtent) : Type 0 where
  pub few : n ≤ 1024
  pub there : n ≤ length es
  pub each : (k : ℕ) → k < n → Measured (tree_at b k) (widened (get_or es k (record { size = 0; depth = 0 })))

-- the refusals of an append before the result's, and from it on
unfoldable pub operands_refusal : List ℕ → ℕ → ℕ → ℕ → ℕ
operands_refusal b n x y = list_refusal b n or_else 3 unless ltb x n && ltb y n

unfoldable pub result_refusal : (len n more : ℕ) → Extent → ℕ
result_refusal len n more e = 4 unless small_extent e or_else 10 unless nodes_fit len (n + more)
