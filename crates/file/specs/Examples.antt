-- Files, computed: the one of document 01, and each refusal.
use Rattle.std.specs.Prelude.{ℕ, zero, suc, ◌+◌, ◌*◌, ◌≡◌, refl, List, [], ◌∷◌, ◌++◌, length, set, take}
use Rattle.std.specs.Float.{binary64}
use Rattle.std.specs.Float.Ieee.{to_bits}
use Rattle.number.specs.Notation.{bits}
use Rattle.interval.specs.Interval.{◌‥◌}
use Rattle.interval.specs.declared.Interval.{Interval}
use Rattle.record.specs.Bytes.{u32_bytes, u64_bytes}
use Rattle.tree.specs.Tree.{Tree}
use Rattle.tree.specs.Encoding.{nodes_bytes}
use Rattle.tree.specs.declared.Node.{Node}
use Rattle.constraint.specs.Constraint.{Atom}
use Rattle.constraint.specs.Encoding.{records_bytes}
use Rattle.constraint.specs.declared.Relation.{Relation}
use Rattle.constraint.specs.declared.Record.{Record}
use Rattle.file.specs.File.{refusal, read_file, given_refusal, Accepted}
use Rattle.file.specs.Computing.{computing}

-- ---- a file from its parts
unfoldable bounds_bytes : List Interval → List ℕ
bounds_bytes [] = []
bounds_bytes (i ∷ is) = u64_bytes (to_bits binary64 i.lo) ++ u64_bytes (to_bits binary64 i.hi) ++ bounds_bytes is

abbrev contents : ℕ → ℕ → ℕ → List ℕ
contents n c m =
    u32_bytes 32 ++ u32_bytes n ++ u32_bytes (32 + 16 * n) ++ u32_bytes c ++ u32_bytes (32 + 16 * n + 24 * c) ++ u32_bytes m

abbrev file : List (Node ℕ) → List Record → List Interval → List ℕ
file ns rs is =
    69 ∷ 77 ∷ 76 ∷ 81 ∷ 1 ∷ 0 ∷ 0 ∷ 0 ∷ contents (length ns) (length rs) (length is) ++ nodes_bytes ns ++ records_bytes rs ++ bounds_bytes is

unfoldable making : Unit {0}
unfolding computing bounds_bytes
making = tt

-- ---- GtZero of Var 0, bounds [1, 3], 88 bytes
abbrev one : ℕ
one = 0x3FF0000000000000

abbrev three : ℕ
three = 0x4008000000000000

abbrev var : List (Node ℕ)
var = Node.Var 0 ∷ []

abbrev gt : List Record
gt = Record.Atom Relation.GtZero 0 ∷ []

abbrev document : List ℕ
document = file var gt ((bits one ‥ bits three) ∷ [])

document_length : length document ≡ 88
unfolding making
document_length = refl

document_read : read_file document ≡ Accepted (Atom Relation.GtZero (Tree.Var 0)) ((bits one ‥ bits three) ∷ [])
unfolding making
document_read = refl

-- the same records without the file
given : given_refusal (nodes_bytes var) (records_bytes gt) ≡ 0
unfolding making
given = refl

-- ---- 1: 31 bytes; version 2
short : refusal (take 31 document) ≡ 1
unfolding making
short = refl

version_2 : refusal (set document 4 2) ≡ 1
unfolding making
version_2 = refl

-- 2: a byte more at the end; the constraints one byte further on; 17 bounds
longer : refusal (document ++ 0 ∷ []) ≡ 2
unfolding making
longer = refl

gap : refusal (set document 16 49) ≡ 2
unfolding making
gap = refl

seventeen : refusal (set document 28 17) ≡ 2
unfolding making
seventeen = refl

-- 3: the node's kind is 4; 5: the constraint's is 11
node_kind : refusal (set document 32 4) ≡ 3
unfolding making
node_kind = refl

constraint_kind : refusal (set document 48 11) ≡ 5
unfolding making
constraint_kind = refl

-- 4: each node has the one before it as both children, so the sizes are 1, 3, 7 .. 8191
unfoldable doubled : ℕ → List (Node ℕ)
doubled zero = Node.One ∷ []
doubled (suc n) = doubled n ++ Node.Eml n n ∷ []

size : refusal (file (doubled 12) gt []) ≡ 4
unfolding making doubled
size = refl

-- 6: a range of the constraints from 3 to 1; bounds from 3 to 1, and with an infinite end
reversed : refusal (file var (gt ++ Record.Exists 0 (bits three) (bits one) ∷ []) []) ≡ 6
unfolding making
reversed = refl

reversed_bound : refusal (file var gt ((bits three ‥ bits one) ∷ [])) ≡ 6
unfolding making
reversed_bound = refl

infinite_bound : refusal (file var gt ((bits one ‥ bits 0x7FF0000000000000) ∷ [])) ≡ 6
unfolding making
infinite_bound = refl

-- 7: no constraint, no node and no bound
empty : refusal (file [] [] []) ≡ 7
unfolding making
empty = refl

-- the order: a node before a constraint, a constraint before a bound
node_first : refusal (file (Node.Var 16 ∷ []) (Record.Not ∷ []) ((bits three ‥ bits one) ∷ [])) ≡ 3
unfolding making
node_first = refl

constraint_first : refusal (file var (Record.Not ∷ []) ((bits three ‥ bits one) ∷ [])) ≡ 5
unfolding making
constraint_first = refl
