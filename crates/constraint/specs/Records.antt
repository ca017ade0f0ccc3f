-- Constraint records (document 01, "The file"): 24 bytes each, in postorder. The kind and its three zeros are read as one u32.
use Rattle.std.specs.Prelude.{ℕ, zero, suc, ◌+◌, ◌*◌, ◌-◌, Bool, true, false, ◌&&◌, List, [], ◌∷◌, ◌++◌, leb, ltb, eqb, length, get_or, take, drop}
use Rattle.std.specs.Float.{binary64}
use Rattle.number.specs.Notation.{when◌then◌else◌}
use Rattle.number.specs.Sound.{sound}
use Rattle.record.specs.Bytes.{u32_at, u64_at, f64_at}
use Rattle.record.specs.Refusal.{◌or_else◌, ◌unless◌, first}
use Rattle.tree.specs.Nodes.{tree_at}
use Rattle.constraint.specs.Constraint.{Formula, Formulas, Constraint, Atom, Not, And, Or, ForAll, Exists, end, ◌⨾◌, map_formula, levels, quantifiers}
use Rattle.constraint.specs.declared.Relation.{Relation}
use Rattle.constraint.specs.declared.Record.{Record}

-- kinds 0 to 5
unfoldable pub relation_of : ℕ → Relation
relation_of kind =
    when eqb kind 0 then Relation.EqZero
    else when eqb kind 1 then Relation.GtZero
    else when eqb kind 2 then Relation.GeZero
    else when eqb kind 3 then Relation.LtZero
    else when eqb kind 4 then Relation.LeZero
    else Relation.NeZero

-- what record k says, read with no test
unfoldable pub record_at : List ℕ → ℕ → Record
record_at b k =
    let at = 24 * k in
    let kind = u32_at b at in
    let arg = u32_at b (at + 4) in
    when ltb kind 6 then Record.Atom (relation_of kind) arg
    else when eqb kind 6 then Record.Not
    else when eqb kind 7 then Record.And arg
    else when eqb kind 8 then Record.Or arg
    else when eqb kind 9 then Record.ForAll arg (f64_at b (at + 8)) (f64_at b (at + 16))
    else Record.Exists arg (f64_at b (at + 8)) (f64_at b (at + 16))

-- whether it is a constraint record over n nodes: an atom's argument a node, Not's 0, a quantifier's 0..15; lo and hi zero bytes outside 9 and 10
unfoldable pub is_record : ℕ → List ℕ → ℕ → Bool
is_record n b k =
    let at = 24 * k in
    let kind = u32_at b at in
    let arg = u32_at b (at + 4) in
    let blank = eqb (u64_at b (at + 8)) 0 && eqb (u64_at b (at + 16)) 0 in
    when ltb kind 6 then ltb arg n && blank
    else when eqb kind 6 then eqb arg 0 && blank
    else when eqb kind 7 then blank
    else when eqb kind 8 then blank
    else when eqb kind 9 then ltb arg 16
    else when eqb kind 10 then ltb arg 16
    else false

-- a quantifier's range
abbrev pub is_ranged : Record → Bool
is_ranged (Record.Atom rel i) = true
is_ranged Record.Not = true
is_ranged (Record.And m) = true
is_ranged (Record.Or m) = true
is_ranged (Record.ForAll v lo hi) = sound binary64 lo hi
is_ranged (Record.Exists v lo hi) = sound binary64 lo hi

-- how many finished constraints it takes
abbrev pub takes : Record → ℕ
takes (Record.Atom rel i) = 0
takes Record.Not = 1
takes (Record.And m) = m
takes (Record.Or m) = m
takes (Record.ForAll v lo hi) = 1
takes (Record.Exists v lo hi) = 1

unfoldable pub gather : {A : Type 0} → List (Formula A) → Formulas A
gather [] = end
gather (c ∷ cs) = c ⨾ gather cs

-- where there is nothing to take: an accepted record never meets it
abbrev pub none : {A : Type 0} → Formula A
none = And end

-- the formula over node numbers that it finishes, from those that it takes, oldest first
unfoldable pub finish : Record → List (Formula ℕ) → Formula ℕ
finish (Record.Atom rel i) cs = Atom rel i
finish Record.Not cs = Not (get_or cs 0 none)
finish (Record.And m) cs = And (gather cs)
finish (Record.Or m) cs = Or (gather cs)
finish (Record.ForAll v lo hi) cs = ForAll v lo hi (get_or cs 0 none)
finish (Record.Exists v lo hi) cs = Exists v lo hi (get_or cs 0 none)

-- what the first k records leave finished, oldest first
unfoldable pub finished : List ℕ → ℕ → List (Formula ℕ)
finished b zero = []
finished b (suc k) =
    let before = finished b k in
    let base = length before - takes (record_at b k) in
    take base before ++ finish (record_at b k) (drop base before) ∷ []

-- what record k finishes
unfoldable pub formula_at : List ℕ → ℕ → Formula ℕ
formula_at b k =
    let before = finished b k in
    finish (record_at b k) (drop (length before - takes (record_at b k)) before)

-- and the constraint that it is over the nodes' bytes: each number's tree in its place
unfoldable pub constraint_at : List ℕ → List ℕ → ℕ → Constraint
constraint_at nodes b k = map_formula (tree_at nodes) (formula_at b k)

-- over n nodes: 5 constraint record, or too few finished constraints; 6 unsound range; 7 depth, quantifiers
unfoldable pub record_refusal : ℕ → List ℕ → ℕ → ℕ
record_refusal n b k =
    let new = formula_at b k in
    5 unless is_record n b k && leb (takes (record_at b k)) (length (finished b k))
    or_else 6 unless is_ranged (record_at b k)
    or_else 7 unless leb (levels new) 16 && leb (quantifiers new) 4

-- each of m records, then 7 unless just one is left
unfoldable pub records_refusal : ℕ → List ℕ → ℕ → ℕ
records_refusal n b m =
    first (record_refusal n b) m
    or_else 7 unless eqb (length (finished b m)) 1
