-- Where each constraint starts, by which a recursion on record numbers finds those that a record takes; and what is known of records that passed.
use Rattle.std.specs.Prelude.{ℕ, zero, suc, ◌*◌, ◌-◌, ◌≤◌, ◌<◌, ◌≡◌, eqb, List, [], ◌∷◌, ◌++◌, map, length, get_or, set, take, drop}
use Rattle.number.specs.Notation.{when◌then◌else◌}
use Rattle.record.specs.Refusal.{first}
use Rattle.tree.specs.Nodes.{tree_at, Valid}
use Rattle.constraint.specs.Constraint.{Formula, Constraint, map_formula}
use Rattle.constraint.specs.Records.{record_at, takes, formula_at, record_refusal}

-- the first record of each constraint that is finished before record k: that of the oldest that it takes, or its own
unfoldable pub begun : List ℕ → ℕ → List ℕ
begun b zero = []
begun b (suc k) =
    let before = begun b k in
    let base = length before - takes (record_at b k) in
    take base before ++ get_or (drop base before) 0 k ∷ []

-- and of the constraint that record k finishes
unfoldable pub start_at : List ℕ → ℕ → ℕ
start_at b k =
    let before = begun b k in
    get_or (drop (length before - takes (record_at b k)) before) 0 k

-- the last m formulas that are finished before record k, oldest first, by their starts
unfoldable pub formulas_to : List ℕ → ℕ → ℕ → List (Formula ℕ)
formulas_to b zero k = []
formulas_to b (suc m) zero = []
formulas_to b (suc m) (suc k) = formulas_to b m (start_at b k) ++ formula_at b k ∷ []

-- and the constraints that they are
unfoldable pub up_to : List ℕ → List ℕ → ℕ → ℕ → List Constraint
up_to nodes b m k = map (map_formula (tree_at nodes)) (formulas_to b m k)

-- how many of n tests come before the first that refuses
unfoldable pub passing : (ℕ → ℕ) → ℕ → ℕ
passing refusal zero = 0
passing refusal (suc n) = when eqb (first refusal (suc n)) 0 then suc n else passing refusal n

-- a list whose first n places a loop has filled: place k with f k
unfoldable pub filled : (ℕ → ℕ) → ℕ → List ℕ → List ℕ
filled f zero before = before
filled f (suc n) before = set (filled f n before) n (f n)

-- a list whose first places the tests of n records over `count` nodes have filled: with the start of each that comes before the first refused
abbrev pub starts_of : ℕ → List ℕ → ℕ → List ℕ → List ℕ
starts_of count b n before = filled (start_at b) (passing (record_refusal count b) n) before

-- the first n records passed, over `count` nodes that did
pub record Ready (nodes : List ℕ) (count : ℕ) (b : List ℕ) (n : ℕ) : Type 0 where
  pub valid : Valid nodes count
  pub few : n ≤ 256
  pub there : 24 * n ≤ length b
  pub passed : (k : ℕ) → k < n → record_refusal count b k ≡ 0

-- a list of 256 places whose first n have the first record of each constraint
pub record Begun (b : List ℕ) (n : ℕ) (starts : List ℕ) : Type 0 where
  pub room : length starts ≡ 256
  pub begins : (k : ℕ) → k < n → get_or starts k 0 ≡ start_at b k
