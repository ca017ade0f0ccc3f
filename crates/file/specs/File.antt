-- The house file (document 01, "The file") and the refusals that its writer can cause, 1 to 7; and the same of records given without a file.
use Rattle.std.specs.Prelude.{ℕ, zero, suc, ◌+◌, ◌*◌, ◌-◌, ◌/◌, ◌%◌, Bool, ◌&&◌, List, [], ◌∷◌, ◌++◌, leb, eqb, length, take, drop}
use Rattle.std.specs.Float.{binary64}
use Rattle.number.specs.Sound.{sound}
use Rattle.record.specs.Bytes.{u32_at, f64_at}
use Rattle.record.specs.Refusal.{◌or_else◌, ◌unless◌, refused_or, first}
use Rattle.tree.specs.Nodes.{nodes_refusal}
use Rattle.constraint.specs.Constraint.{Constraint}
use Rattle.constraint.specs.Records.{constraint_at, records_refusal}
use Rattle.interval.specs.Interval.{◌‥◌}
use Rattle.interval.specs.declared.Interval.{Interval}

-- ---- the contents: for nodes, constraints and bounds an offset and a count
abbrev pub node_count : List ℕ → ℕ
node_count file = u32_at file 12

abbrev pub constraint_count : List ℕ → ℕ
constraint_count file = u32_at file 20

abbrev pub bound_count : List ℕ → ℕ
bound_count file = u32_at file 28

-- where the constraints and the bounds start: without gaps
abbrev pub constraints_from : List ℕ → ℕ
constraints_from file = 32 + 16 * node_count file

abbrev pub bounds_from : List ℕ → ℕ
bounds_from file = constraints_from file + 24 * constraint_count file

-- the bodies
unfoldable pub nodes_of : List ℕ → List ℕ
nodes_of file = take (16 * node_count file) (drop 32 file)

unfoldable pub constraints_of : List ℕ → List ℕ
constraints_of file = take (24 * constraint_count file) (drop (constraints_from file) file)

unfoldable pub bounds_of : List ℕ → List ℕ
bounds_of file = drop (bounds_from file) file

-- ---- 1: 32 bytes; "EMLQ", 1, 0, 0, 0
unfoldable pub is_headed : List ℕ → Bool
is_headed file = leb 32 (length file) && eqb (u32_at file 0) 0x514C4D45 && eqb (u32_at file 4) 1

-- ---- 2: counts, offsets, length
unfoldable pub is_laid_out : List ℕ → Bool
is_laid_out file =
    leb (node_count file) 1024
    && leb (constraint_count file) 256
    && leb (bound_count file) 16
    && eqb (u32_at file 8) 32
    && eqb (u32_at file 16) (constraints_from file)
    && eqb (u32_at file 24) (bounds_from file)
    && eqb (length file) (bounds_from file + 16 * bound_count file)

-- ---- bounds, 16 bytes each: lo, hi
unfoldable pub bound_at : List ℕ → ℕ → Interval
bound_at b k = f64_at b (16 * k) ‥ f64_at b (16 * k + 8)

unfoldable pub bounds : List ℕ → ℕ → List Interval
bounds b zero = []
bounds b (suc n) = bounds b n ++ bound_at b n ∷ []

unfoldable pub bound_refusal : List ℕ → ℕ → ℕ
bound_refusal b k = 6 unless sound binary64 (bound_at b k).lo (bound_at b k).hi

-- ---- the refusal of a file: 1, 2; each node 3, 4; each constraint 5, 6, 7; the remainder 7; bounds 6
unfoldable pub refusal : List ℕ → ℕ
refusal file =
    1 unless is_headed file
    or_else 2 unless is_laid_out file
    or_else nodes_refusal (nodes_of file) (node_count file)
    or_else records_refusal (node_count file) (constraints_of file) (constraint_count file)
    or_else first (bound_refusal (bounds_of file)) (bound_count file)

-- what a file says, or its refusal
pub data Read : Type 0 where
  Refused : ℕ → Read
  Accepted : Constraint → List Interval → Read

abbrev pub read_by : ℕ → Read → Read
read_by r x = refused_or r Refused x

-- the one constraint that n records leave: what the last of them finishes. Where just one stays, it is that (`RecordLaws.only_left`).
abbrev pub left : List ℕ → List ℕ → ℕ → Constraint
left nodes b n = constraint_at nodes b (n - 1)

unfoldable pub read_file : List ℕ → Read
read_file file =
    read_by (refusal file)
    (Accepted (left (nodes_of file) (constraints_of file) (constraint_count file)) (bounds (bounds_of file) (bound_count file)))

-- ---- node records and constraint records in the place of a file: as many as the bytes make; 2 where they make no whole number of them, or too many
unfoldable pub is_counted : List ℕ → List ℕ → Bool
is_counted nodes b = eqb (length nodes % 16) 0 && leb (length nodes / 16) 1024 && eqb (length b % 24) 0 && leb (length b / 24) 256

unfoldable pub given_refusal : List ℕ → List ℕ → ℕ
given_refusal nodes b =
    2 unless is_counted nodes b
    or_else nodes_refusal nodes (length nodes / 16)
    or_else records_refusal (length nodes / 16) b (length b / 24)

unfoldable pub read_given : List ℕ → List ℕ → Read
read_given nodes b = read_by (given_refusal nodes b) (Accepted (left nodes b (length b / 24)) [])
