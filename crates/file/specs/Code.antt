-- What the code knows of a file that is laid out, and of records that it read.
use Rattle.std.specs.Prelude.{ℕ, ◌+◌, ◌*◌, ◌/◌, ◌≤◌, ◌≡◌, List, length}
use Rattle.record.specs.Refusal.{◌or_else◌, ◌unless◌}
use Rattle.constraint.specs.declared.records.Records.{Records}
use Rattle.file.specs.File.{node_count, constraint_count, bound_count, bounds_from, is_headed, is_laid_out}

pub record Laid (file : List ℕ) : Type 0 where
  pub few_nodes : node_count file ≤ 1024
  pub few_constraints : constraint_count file ≤ 256
  pub few_bounds : bound_count file ≤ 16
  pub size : length file ≡ bounds_from file + 16 * bound_count file

-- the first two tests
unfoldable pub header_refusal : List ℕ → ℕ
header_refusal file = 1 unless is_headed file or_else 2 unless is_laid_out file

-- the records are those of these bytes, as many as they make
pub record Holds (nodes b : List ℕ) (r : Records) : Type 0 where
  pub nodes_are : r.nodes.now ≡ nodes
  pub constraints_are : r.constraints.now ≡ b
  pub nodes_counted : r.node_count ≡ length nodes / 16
  pub counted : r.count ≡ length b / 24
