-- The call on records that are given: they are counted, and there is room for as many. Assumes nothing.
use Prim.Native.Nat.{ℕ, ◌+◌, ◌-◌, ◌*◌, ◌/◌, ◌≤◌}
use mathlib.Core.Path.{◌≡◌, refl, sym, ap}
use mathlib.Core.List.{List}
use native.Mathlib.Omega.{arith}
use lib.ListN.{length}
use Rattle.record.specs.RefusalLaws.{refuses_first}
use Rattle.constraint.specs.declared.records.Records.{Records}
use Rattle.file.specs.File.{given_refusal}
use Rattle.file.specs.Code.{Holds}
use Rattle.file.specs.FileLaws.{passed_given}
use Rattle.normal.specs.Written.{nnf_at}
use Rattle.normal.specs.Given.{count_kept, nnf_records}
use Rattle.normal.specs.Counting.{nnf_count}

module _ (nodes b : List ℕ) (e : 0 ≡ given_refusal nodes b) (r : Records) (p : Holds nodes b r) where
  pub counted : length (nnf_records b (length b / 24)) ≡ count_kept r.constraints.now r.count
  counted = rw (p.constraints_are, p.counted) (nnf_count (length nodes / 16) b (length b / 24) (passed_given nodes b (sym e)).2)

  pub root_is : nnf_at r (r.count - 1) ≡ nnf_records b (length b / 24)
  unfolding nnf_records nnf_at
  root_is = rw (p.constraints_are, p.counted) refl

  pub room : {c : ℕ} → c ≡ count_kept r.constraints.now r.count → (out : List ℕ) → 24 * c ≤ length out → 24 * (0 + length (nnf_at r (r.count - 1))) ≤ length out
  room f out h = omega (arith, counted, ap length root_is)

pub ruleset call_tests = (refuses_first, counted, root_is)
