-- Each way out of the tests of a file's bodies and of records that are given. Assumes nothing.
use Prim.Native.Nat.{ℕ, zero, suc, ◌<◌, ◌≤◌, ◌/◌}
use mathlib.Core.Path.{◌≡◌, refl, sym, ap, ◌∙◌}
use mathlib.Core.Bool.{false}
use mathlib.Core.List.{List, []}
use native.Mathlib.Numerals.{add-one}
use native.Mathlib.Omega.{arith}
use lib.Ieee.{binary64}
use lib.ListN.{length}
use lib.Seq.{take-suc-set}
use Rattle.std.specs.Prelude.{Result, Ok, Err, IfOk}
use Rattle.number.specs.Sound.{sound}
use Rattle.record.specs.Refusal.{◌or_else◌, ◌unless◌, first}
use Rattle.record.specs.RefusalLaws.{refuses_first, or_else_none, none_more, first_here}
use Rattle.record.specs.Refused.{refusal_of, number_of}
use Rattle.record.specs.declared.refusal.Refusal.{Refusal}
use Rattle.tree.specs.Nodes.{nodes_refusal}
use Rattle.tree.specs.NodeLaws.{list_valid}
use Rattle.interval.specs.Views.{intervals_of}
use Rattle.interval.specs.declared.domain.Domain.{Domain}
use Rattle.constraint.specs.Records.{records_refusal}
use Rattle.constraint.specs.Views.{the_constraint}
use Rattle.constraint.specs.declared.records.Records.{Records}
use Rattle.file.specs.File.{node_count, constraint_count, bound_count, nodes_of, constraints_of, bounds_of, is_headed, is_laid_out, bound_at, bounds, bound_refusal, refusal, Accepted, read_file, given_refusal, read_given}
use Rattle.file.specs.Code.{Laid, Holds, header_refusal}
use Rattle.file.specs.FileLaws.{list_is, given_fit, length_nodes, length_constraints, length_bounds, read_is, given_is}

-- ---- the tests of the bounds
pub unsound : (b : List ℕ) (k n : ℕ) → first (bound_refusal b) k ≡ 0 → k < n → sound binary64 (bound_at b k).lo (bound_at b k).hi ≡ false → 6 ≡ first (bound_refusal b) n
unfolding bound_refusal
unsound b k n e l s = sym (first_here (bound_refusal b) 5 k e (simp s) n l)

-- ---- a file, by its tests
or_else_assoc : (a b c : ℕ) → ((a or_else b) or_else c) ≡ (a or_else (b or_else c))
or_else_assoc zero b c = refl
or_else_assoc (suc a) b c = refl

-- what the header's tests refuse
pub header_refused : (file : List ℕ) (r : Refusal) → number_of r ≡ header_refusal file → number_of r ≡ refusal file
unfolding refusal header_refusal
header_refused file r e = refuses_first r e _ ∙ or_else_assoc (1 unless is_headed file) (2 unless is_laid_out file) _

-- of its bodies, as they are read
module _ (file : List ℕ) (l : Laid file) where
  nodes_counted : {nodes : List ℕ} → nodes ≡ nodes_of file → length nodes / 16 ≡ node_count file
  nodes_counted e = omega (arith, ap length e, length_nodes file l)

  constraints_counted : {b : List ℕ} → b ≡ constraints_of file → length b / 24 ≡ constraint_count file
  constraints_counted e = omega (arith, ap length e, length_constraints file l)

  bounds_counted : {c : List ℕ} → c ≡ bounds_of file → length c / 16 ≡ bound_count file
  bounds_counted e = omega (arith, ap length e, length_bounds file l)

  pub few_nodes : {nodes : List ℕ} → nodes ≡ nodes_of file → length nodes / 16 ≤ 1024
  few_nodes e = omega (arith, l.few_nodes, nodes_counted e)

  pub few_constraints : {b : List ℕ} → b ≡ constraints_of file → length b / 24 ≤ 256
  few_constraints e = omega (arith, l.few_constraints, constraints_counted e)

  pub few_bounds : {c : List ℕ} → c ≡ bounds_of file → length c / 16 ≤ 16
  few_bounds e = omega (arith, l.few_bounds, bounds_counted e)

  module _ (headed : 0 ≡ header_refusal file) {nodes b : List ℕ} (en : nodes ≡ nodes_of file) (eb : b ≡ constraints_of file) where
    by_tests : (nodes_refusal nodes (length nodes / 16) or_else records_refusal (length nodes / 16) b (length b / 24) or_else first (bound_refusal (bounds_of file)) (bound_count file)) ≡ refusal file
    unfolding refusal header_refusal
    by_tests =
        rw (nodes_counted en, constraints_counted eb, en, eb)
        (or_else_none _ _ (sym headed) ∙ or_else_assoc (1 unless is_headed file) (2 unless is_laid_out file) _)

    pub records_refused : (r : Refusal) → number_of r ≡ (nodes_refusal nodes (length nodes / 16) or_else records_refusal (length nodes / 16) b (length b / 24)) → number_of r ≡ refusal file
    records_refused r e = refuses_first r e _ ∙ or_else_assoc (nodes_refusal nodes (length nodes / 16)) _ _ ∙ by_tests

    module _ (read : 0 ≡ (nodes_refusal nodes (length nodes / 16) or_else records_refusal (length nodes / 16) b (length b / 24))) {c : List ℕ} (ec : c ≡ bounds_of file) where
      pub by_bounds : {m : ℕ} → m ≡ first (bound_refusal c) (length c / 16) → m ≡ refusal file
      by_bounds e = e ∙ rw (bounds_counted ec, ec) (or_else_none _ _ (sym read) ∙ or_else_assoc (nodes_refusal nodes (length nodes / 16)) _ _ ∙ by_tests)

      pub file_is : 0 ≡ first (bound_refusal c) (length c / 16) → (r : Records) (d : Domain) → Holds nodes b r → intervals_of d ≡ bounds c (length c / 16) → read_file file ≡ Accepted (the_constraint r) (intervals_of d)
      file_is z r d k e = rw (k.nodes_are, k.constraints_are, k.counted, constraints_counted eb, e, bounds_counted ec, en, eb, ec) (read_is file (sym (by_bounds z)))

-- ---- records that are given
pub given_read : (nodes b : List ℕ) (x : Result Records Refusal) → refusal_of x ≡ given_refusal nodes b → IfOk x (Holds nodes b) → IfOk x (λ r. read_given nodes b ≡ Accepted (the_constraint r) [])
given_read nodes b (Ok r) e h = rw (h.nodes_are, h.constraints_are, h.counted) (given_is nodes b (sym e))
given_read nodes b (Err r) e h = tt

pub ruleset file_tests = (header_refused, few_nodes, few_constraints, few_bounds, records_refused, by_bounds, file_is)

pub ruleset bound_tests = (none_more, unsound, take-suc-set, add-one)

pub ruleset record_tests = (refuses_first, or_else_none, list_valid, list_is, given_fit)
