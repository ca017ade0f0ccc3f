-- What `to_nnf` writes, read again, is the normal form of the constraint that was given. Assumes nothing.
use Rattle.std.specs.Prelude.{ℕ, ◌+◌, ◌*◌, ◌-◌, ◌/◌, ◌%◌, ◌≤◌, ◌≡◌, true, ◌&&◌, Ok, List, [], ◌++◌, take, drop}
use Rattle.std.proofs.Common.{sym, ◌∙◌, arith}
use Rattle.std.proofs.Math.Path.{ap}
use borrow.Author.Tests.{leb-true, le-leb}
use Rattle.std.proofs.Math.Dec.{leb, eqb}
use Rattle.std.proofs.Math.ListN.{length}
use Rattle.std.proofs.lemmas.List.Edits.{sets, sets-eq}
use Rattle.std.proofs.Math.Seq.{take-append_seam}
use Rattle.record.specs.Leaving.{◌leaving◌, same_answer, same_places}
use Rattle.record.specs.RefusalLaws.{both, none_both, none_unless, not_refused}
use Rattle.tree.specs.Nodes.{tree_at}
use Rattle.tree.specs.CanonicalLaws.{refused_at}
use Rattle.constraint.specs.declared.Record.{Record}
use Rattle.constraint.specs.Constraint.{Formula, Constraint, levels, quantifiers}
use Rattle.constraint.specs.Records.{formula_at, constraint_at, records_refusal}
use Rattle.constraint.specs.Encoding.{records_bytes}
use Rattle.constraint.specs.Writing.{length_records}
use Rattle.constraint.specs.RecordLaws.{Stands, each_stands, only_left}
use Rattle.constraint.specs.Fitting.{Fitting, left_fitting}
use Rattle.constraint.specs.Passing.{written_accepted, written_is}
use Rattle.file.specs.File.{Accepted, left, is_counted, given_refusal, read_given}
use Rattle.file.specs.FileLaws.{passed_given, counted, given_is}
use Rattle.normal.specs.NormalForm.{to_nnf}
use Rattle.normal.specs.NormalLaws.{nnf_map, nnf_levels, nnf_quantifiers, nnf_fitting}
use Rattle.normal.specs.Given.{nnf_records, nnf_refusal, to_nnf_given}
use Rattle.normal.specs.Counting.{kept_few, nnf_count}

-- ---- the records of the normal form of what accepted records leave
module _ (nodes b : List ℕ) (e : given_refusal nodes b ≡ 0) where
  abbrev count : ℕ
  count = length nodes / 16

  abbrev n : ℕ
  n = length b / 24

  abbrev rs : List Record
  rs = nnf_records b n

  abbrev new : List ℕ
  new = records_bytes rs

  limits : (count ≤ 1024) × (n ≤ 256)
  limits = counted nodes b (passed_given nodes b e).0

  passed : records_refusal count b n ≡ 0
  passed = (passed_given nodes b e).2

  -- what they leave, over node numbers
  abbrev c : Formula ℕ
  c = formula_at b (n - 1)

  stands : Stands count b (n - 1)
  stands = each_stands count b n passed (n - 1) (omega (arith, (only_left count b n passed).0))

  fitting : Fitting count (to_nnf c)
  fitting = nnf_fitting count c (left_fitting count b n (omega (arith, limits.1)) passed)

  levels_few : levels (to_nnf c) ≤ 16
  levels_few = omega (arith, nnf_levels c, stands.shallow)

  quantifiers_few : quantifiers (to_nnf c) ≤ 4
  quantifiers_few = omega (arith, nnf_quantifiers c, stands.few)

  records_accepted : records_refusal count new (length rs) ≡ 0
  unfolding nnf_records
  records_accepted = written_accepted count limits.0 (to_nnf c) fitting levels_few quantifiers_few

  formula_is : formula_at new (length rs - 1) ≡ to_nnf c
  unfolding nnf_records
  formula_is = written_is count limits.0 (to_nnf c) fitting levels_few quantifiers_few

  length_new : length new / 24 ≡ length rs
  length_new = omega (arith, length_records rs)

  few_records : length rs ≤ 256
  few_records = omega (arith, nnf_count count b n passed, kept_few b n, limits.1)

  nodes_whole : eqb (length nodes % 16) 0 ≡ true
  unfolding is_counted
  nodes_whole =
      let x = eqb (length nodes % 16) 0 in
      let y = leb count 1024 in
      let z = eqb (length b % 24) 0 in
      (both x y (both (x && y) z (both (x && y && z) (leb n 256) (passed_given nodes b e).0).0).0).0

  new_whole : length new % 24 ≡ 0
  new_whole = omega (arith, length_records rs)

  accepted : given_refusal nodes new ≡ 0
  unfolding given_refusal is_counted
  accepted =
      rw (
        nodes_whole,
        le-leb count 1024 limits.0,
        new_whole,
        length_new,
        le-leb (length rs) 256 few_records,
        (passed_given nodes b e).1,
        records_accepted,
      )

  read_again : read_given nodes new ≡ Accepted (to_nnf (left nodes b n)) []
  unfolding constraint_at
  read_again = given_is nodes new accepted ∙ rw (length_new, formula_is, nnf_map (tree_at nodes) c)

-- ---- what a caller receives: the first m records of the output
module _ (nodes b out : List ℕ) where
  no_refusal : nnf_refusal nodes b out ≡ 0 → (given_refusal nodes b ≡ 0) × (24 * length (nnf_records b (length b / 24)) ≤ length out)
  unfolding nnf_refusal
  no_refusal e =
      let w = none_both (given_refusal nodes b) _ e in
      (w.0, leb-true _ _ (none_unless 9 (leb (24 * length (nnf_records b (length b / 24))) (length out)) w.1))

  first_records : (rs : List Record) → 24 * length rs ≤ length out → take (24 * length rs) (sets out 0 (records_bytes rs)) ≡ records_bytes rs
  first_records rs h =
      let l = length_records rs in
      ap (take (24 * length rs)) (sets-eq (records_bytes rs) out 0 (omega arith))
      ∙ ap (λ (i : ℕ). take i (records_bytes rs ++ drop (0 + length (records_bytes rs)) out)) (sym l)
      ∙ take-append_seam (records_bytes rs) (drop (0 + length (records_bytes rs)) out)

  -- records that say c, and the records that the call wrote for them
  pub reads_back : (c : Constraint) (m : ℕ) (o : List ℕ) → read_given nodes b ≡ Accepted c [] → to_nnf_given nodes b out ≡ (Ok m leaving o) →
      read_given nodes (take (24 * m) o) ≡ Accepted (to_nnf c) []
  unfolding to_nnf_given
  reads_back c m o r e =
      let w = not_refused (nnf_refusal nodes b out) _ _ (λ r. refused_at) e in
      let count : length (nnf_records b (length b / 24)) ≡ m = cc (same_answer w.1) in
      let f = no_refusal w.0 in
      let k : left nodes b (length b / 24) ≡ c = cc (given_is nodes b f.0, r) in
      rw (← count, ← same_places w.1, first_records (nnf_records b (length b / 24)) f.1) (read_again nodes b f.0 ∙ ap (λ (d : Constraint). Accepted (to_nnf d) []) k)
