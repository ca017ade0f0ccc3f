-- What a comparison writes is the Rust's constraint: the atom on x - y. Assumes nothing.
use Prim.Native.Nat.{ℕ, ◌+◌, ◌*◌, ◌≤◌, ◌<◌}
use Rattle.std.specs.Prelude.{◌≡◌, true, Ok, leb, length, get_or}
use Rattle.std.proofs.Common.{sym, ◌∙◌, zero-add, arith}
use Rattle.std.proofs.Math.Path.{ap}
use mathlib.Core.List.{List}
use borrow.Author.Tests.{leb-true}
use Rattle.std.proofs.Math.Seq.{sets}
use Rattle.record.specs.Leaving.{◌leaving◌, same_answer, same_places}
use Rattle.record.specs.Refusal.{first}
use Rattle.record.specs.RefusalLaws.{none_both, none_unless, not_refused}
use Rattle.record.specs.ByteLaws.{sets_at}
use Rattle.tree.specs.Tree.{Tree}
use Rattle.tree.specs.Nodes.{tree_at}
use Rattle.tree.specs.Encoding.{nodes_bytes}
use Rattle.tree.specs.Canonical.{sub_nodes, sub_refusal, sub_tree, sub, append}
use Rattle.tree.specs.CanonicalLaws.{Means, sub_accepted, sub_appends, refused_at}
use Rattle.constraint.specs.Constraint.{Atom, map_formula, levels, quantifiers}
use Rattle.constraint.specs.Records.{record_at, is_record, finish, finished, formula_at, constraint_at, record_refusal, records_refusal}
use Rattle.constraint.specs.Writing.{length_record, record_same, is_record_same, read_back, is_record_written}
use Rattle.constraint.specs.Encoding.{record_bytes}
use Rattle.constraint.specs.Comparison.{compare_refusal, compared}
use Rattle.constraint.specs.declared.Relation.{Relation}
use Rattle.constraint.specs.declared.Record.{Record}

-- ---- the record, read back
module _ (rel : Relation) (i : ℕ) (out : List ℕ) (few : i < 1024) (room : 24 ≤ length out) where
  abbrev written : List ℕ
  written = sets out 0 (record_bytes (Record.Atom rel i))

  byte : (q : ℕ) → q < 24 → get_or written (24 * 0 + q) 0 ≡ get_or (record_bytes (Record.Atom rel i)) (24 * 0 + q) 0
  byte q h =
      sets_at (record_bytes (Record.Atom rel i)) out 0 q (omega (arith, length_record (Record.Atom rel i))) (omega (arith, length_record (Record.Atom rel i)))
      ∙ ap (λ (m : ℕ). get_or (record_bytes (Record.Atom rel i)) m 0) (sym (zero-add q))

  record_is : record_at written 0 ≡ Record.Atom rel i
  record_is = record_same written (record_bytes (Record.Atom rel i)) 0 0 byte ∙ read_back 1024 (omega arith) (Record.Atom rel i) few

  passes : (n : ℕ) → n ≤ 1024 → i < n → is_record n written 0 ≡ true
  passes n l h = is_record_same written (record_bytes (Record.Atom rel i)) 0 0 byte n ∙ is_record_written n l (Record.Atom rel i) h

  -- alone it is a whole constraint, over a list that has its node
  alone : (nodes : List ℕ) (n : ℕ) → n ≤ 1024 → i < n → (constraint_at nodes written 0 ≡ Atom rel (tree_at nodes i)) × (records_refusal n written 1 ≡ 0)
  alone nodes n l h = (unfold constraint_at map_formula in ap (map_formula (tree_at nodes)) is, accepted)
    where
      is : formula_at written 0 ≡ Atom rel i
      is = unfold formula_at finish finished in rw record_is

      here : record_refusal n written 0 ≡ 0
      here = unfold record_refusal finished levels quantifiers in rw (is, passes n l h, record_is)

      accepted : records_refusal n written 1 ≡ 0
      accepted = unfold records_refusal first finished in rw (here, record_is)

-- ---- a comparison, by its outcome
pub record Compares (rel : Relation) (b c o : List ℕ) (n k : ℕ) (t : Tree) : Type 0 where
  pub appended : Means b c n k t
  pub written_is : constraint_at c o 0 ≡ Atom rel t
  pub accepted : records_refusal (k + 1) o 1 ≡ 0

module _ (rel : Relation) (b : List ℕ) (n x y : ℕ) (out : List ℕ) where
  no_refusal : compare_refusal b n x y out ≡ 0 → (sub_refusal b n x y ≡ 0) × (24 ≤ length out)
  unfolding compare_refusal
  no_refusal e = let w = none_both (sub_refusal b n x y) _ e in (w.0, leb-true _ _ (none_unless 9 (leb 24 (length out)) w.1))

  as_sub : sub_refusal b n x y ≡ 0 → sub b n x y ≡ append 0 b n (sub_nodes n x y) (n + 6)
  unfolding sub
  as_sub z = ap (λ (r : ℕ). append r b n (sub_nodes n x y) (n + 6)) z

  pub compares : (k : ℕ) (c o : List ℕ) → compared rel b n x y out ≡ (Ok k leaving (c, o)) → Compares rel b c o n k (sub_tree (tree_at b x) (tree_at b y))
  unfolding compared
  compares k c o e =
      let w = not_refused (compare_refusal b n x y out) _ _ (λ m. refused_at) e in
      let at : n + 6 ≡ k = cc (same_answer w.1) in
      let places = same_places w.1 in
      let f = no_refusal w.0 in
      let a = sub_accepted b n x y f.0 in
      let l = sets b (16 * n) (nodes_bytes (sub_nodes n x y)) in
      let m = sub_appends b n x y (n + 6) l (as_sub f.0) in
      let s = alone rel (n + 6) out (omega arith) f.1 l (n + 6 + 1) (omega (arith, a.2.few)) (omega arith) in
      rw (← at, ← ap (λ (l : List ℕ × List ℕ). l.0) places, ← ap (λ (l : List ℕ × List ℕ). l.1) places) (record { appended = m; written_is = s.0 ∙ ap (Atom rel) m.result; accepted = s.1 })
