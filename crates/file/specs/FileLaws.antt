-- Laws of files that are laid out, and of files and records that are accepted: what a function that takes one cites. Assumes nothing.
use Rattle.std.specs.Prelude.{ℕ, ◌+◌, ◌*◌, ◌/◌, ◌%◌, ◌≤◌, ◌<◌, ◌≡◌, true, ◌&&◌, List, [], leb, eqb, length}
use Rattle.std.proofs.Common.{sym, arith, length-take}
use borrow.Author.Tests.{leb-true, eqb-true, le-leb}
use Rattle.std.specs.Float.{binary64}
use Rattle.std.proofs.Math.ListN.{length-drop}
use Rattle.number.specs.Sound.{sound}
use Rattle.record.specs.Bytes.{u32_at}
use Rattle.record.specs.Refusal.{◌unless◌, first}
use Rattle.record.specs.RefusalLaws.{is_refused, both, none_both, none_unless, none_of_each}
use Rattle.tree.specs.Nodes.{nodes_refusal, nodes_fit, list_refusal}
use Rattle.constraint.specs.Records.{records_refusal}
use Rattle.constraint.specs.RecordLaws.{only_left}
use Rattle.file.specs.File.{node_count, constraint_count, bound_count, constraints_from, bounds_from, nodes_of, constraints_of, bounds_of, is_headed, is_laid_out, bound_at, bounds, bound_refusal, refusal, Read, Refused, Accepted, read_by, left, read_file, is_counted, given_refusal, read_given}
use Rattle.file.specs.Code.{Laid}

-- ---- laid out
pub headed_long : (file : List ℕ) → is_headed file ≡ true → 32 ≤ length file
unfolding is_headed
headed_long file e =
    let h = leb 32 (length file) in
    let m = eqb (u32_at file 0) 0x514C4D45 in
    leb-true _ _ (both h m (both (h && m) (eqb (u32_at file 4) 1) e).0).0

pub laid : (file : List ℕ) → is_laid_out file ≡ true → Laid file
unfolding is_laid_out
laid file e =
    let a = leb (node_count file) 1024 in
    let b = leb (constraint_count file) 256 in
    let c = leb (bound_count file) 16 in
    let x = eqb (u32_at file 8) 32 in
    let y = eqb (u32_at file 16) (constraints_from file) in
    let z = eqb (u32_at file 24) (bounds_from file) in
    let s = eqb (length file) (bounds_from file + 16 * bound_count file) in
    let w₆ = both (a && b && c && x && y && z) s e in
    let w₅ = both (a && b && c && x && y) z w₆.0 in
    let w₄ = both (a && b && c && x) y w₅.0 in
    let w₃ = both (a && b && c) x w₄.0 in
    let w₂ = both (a && b) c w₃.0 in
    let w₁ = both a b w₂.0 in
    record { few_nodes = leb-true _ _ w₁.0; few_constraints = leb-true _ _ w₁.1; few_bounds = leb-true _ _ w₂.1; size = eqb-true _ _ w₆.1 }

module _ (file : List ℕ) (l : Laid file) where
  pub length_nodes : length (nodes_of file) ≡ 16 * node_count file
  unfolding nodes_of
  length_nodes = let s = l.size in simp (length-take, length-drop) (omega arith)

  pub length_constraints : length (constraints_of file) ≡ 24 * constraint_count file
  unfolding constraints_of
  length_constraints = let s = l.size in simp (length-take, length-drop) (omega arith)

  pub length_bounds : length (bounds_of file) ≡ 16 * bound_count file
  unfolding bounds_of
  length_bounds = let s = l.size in simp length-drop (omega arith)

-- a list that fits has only its nodes' refusals
pub list_is : (b : List ℕ) (n : ℕ) → nodes_fit (length b) n ≡ true → list_refusal b n ≡ nodes_refusal b n
unfolding list_refusal
list_is b n e = rw e

-- ---- records given
pub counted : (nodes b : List ℕ) → is_counted nodes b ≡ true → (length nodes / 16 ≤ 1024) × (length b / 24 ≤ 256)
unfolding is_counted
counted nodes b e =
    let a = eqb (length nodes % 16) 0 in
    let n = leb (length nodes / 16) 1024 in
    let c = eqb (length b % 24) 0 in
    let w₂ = both (a && n && c) (leb (length b / 24) 256) e in
    let w₁ = both (a && n) c w₂.0 in
    (leb-true _ _ (both a n w₁.0).1, leb-true _ _ w₂.1)

pub given_fit : (nodes : List ℕ) → length nodes / 16 ≤ 1024 → nodes_fit (length nodes) (length nodes / 16) ≡ true
unfolding nodes_fit
given_fit nodes h = rw (le-leb (length nodes / 16) 1024 h, le-leb (16 * (length nodes / 16)) (length nodes) (omega arith))

-- ---- what is refused with r
pub read_refused : (r n : ℕ) (x : Read) → r ≡ n → (r ≡ 0 → ⊥) → read_by n x ≡ Refused r
read_refused r n x e h = sym (is_refused Refused x e h)

pub file_refused : (file : List ℕ) (r : ℕ) → r ≡ refusal file → (r ≡ 0 → ⊥) → read_file file ≡ Refused r
unfolding read_file
file_refused file r e h = read_refused r _ _ e h

pub given_refused : (nodes b : List ℕ) (r : ℕ) → r ≡ given_refusal nodes b → (r ≡ 0 → ⊥) → read_given nodes b ≡ Refused r
unfolding read_given
given_refused nodes b r e h = read_refused r _ _ e h

-- ---- an accepted file
module _ (file : List ℕ) (e : refusal file ≡ 0) where
  passed : (is_headed file ≡ true) × (is_laid_out file ≡ true) × (nodes_refusal (nodes_of file) (node_count file) ≡ 0)
      × (records_refusal (node_count file) (constraints_of file) (constraint_count file) ≡ 0) × (first (bound_refusal (bounds_of file)) (bound_count file) ≡ 0)
  unfolding refusal
  passed =
      let w₁ = none_both (1 unless is_headed file) _ e in
      let w₂ = none_both (2 unless is_laid_out file) _ w₁.1 in
      let w₃ = none_both (nodes_refusal (nodes_of file) (node_count file)) _ w₂.1 in
      let w₄ = none_both (records_refusal (node_count file) (constraints_of file) (constraint_count file)) _ w₃.1 in
      (none_unless 0 (is_headed file) w₁.0, none_unless 1 (is_laid_out file) w₂.0, w₃.0, w₄.0, w₄.1)

  pub some_constraint : 0 < constraint_count file
  some_constraint = (only_left (node_count file) (constraints_of file) (constraint_count file) passed.3).0

  pub bound_sound : (k : ℕ) → k < bound_count file → sound binary64 (bound_at (bounds_of file) k).lo (bound_at (bounds_of file) k).hi ≡ true
  unfolding bound_refusal
  bound_sound k l = none_unless 5 _ (none_of_each (bound_refusal (bounds_of file)) (bound_count file) passed.4 k l)

  pub read_is : read_file file ≡ Accepted (left (nodes_of file) (constraints_of file) (constraint_count file)) (bounds (bounds_of file) (bound_count file))
  unfolding read_file
  read_is = rw e

-- ---- accepted records
module _ (nodes b : List ℕ) (e : given_refusal nodes b ≡ 0) where
  pub passed_given : (is_counted nodes b ≡ true) × (nodes_refusal nodes (length nodes / 16) ≡ 0) × (records_refusal (length nodes / 16) b (length b / 24) ≡ 0)
  unfolding given_refusal
  passed_given =
      let w₁ = none_both (2 unless is_counted nodes b) _ e in
      let w₂ = none_both (nodes_refusal nodes (length nodes / 16)) _ w₁.1 in
      (none_unless 1 (is_counted nodes b) w₁.0, w₂.0, w₂.1)

  pub given_is : read_given nodes b ≡ Accepted (left nodes b (length b / 24)) []
  unfolding read_given
  given_is = rw e
