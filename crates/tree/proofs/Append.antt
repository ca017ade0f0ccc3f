-- The refusals of an append, from its tests one by one. Assumes nothing.
use Prim.Native.Nat.{ℕ, zero, suc, ◌*◌, ◌≤◌, ◌<◌}
use Rattle.std.specs.Prelude.{◌≡◌, ◌⊎◌, ◌&&◌, List, ltb, length, Ok, Err}
use Rattle.std.proofs.Common.{refl, sym, ap, ◌∙◌, ⊎_elim, ltb-true}
use mathlib.Core.Bool.{and_self}
use borrow.Author.Tests.{lt-ltb, le-ltb}
use Rattle.record.specs.Refusal.{◌or_else◌}
use Rattle.record.specs.RefusalLaws.{both, none_both, none_unless, never_none, refuses_first, is_refused, is_answered}
use Rattle.record.specs.Refused.{number_of}
use Rattle.record.specs.Leaving.{◌leaving◌}
use Rattle.std.proofs.lemmas.List.Edits.{sets}
use Rattle.record.specs.declared.refusal.Refusal.{Refusal}
use Rattle.tree.specs.Tree.{Tree, size, depth, is_small}
use Rattle.tree.specs.Nodes.{tree_at, list_refusal, Valid}
use Rattle.tree.specs.NodeLaws.{list_valid}
use Rattle.tree.specs.Code.{IsExtent, operands_refusal, result_refusal}
use Rattle.tree.specs.Canonical.{ln_tree, append_refusal, ln_refusal, append}
use Rattle.tree.specs.Encoding.{nodes_bytes}
use Rattle.tree.specs.declared.Node.{Node}
use Rattle.tree.specs.declared.Extent.{Extent}

-- ---- before the result
module _ (b : List ℕ) (n x y : ℕ) where
  pub unnamed : 0 ≡ list_refusal b n → (n ≤ x) ⊎ ((x < n) × (n ≤ y)) → 3 ≡ operands_refusal b n x y
  unfolding operands_refusal
  unnamed none = ⊎_elim (λ h. simp (sym none, le-ltb _ _ h)) (λ (g, h). simp (sym none, lt-ltb _ _ g, le-ltb _ _ h))

  pub named : 0 ≡ list_refusal b n → x < n → y < n → 0 ≡ operands_refusal b n x y
  unfolding operands_refusal
  named none g h = simp (sym none, lt-ltb _ _ g, lt-ltb _ _ h)

  pub operands_known : 0 ≡ operands_refusal b n x y → Valid b n × (x < n) × (y < n)
  unfolding operands_refusal
  operands_known e =
      let w = none_both (list_refusal b n) _ (sym e) in
      let v = both (ltb x n) (ltb y n) (none_unless 2 (ltb x n && ltb y n) w.1) in
      (list_valid b n w.0, ltb-true _ _ v.0, ltb-true _ _ v.1)

-- ---- and from it on: the whole of an append's
or_else_assoc : (a c d : ℕ) → ((a or_else c) or_else d) ≡ (a or_else c or_else d)
or_else_assoc zero c d = refl
or_else_assoc (suc a) c d = refl

module _ (b : List ℕ) (n x y m : ℕ) (t : Tree) where
  parts : (e : Extent) → IsExtent t e →
      (operands_refusal b n x y or_else result_refusal (length b) n m e) ≡ append_refusal b n (ltb x n && ltb y n) t m
  unfolding operands_refusal append_refusal result_refusal is_small
  parts e h = or_else_assoc (list_refusal b n) _ _ ∙ simp (h.0, h.1)

  pub early : (r : Refusal) → number_of r ≡ operands_refusal b n x y → number_of r ≡ append_refusal b n (ltb x n && ltb y n) t m
  early r e = refuses_first r e _ ∙ parts (record { size = size t; depth = depth t }) (refl, refl)

  pub late : 0 ≡ operands_refusal b n x y → (e : Extent) → IsExtent t e →
      result_refusal (length b) n m e ≡ append_refusal b n (ltb x n && ltb y n) t m
  late none e h = ap (λ (r : ℕ). r or_else result_refusal (length b) n m e) none ∙ parts e h

module _ (b : List ℕ) (n x : ℕ) where
  ln_is : append_refusal b n (ltb x n && ltb x n) (ln_tree (tree_at b x)) 4 ≡ ln_refusal b n x
  unfolding ln_refusal
  ln_is = simp and_self

  pub ln_early : (r : Refusal) → number_of r ≡ operands_refusal b n x x → number_of r ≡ ln_refusal b n x
  ln_early r e = early b n x x 4 (ln_tree (tree_at b x)) r e ∙ ln_is

  pub ln_late : 0 ≡ operands_refusal b n x x → (e : Extent) → IsExtent (ln_tree (tree_at b x)) e → result_refusal (length b) n 4 e ≡ ln_refusal b n x
  ln_late none e h = late b n x x 4 (ln_tree (tree_at b x)) none e h ∙ ln_is

-- ---- the outcome
module _ (b : List ℕ) (n : ℕ) (xs : List (Node ℕ)) (last : ℕ) {s : ℕ} where
  pub append_refused : (r : Refusal) → number_of r ≡ s → (Err (number_of r) leaving b) ≡ append s b n xs last
  append_refused r e = is_refused (λ (k : ℕ). Err k leaving b) _ e (never_none r)

  pub append_done : 0 ≡ s → {b' : List ℕ} → b' ≡ sets b (16 * n) (nodes_bytes xs) → (Ok last leaving b') ≡ append s b n xs last
  append_done z e = is_answered (λ (k : ℕ). Err k leaving b) _ refl (sym z) (ap (λ (l : List ℕ). Ok last leaving l) e)

-- for the tests of an append, and for what it leaves
pub ruleset append_tests = (unnamed, named, operands_known, refuses_first, early, late, ln_early, ln_late)

pub ruleset append_ends = (append_refused, append_done)
