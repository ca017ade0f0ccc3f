-- What the tests of a list know of the nodes that they have passed. Assumes nothing.
use Prim.Native.Nat.{ℕ, zero, suc, ◌+◌, ◌<◌}
use Rattle.std.specs.Prelude.{◌≡◌, true, false, leb, List, length, get_or, set}
use Rattle.std.proofs.Common.{refl, ap, sym, ◌∙◌, subst, arith, not-suc-le-zero, leb-true, get_or-set_same}
use Rattle.std.proofs.Math.Seq.{get_or-set_other}
use Rattle.std.proofs.Math.ListN.{length-set}
use borrow.Author.Count.{below_more}
use Rattle.record.specs.Refusal.{◌unless◌, first}
use Rattle.record.specs.RefusalLaws.{both, none_more, none_unless, first_here, never_none}
use Rattle.record.specs.Refused.{number_of}
use Rattle.record.specs.declared.refusal.Refusal.{Refusal}
use Rattle.tree.specs.Tree.{Tree, is_small}
use Rattle.tree.specs.Nodes.{is_node, tree_at, node_refusal, nodes_refusal, nodes_fit, list_refusal}
use Rattle.tree.specs.Code.{IsExtent, small_extent, Measured, Held, widened}
use Rattle.tree.specs.declared.Extent.{Extent}
use Rattle.tree.specs.NodeLaws.{fit_parts}
use Rattle.tree.specs.declared.SmallExtent.{SmallExtent}

-- ---- the tests of node k
module _ (b : List ℕ) (k : ℕ) where
  three : is_node b k ≡ false → 3 ≡ node_refusal b k
  unfolding node_refusal
  three e = simp e

  pub four : is_node b k ≡ true → (e : Extent) → IsExtent (tree_at b k) e → (4 unless small_extent e) ≡ node_refusal b k
  unfolding node_refusal is_small
  four is e h = simp (is, sym h.0, sym h.1)

pub measured : (t : Tree) (e : Extent) (s : SmallExtent) → IsExtent t e → 0 ≡ (4 unless small_extent e) →
    (s.size ≡ e.size) × (s.depth ≡ e.depth) → Measured t (widened s)
measured t e s h f same =
    let w = both (leb e.size 4096) (leb e.depth 128) (none_unless 3 _ (sym f)) in
    record { is = (same.0 ∙ h.0, same.1 ∙ h.1); small = (omega (arith, leb-true _ _ w.0), omega (arith, leb-true _ _ w.1)) }

-- ---- the list's
module _ (b : List ℕ) (n : ℕ) where
  pub no_fit : nodes_fit (length b) n ≡ false → 2 ≡ list_refusal b n
  unfolding list_refusal
  no_fit e = simp e

  module _ (fit : nodes_fit (length b) n ≡ true) (k : ℕ) (none : first (node_refusal b) k ≡ 0) where
    -- the first k nodes passed, node k is refused
    refused_by : (m : ℕ) → (m ≡ 0 → ⊥) → k < n → m ≡ node_refusal b k → m ≡ list_refusal b n
    unfolding list_refusal nodes_refusal
    refused_by zero h l e = absurd (h refl)
    refused_by (suc m) h l e = simp (fit, first_here (node_refusal b) m k none (sym e) n l)

    pub refused : (r : Refusal) → k < n → number_of r ≡ node_refusal b k → number_of r ≡ list_refusal b n
    refused r = refused_by (number_of r) (never_none r)

    pub third : k < n → is_node b k ≡ false → 3 ≡ list_refusal b n
    third l e = refused Refusal.Node l (three b k e)

    -- or there is none
    pub none_refused : k ≡ n → 0 ≡ list_refusal b n
    unfolding list_refusal nodes_refusal
    none_refused e = simp (fit, sym (ap (first (node_refusal b)) e) ∙ none)

-- ---- what the list of extents holds
abbrev blank : SmallExtent
blank = record { size = 0; depth = 0 }

pub held_none : (b : List ℕ) (es : List SmallExtent) → Held b 0 es
held_none b es = record { few = omega arith; there = omega arith; each = λ k l. absurd (not-suc-le-zero l) }

pub held_more : (b : List ℕ) (k : ℕ) (es : List SmallExtent) (e : SmallExtent) → Held b k es → Measured (tree_at b k) (widened e) →
    k < 1024 → k < length es → Held b (k + 1) (set es k e)
held_more b k es e h m few l = record {
  few = omega arith;
  there = omega (arith, length-set es k e);
  each = below_more (λ j. Measured (tree_at b j) (widened (get_or (set es k e) j blank))) k
      (λ j g. subst (λ (a : SmallExtent). Measured (tree_at b j) (widened a)) (sym (get_or-set_other es k j e blank (omega arith))) (h.each j g))
      (subst (λ (a : SmallExtent). Measured (tree_at b k) (widened a)) (sym (get_or-set_same es k e blank l)) m);
}

pub held_all : (b : List ℕ) (k n : ℕ) (es : List SmallExtent) → k ≡ n → Held b k es → Held b n es
held_all b k n es e h = subst (λ (m : ℕ). Held b m es) e h

-- for the tests of a list
pub ruleset list_tests = (no_fit, fit_parts, four, measured, third, refused, none_refused, none_more, held_none, held_more, held_all)
