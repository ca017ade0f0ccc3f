-- What a record takes is there, and finishes. Assumes nothing.
use Prim.Native.Nat.{ℕ, suc, ◌+◌, ◌-◌, ◌<◌}
use mathlib.Core.Path.{◌≡◌, refl, ap, ◌∙◌}
use mathlib.Core.List.{List, [], ◌∷◌}
use native.Mathlib.Omega.{arith}
use lib.Ieee.{Float}
use lib.ListN.{length, length-append}
use lib.Seq.{length-take-le}
use Rattle.std.proofs.lemmas.List.{drop-take}
use Rattle.constraint.specs.Records.{finished, formula_at}
use Rattle.constraint.specs.Starts.{start_at}
use Rattle.constraint.specs.StartLaws.{chain, start_below, height_below}
use Rattle.constraint.specs.Views.{record_of}
use Rattle.constraint.specs.RecordLaws.{none_taken, up_to_last, inside, atom_node, at_atom, at_not, at_and, and_taken, at_or, or_taken, at_forall, at_exists}
use Rattle.constraint.specs.VarLaws.{named}
use Rattle.constraint.specs.declared.Record.{Record}
use Rattle.constraint.specs.declared.records.Records.{Records}

pub one_fewer : (b : List ℕ) (n : ℕ) → 0 < n → length (finished b n) ≡ length (finished b (start_at b (n - 1))) + 1
one_fewer b n h =
    let c : n ≡ suc (n - 1) = omega arith in
    ap (λ (i : ℕ). length (finished b i)) c ∙ ap length (chain b (n - 1)) ∙ length-append (finished b (start_at b (n - 1))) (formula_at b (n - 1) ∷ [])

pub ruleset operands = (height_below, start_below, one_fewer, none_taken, up_to_last)

module _ (r : Records) (k : ℕ) (l : k < r.count) where
  pub not_inside : record_of r k ≡ Record.Not → 0 < k
  not_inside e = (inside r k l Record.Not e refl).0

  pub named_exists : (v : ℕ) (lo hi : Float) → record_of r k ≡ Record.Exists v lo hi → (v < 16) × (k - 1 < k)
  named_exists v lo hi e = (named r k l (Record.Exists v lo hi) e, omega (arith, (inside r k l (Record.Exists v lo hi) e refl).0))

  pub named_forall : (v : ℕ) (lo hi : Float) → record_of r k ≡ Record.ForAll v lo hi → (v < 16) × (k - 1 < k)
  named_forall v lo hi e = (named r k l (Record.ForAll v lo hi) e, omega (arith, (inside r k l (Record.ForAll v lo hi) e refl).0))

pub ruleset shapes = (not_inside, named_forall, named_exists, atom_node, at_atom, at_not, at_and, and_taken, at_or, or_taken, at_forall, at_exists)

-- a part of a list
pub ruleset parts = (length-take-le, drop-take)
