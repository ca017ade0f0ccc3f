-- The search of a sample, the decisions and the tests of a call: their ways out, over plain values. Assumes nothing.
use Prim.Native.Nat.{ℕ, zero, suc}
use mathlib.Core.Path.{◌≡◌, refl, sym, ap, ◌∙◌}
use mathlib.Core.Bool.{Bool}
use mathlib.Core.List.{List, []}
use native.Mathlib.Omega.{arith}
use denote.Enum.Bare.{sameb}
use lib.Ieee.{Float}
use Rattle.std.specs.Prelude.{Option, Ok, Err}
use Rattle.std.specs.List.{find}
use Rattle.std.specs.Fn.{CalledAt}
use Rattle.std.specs.Iterator.{FindsItem}
use Rattle.std.specs.Array.Iter.{array_into_iter_items, array_steps}
use Rattle.std.specs.declared.array.IntoIter.{IntoIter}
use denote.Param.Members.{Mut}
use denote.Ref.{Bor}
use Rattle.std.proofs.lemmas.Iterator.Adapters.{option_map_id}
use Rattle.std.proofs.lemmas.Iterator.Consumers.{YieldsList-from_shown}
use Rattle.std.proofs.lemmas.Iterator.Search.{find_from_yields_List}
use Rattle.record.specs.Refusal.{◌or_else◌}
use Rattle.record.specs.Refused.{number_of}
use Rattle.record.specs.RefusalLaws.{none_both, never_none}
use Rattle.record.specs.declared.refusal.Refusal.{Refusal}
use Rattle.file.specs.File.{Accepted, given_refusal, read_given}
use Rattle.file.specs.FileLaws.{given_refused, given_is}
use Rattle.constraint.specs.Constraint.{Constraint}
use Rattle.narrow.specs.contracts.PropResult.{the_type}
use Rattle.narrow.specs.declared.PropResult.{PropResult}
use Rattle.narrow.specs.declared.PropResult.TheVariants.{Stable, Changed, Conflict}
use Rattle.narrow.specs.Narrowing.{is_conflict}
use Rattle.decide.specs.Deciding.{QuantResult, decided_by}

-- ---- the first sample that passes the test
pub first : {F : Type 0} {g : Mut F (Bor Float × Unit {0}) Bool} (test : Float → Bool) {s : IntoIter Float 5} (u : IntoIter Float 5) {f : F} {r : Option Float} {xs : List Float}
    → array_into_iter_items s ≡ xs → FindsItem array_steps g s f r u → ((x : Float) (b : Bool) (q : F) → CalledAt g f x b q → (q ≡ f) × (b ≡ test x)) → r ≡ find test xs
first test u {r = r} listed ran each =
    let k = YieldsList-from_shown array_steps (λ x. x) array_into_iter_items (λ s t h. h.0) (λ s x t h. h) _ in
    sym (option_map_id r) ∙ find_from_yields_List test _ _ r ran k each ∙ ap (find test) listed

-- ---- a decision
pub is_met : (r : PropResult) → sameb the_type r Conflict ≡ is_conflict r
is_met Stable = refl
is_met Changed = refl
is_met Conflict = refl

-- ---- the calls: `later` are the refusals after the records' own
module _ (nodes b : List ℕ) (later : ℕ) (decide : Constraint → QuantResult) where
  pub call_refused : (r : Refusal) → number_of r ≡ given_refusal nodes b or_else later → Err (number_of r) ≡ decided_by (read_given nodes b) later decide
  call_refused r e = by (given_refusal nodes b) later refl refl e
    where
      by : (g m : ℕ) → given_refusal nodes b ≡ g → later ≡ m → number_of r ≡ g or_else m → Err (number_of r) ≡ decided_by (read_given nodes b) later decide
      by zero zero p q t = absurd (never_none r t)
      by zero (suc m) p q t = rw (given_is nodes b p, q) (ap Err t)
      by (suc g) m p q t = rw (given_refused nodes b (suc g) (sym p) (λ z. omega arith)) (ap Err t)

  pub call_answered : 0 ≡ given_refusal nodes b or_else later → {c : Constraint} → read_given nodes b ≡ Accepted c [] → {z : QuantResult} → z ≡ decide c → Ok z ≡ decided_by (read_given nodes b) later decide
  call_answered e read w = rw (read, (none_both (given_refusal nodes b) later (sym e)).1) (ap Ok w)

pub ruleset calls = (call_refused, call_answered)
