-- The ways out of a call on records and boxes that are given: what a function that tests them cites. Assumes nothing.
use Rattle.std.specs.Prelude.{ℕ, zero, suc, ◌≡◌, refl, List, [], Err}
use Rattle.std.proofs.Common.{sym, ap, ◌∙◌}
use Rattle.std.proofs.lemmas.Result.{err_from_is_err_and}
use Rattle.record.specs.Leaving.{◌leaving◌}
use Rattle.record.specs.Refusal.{◌or_else◌}
use Rattle.record.specs.RefusalLaws.{never_none, refuses_first, or_else_none}
use Rattle.record.specs.Refused.{number_of}
use Rattle.record.specs.declared.refusal.Refusal.{Refusal}
use Rattle.constraint.specs.Constraint.{Constraint}
use Rattle.file.specs.File.{Read, given_refusal, read_given}
use Rattle.file.specs.FileLaws.{given_refused}
use Rattle.narrow.specs.Given.{Given, tested}

module _ {B : Type 0} (nodes constraints : List ℕ) (b : B) (next : Constraint → Given B) where
  -- as a test answers it
  pub refused_with : (r : Refusal) (later : ℕ) → number_of r ≡ given_refusal nodes constraints → (Err (number_of r) leaving b) ≡ tested (read_given nodes constraints) later b next
  unfolding tested
  refused_with r later e = sym (ap (λ (x : Read). tested x later b next) (given_refused nodes constraints (number_of r) e (never_none r)))

  module _ {c : Constraint} (e : read_given nodes constraints ≡ Read.Accepted c []) where
    later_refused : (r : Refusal) (later : ℕ) → number_of r ≡ later → (Err (number_of r) leaving b) ≡ tested (read_given nodes constraints) later b next
    unfolding tested
    later_refused r zero h = absurd (never_none r h)
    later_refused r (suc n) h = rw (e, h) refl

    -- the settings' own, and one after it
    pub first_refused : (r : Refusal) (first other : ℕ) → number_of r ≡ first → (Err (number_of r) leaving b) ≡ tested (read_given nodes constraints) (first or_else other) b next
    first_refused r first other h = later_refused r (first or_else other) (refuses_first r h other)

    pub second_refused : (r : Refusal) (first other : ℕ) → 0 ≡ first → number_of r ≡ other → (Err (number_of r) leaving b) ≡ tested (read_given nodes constraints) (first or_else other) b next
    second_refused r first other z h = later_refused r (first or_else other) (h ∙ or_else_none first other (sym z))

    pub taken : {later : ℕ} {x : Given B} → later ≡ 0 → x ≡ next c → x ≡ tested (read_given nodes constraints) later b next
    unfolding tested
    taken h k = rw (e, h) k

pub ruleset refusals = (err_from_is_err_and, refused_with, first_refused, second_refused)
