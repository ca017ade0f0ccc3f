-- Narrowing keeps the number of boxes. Assumes nothing.
use Rattle.std.specs.Prelude.{◌≡◌, ℕ, zero, suc, List, [], ◌∷◌, length, Option, Some, None, Ok, Err}
use Rattle.std.proofs.Common.{refl, ap, ◌∙◌, length-set}
use Rattle.settings.specs.declared.Settings.{Settings}
use Rattle.interval.specs.declared.Interval.{Interval}
use Rattle.interval.specs.Choices.{either}
use Rattle.tree.specs.Tree.{Tree}
use Rattle.constraint.specs.declared.Relation.{Relation}
use Rattle.constraint.specs.Constraint.{Constraint, Constraints, Atom, Not, And, Or, ForAll, Exists, end, ◌⨾◌}
use Rattle.normal.specs.NormalForm.{to_nnf}
use Rattle.narrow.specs.Narrowing.{Narrowed, Demand, continue, ask_both, narrow_var, backward, nudge_var, nudge_tree, aim, narrow_to, narrow_atom, adopt, adopt_survivors, round, round_all, propagate_once, again, rounds, propagate}

-- x leaves as many as b has
abbrev Keeps : List Interval → Narrowed → Type 0
Keeps b x = length x.places ≡ length b

module _ (σ : Settings) where
  -- ---- one tree
  var_keeps : (i : ℕ) (out : Interval) (b : List Interval) → Keeps b (narrow_var σ i out b)
  unfolding narrow_var
  var_keeps i out b = either (Keeps b) _ _ _ refl (either (Keeps b) _ _ _ (length-set b i _) refl)

  both_keep : (d : Demand) (left right : Interval → List Interval → Narrowed) (b : List Interval) → ((i : Interval) (b : List Interval) → Keeps b (left i b)) → ((i : Interval) (b : List Interval) → Keeps b (right i b)) → Keeps b (ask_both d left right b)
  unfolding ask_both
  both_keep (Err w) left right b l r = refl
  both_keep (Ok asked) left right b l r = r asked.right _ ∙ l asked.left b

  backward_keeps : (t : Tree) (out : Interval) (b : List Interval) → Keeps b (backward σ t out b)
  unfolding backward
  backward_keeps Tree.One out b = either (Keeps b) _ _ _ refl refl
  backward_keeps (Tree.Const v) out b = either (Keeps b) _ _ _ refl refl
  backward_keeps (Tree.Var i) out b = either (Keeps b) _ _ _ refl (var_keeps i out b)
  backward_keeps (Tree.Eml l r) out b = either (Keeps b) _ _ _ refl (both_keep _ (backward σ l) (backward σ r) b (backward_keeps l) (backward_keeps r))

  nudge_keeps : (i : ℕ) (b : List Interval) → Keeps b (nudge_var i b)
  unfolding nudge_var
  nudge_keeps i b = either (Keeps b) _ _ _ refl (either (Keeps b) _ _ _ (length-set b i _) (either (Keeps b) _ _ _ (length-set b i _) refl))

  aim_keeps : (out : Option Interval) (t : Tree) (b : List Interval) → Keeps b (aim σ out t b)
  unfolding aim nudge_tree
  aim_keeps (Some out) t b = backward_keeps t out b
  aim_keeps None Tree.One b = refl
  aim_keeps None (Tree.Const v) b = refl
  aim_keeps None (Tree.Var i) b = nudge_keeps i b
  aim_keeps None (Tree.Eml l r) b = refl

  narrow_to_keeps : (rel : Relation) (t : Tree) (v : Option Interval) (b : List Interval) → Keeps b (narrow_to σ rel t v b)
  unfolding narrow_to
  narrow_to_keeps rel t (Some v) b = either (Keeps b) _ _ _ refl (aim_keeps _ t b)
  narrow_to_keeps rel t None b = refl

  atom_keeps : (rel : Relation) (t : Tree) (b : List Interval) → Keeps b (narrow_atom σ rel t b)
  unfolding narrow_atom
  atom_keeps rel t b = narrow_to_keeps rel t _ b

  -- ---- one round
  adopt_keeps : (hs b : List Interval) → Keeps b (adopt σ hs b)
  unfolding adopt
  adopt_keeps [] b = refl
  adopt_keeps (h ∷ hs) [] = refl
  adopt_keeps (h ∷ hs) (i ∷ is) = ap suc (adopt_keeps hs is)

  survivors_keep : (hs : Option (List Interval)) (b : List Interval) → Keeps b (adopt_survivors σ hs b)
  unfolding adopt_survivors
  survivors_keep None b = refl
  survivors_keep (Some hs) b = adopt_keeps hs b

  continue_keeps : (x : Narrowed) (next : List Interval → Narrowed) (b : List Interval) → Keeps b x → ((d : List Interval) → Keeps d (next d)) → Keeps b (continue x next)
  unfolding continue
  continue_keeps x next b k n = either (Keeps b) _ _ _ k (n x.places ∙ k)

  module _ (under : Constraint → List Interval → Narrowed) (keeps : (c : Constraint) (b : List Interval) → Keeps b (under c b)) where
    mutual
      unfolding round

      round_keeps : (c : Constraint) (b : List Interval) → Keeps b (round σ under c b)
      round_keeps (Atom rel t) b = atom_keeps rel t b
      round_keeps (Not c) b = keeps c b
      round_keeps (And cs) b = all_keep cs b
      round_keeps (Or cs) b = survivors_keep _ b
      round_keeps (ForAll v lo hi c) b = refl
      round_keeps (Exists v lo hi c) b = refl

      all_keep : (cs : Constraints) (b : List Interval) → Keeps b (round_all σ under cs b)
      all_keep end b = refl
      all_keep (c ⨾ cs) b = continue_keeps _ _ b (round_keeps c b) (λ d. all_keep cs d)

  once_keeps : (c : Constraint) (b : List Interval) → Keeps b (propagate_once σ c b)
  unfolding propagate_once
  once_keeps = round_keeps _ (λ d. round_keeps _ (λ e b. refl) (to_nnf d))

  rounds_keep : (n : ℕ) (c : Constraint) (b : List Interval) → Keeps b (rounds σ n c b)
  unfolding rounds again
  rounds_keep zero c b = refl
  rounds_keep (suc n) c b = either (Keeps b) _ _ _ (rounds_keep n c _ ∙ once_keeps c b) (once_keeps c b)

  pub propagate_length : (c : Constraint) (b : List Interval) → Keeps b (propagate σ c b)
  unfolding propagate
  propagate_length c b = rounds_keep σ.rounds c b
