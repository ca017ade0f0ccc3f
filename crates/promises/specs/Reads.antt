-- What narrowing reads of the record of settings: the rounds and the slack, and neither the equality tolerance nor the clamp nor the strict flag. Laws for
-- `Strict`. Assumes nothing.
use Rattle.std.specs.Prelude.{◌≡◌, refl, ℕ, zero, suc, List, [], ◌∷◌, Option, Some, None, Ok, Err}
use Rattle.std.proofs.Common.{ap, ◌∙◌}
use Rattle.settings.specs.declared.Settings.{Settings}
use Rattle.interval.specs.declared.Interval.{Interval}
use Rattle.record.specs.Leaving.{◌leaving◌}
use Rattle.tree.specs.Tree.{Tree}
use Rattle.constraint.specs.declared.Relation.{Relation}
use Rattle.constraint.specs.declared.Relation.TheVariants.{EqZero, GtZero, GeZero, LtZero, LeZero, NeZero}
use Rattle.constraint.specs.Constraint.{Constraint, Constraints, Atom, Not, And, Or, ForAll, Exists, end, ◌⨾◌}
use Rattle.normal.specs.NormalForm.{to_nnf}
use Rattle.narrow.specs.declared.PropResult.TheVariants.{Stable}
use Rattle.narrow.specs.Narrowing.{Narrowed, Demand, eval_interval, demand, ask_both, narrow_var, backward, fails, target_of, aim, narrow_to, narrow_atom, continue, survive, tightened, adopt, adopt_survivors, round, round_all, survivors, propagate_once, again, rounds, propagate}

-- what a step does to boxes
abbrev Step : Type 0
Step = List Interval → Narrowed

-- ---- narrowing, under two records with the same slack
module _ (σ τ : Settings) (slack : σ.slack ≡ τ.slack) where
  var_same : (i : ℕ) (out : Interval) (b : List Interval) → narrow_var σ i out b ≡ narrow_var τ i out b
  unfolding narrow_var
  var_same i out b = rw slack refl

  asked_same : (d : Demand) (f g f' g' : Interval → Step) (b : List Interval) → ((i : Interval) (b : List Interval) → f i b ≡ f' i b) → ((i : Interval) (b : List Interval) → g i b ≡ g' i b) → ask_both d f g b ≡ ask_both d f' g' b
  unfolding ask_both
  asked_same (Err w) f g f' g' b h k = refl
  asked_same (Ok asked) f g f' g' b h k = rw (h asked.left b, k asked.right (f' asked.left b).places) refl

  backward_same : (t : Tree) (out : Interval) (b : List Interval) → backward σ t out b ≡ backward τ t out b
  unfolding backward
  backward_same Tree.One out b = refl
  backward_same (Tree.Const v) out b = refl
  backward_same (Tree.Var i) out b = rw (var_same i out b) refl
  backward_same (Tree.Eml l r) out b = rw (asked_same (demand (eval_interval b l) (eval_interval b r) out) (backward σ l) (backward σ r) (backward τ l) (backward τ r) b (backward_same l) (backward_same r)) refl

  fails_same : (rel : Relation) (v : Interval) → fails σ rel v ≡ fails τ rel v
  unfolding fails
  fails_same EqZero v = refl
  fails_same GtZero v = refl
  fails_same GeZero v = refl
  fails_same LtZero v = refl
  fails_same LeZero v = refl
  fails_same NeZero v = rw slack refl

  aim_same : (out : Option Interval) (t : Tree) (b : List Interval) → aim σ out t b ≡ aim τ out t b
  unfolding aim
  aim_same (Some out) t b = backward_same t out b
  aim_same None t b = refl

  to_same : (rel : Relation) (t : Tree) (v : Option Interval) (b : List Interval) → narrow_to σ rel t v b ≡ narrow_to τ rel t v b
  unfolding narrow_to
  to_same rel t (Some v) b = rw (fails_same rel v, aim_same (target_of rel v) t b) refl
  to_same rel t None b = refl

  tightened_same : (h old : Interval) → tightened σ h old ≡ tightened τ h old
  unfolding tightened
  tightened_same h old = rw slack refl

  adopt_same : (hs is : List Interval) → adopt σ hs is ≡ adopt τ hs is
  unfolding adopt
  adopt_same [] is = refl
  adopt_same (h ∷ hs) [] = refl
  adopt_same (h ∷ hs) (i ∷ is) = rw (tightened_same h i, adopt_same hs is) refl

  survivors_adopted : (hs : Option (List Interval)) (b : List Interval) → adopt_survivors σ hs b ≡ adopt_survivors τ hs b
  unfolding adopt_survivors
  survivors_adopted None b = refl
  survivors_adopted (Some hs) b = adopt_same hs b

  -- what is done with a Not is the same, too
  module _ (u v : Constraint → Step) (under : (c : Constraint) (b : List Interval) → u c b ≡ v c b) where
    mutual
      unfolding round narrow_atom continue

      round_same : (c : Constraint) (b : List Interval) → round σ u c b ≡ round τ v c b
      round_same (Atom rel t) b = to_same rel t (eval_interval b t) b
      round_same (Not c) b = under c b
      round_same (And cs) b = all_same cs b
      round_same (Or cs) b = rw (survivors_same cs b None) (survivors_adopted (survivors τ v cs b None) b)
      round_same (ForAll x lo hi c) b = refl
      round_same (Exists x lo hi c) b = refl

      all_same : (cs : Constraints) (b : List Interval) → round_all σ u cs b ≡ round_all τ v cs b
      all_same end b = refl
      all_same (c ⨾ cs) b = rw (round_same c b, all_same cs (round τ v c b).places) refl

      survivors_same : (cs : Constraints) (b : List Interval) (so_far : Option (List Interval)) → survivors σ u cs b so_far ≡ survivors τ v cs b so_far
      survivors_same end b so_far = refl
      survivors_same (c ⨾ cs) b so_far = rw (round_same c b) (survivors_same cs b (survive so_far (round τ v c b)))

  once_same : (c : Constraint) (b : List Interval) → propagate_once σ c b ≡ propagate_once τ c b
  unfolding propagate_once
  once_same c b =
      round_same (λ d. round σ (λ e b'. Stable leaving b') (to_nnf d)) (λ d. round τ (λ e b'. Stable leaving b') (to_nnf d)) (λ d b'. round_same (λ e x. Stable leaving x) (λ e x. Stable leaving x) (λ e x. refl) (to_nnf d) b') c b

  rounds_same : (n : ℕ) (c : Constraint) (b : List Interval) → rounds σ n c b ≡ rounds τ n c b
  unfolding rounds again
  rounds_same zero c b = refl
  rounds_same (suc n) c b = rw (once_same c b, rounds_same n c (propagate_once τ c b).places) refl

  module _ (same_rounds : σ.rounds ≡ τ.rounds) where
    pub propagate_same : (c : Constraint) (b : List Interval) → propagate σ c b ≡ propagate τ c b
    unfolding propagate
    propagate_same c b = ap (λ (n : ℕ). rounds σ n c b) same_rounds ∙ rounds_same τ.rounds c b
