-- One more constraint of an And or an Or. Assumes nothing.
use mathlib.Core.Path.{◌≡◌, refl, ap, ◌∙◌}
use mathlib.Core.List.{List, [], ◌∷◌, ◌++◌}
use mathlib.Core.Bool.{true, false}
use Rattle.std.specs.Prelude.{Option}
use Rattle.number.specs.Notation.{when◌then◌else◌}
use Rattle.constraint.specs.Constraint.{Constraint}
use Rattle.constraint.specs.Records.{gather}
use Rattle.settings.specs.declared.Settings.{Settings}
use Rattle.interval.specs.declared.Interval.{Interval}
use Rattle.record.specs.Leaving.{◌leaving◌}
use Rattle.narrow.specs.declared.PropResult.{PropResult}
use Rattle.narrow.specs.declared.PropResult.TheVariants.{Changed, Stable, Conflict}
use Rattle.narrow.specs.declared.round.Mode.{Mode}
use Rattle.narrow.specs.Narrowing.{Narrowed, is_conflict, joined, continue, survive}
use Rattle.narrow.specs.Modes.{pass, pass_all, pass_any, step}
use Rattle.narrow.proofs.Branches.{worse_twice}

-- ---- a step, and the next one
continue_last : (r : PropResult) (b : List Interval) → continue (r leaving b) (λ c. Stable leaving c) ≡ (r leaving b)
unfolding continue when◌then◌else◌
continue_last Conflict b = refl
continue_last Changed b = refl
continue_last Stable b = refl

worse_continue : (r : PropResult) (b : List Interval) (g : List Interval → Narrowed) → joined Changed (continue (r leaving b) g) ≡ continue (joined Changed (r leaving b)) g
unfolding continue when◌then◌else◌
worse_continue Conflict b g = refl
worse_continue Changed b g = ap (λ (x : PropResult). x leaving (g b).places) (worse_twice (g b).answer)
worse_continue Stable b g = refl

continue_assoc : (r : PropResult) (b : List Interval) (f g : List Interval → Narrowed) → continue (r leaving b) (λ c. continue (f c) g) ≡ continue (continue (r leaving b) f) g
unfolding continue when◌then◌else◌
continue_assoc Conflict b f g = refl
continue_assoc Changed b f g = worse_continue (f b).answer (f b).places g
continue_assoc Stable b f g = refl

pub stops : (x : Narrowed) (g : List Interval → Narrowed) → is_conflict x.answer ≡ true → continue x g ≡ x
unfolding continue when◌then◌else◌
stops x g e = simp e

pub goes_on : (x : Narrowed) (g : List Interval → Narrowed) → is_conflict x.answer ≡ false → continue x g ≡ joined x.answer (g x.places)
unfolding continue when◌then◌else◌
goes_on x g e = simp e

-- ---- the last of several
module _ (σ : Settings) (w : Mode) (b : List Interval) where
  pub all_none : pass_all σ w (gather []) b ≡ (Stable leaving b)
  unfolding pass gather
  all_none = refl

  pub any_none : (hs : Option (List Interval)) → pass_any σ w (gather []) b hs ≡ hs
  unfolding pass gather
  any_none hs = refl

module _ (σ : Settings) (w : Mode) (c : Constraint) where
  pub all_snoc : (xs : List Constraint) (b : List Interval) → pass_all σ w (gather (xs ++ c ∷ [])) b ≡ continue (pass_all σ w (gather xs) b) (pass σ w c)
  unfolding pass gather continue when◌then◌else◌
  all_snoc [] b = continue_last (pass σ w c b).answer (pass σ w c b).places
  all_snoc (x ∷ xs) b =
      step (pass σ w x b) (pass σ w x b) (pass_all σ w (gather (xs ++ c ∷ []))) (λ d. continue (pass_all σ w (gather xs) d) (pass σ w c)) refl (λ d. all_snoc xs d)
      ∙ continue_assoc (pass σ w x b).answer (pass σ w x b).places (pass_all σ w (gather xs)) (pass σ w c)

  pub any_snoc : (xs : List Constraint) (b : List Interval) (hs : Option (List Interval)) → pass_any σ w (gather (xs ++ c ∷ [])) b hs ≡ survive (pass_any σ w (gather xs) b hs) (pass σ w c b)
  unfolding pass gather
  any_snoc [] b hs = refl
  any_snoc (x ∷ xs) b hs = any_snoc xs b (survive hs (pass σ w x b))

pub ruleset several = (all_none, all_snoc, any_none, any_snoc, stops, goes_on)
