-- Narrowing by a normal form without building it: the recursion that the code makes, and that it is the definition's. Assumes nothing.
use Rattle.std.specs.Prelude.{◌≡◌, refl, List, Option, None}
use Rattle.std.proofs.Common.{ap, ◌∙◌}
use Rattle.settings.specs.declared.Settings.{Settings}
use Rattle.interval.specs.declared.Interval.{Interval}
use Rattle.constraint.specs.declared.Relation.{Relation}
use Rattle.constraint.specs.Constraint.{Constraint, Constraints, Atom, Not, And, Or, ForAll, Exists, end, ◌⨾◌}
use Rattle.normal.specs.NormalForm.{opposite_of, to_nnf, negate, to_nnf_all, negate_all}
use Rattle.narrow.specs.declared.PropResult.TheVariants.{Stable}
use Rattle.record.specs.Leaving.{◌leaving◌}
use Rattle.narrow.specs.declared.round.Mode.{Mode}
use Rattle.narrow.specs.declared.round.Mode.TheVariants.{Written, Normal, Negated}
use Rattle.narrow.specs.Narrowing.{Narrowed, is_conflict, joined, narrow_atom, continue, survive, adopt_survivors, round, round_all, survivors, propagate_once}
use Rattle.number.specs.Notation.{when◌then◌else◌}

-- a constraint as it is written, its normal form, its negation
abbrev pub under_not : Mode → Mode
under_not Written = Normal
under_not Normal = Negated
under_not Negated = Normal

-- x, and of a negation y
abbrev pub unless_negated : {A : Type 0} → Mode → A → A → A
unless_negated Written x y = x
unless_negated Normal x y = x
unless_negated Negated x y = y

abbrev pub relation_in : Mode → Relation → Relation
relation_in w rel = unless_negated w rel (opposite_of rel)

-- the constraint that is narrowed by
abbrev pub in_mode : Mode → Constraint → Constraint
in_mode Written c = c
in_mode Normal c = to_nnf c
in_mode Negated c = to_nnf (Not c)

-- ---- a round
-- a negated And is an Or, and a negated Or an And
unfoldable mutual
  pub pass : Settings → Mode → Constraint → List Interval → Narrowed
  pass σ w (Atom rel t) b = narrow_atom σ (relation_in w rel) t b
  pass σ w (Not c) b = pass σ (under_not w) c b
  pass σ w (And cs) b = unless_negated w (pass_all σ w cs b) (adopt_survivors σ (pass_any σ w cs b None) b)
  pass σ w (Or cs) b = unless_negated w (adopt_survivors σ (pass_any σ w cs b None) b) (pass_all σ w cs b)
  pass σ w (ForAll v lo hi c) b = Stable leaving b
  pass σ w (Exists v lo hi c) b = Stable leaving b

  pub pass_all : Settings → Mode → Constraints → List Interval → Narrowed
  pass_all σ w end b = Stable leaving b
  pass_all σ w (c ⨾ cs) b = continue (pass σ w c b) (pass_all σ w cs)

  pub pass_any : Settings → Mode → Constraints → List Interval → Option (List Interval) → Option (List Interval)
  pass_any σ w end b so_far = so_far
  pass_any σ w (c ⨾ cs) b so_far = pass_any σ w cs b (survive so_far (pass σ w c b))

-- one of several is to hold
abbrev pub pass_or : Settings → Mode → Constraints → List Interval → Narrowed
pass_or σ w cs b = adopt_survivors σ (pass_any σ w cs b None) b

-- ---- the same as the definition's
-- one step of And, by two narrowings that are equal
pub step : (x y : Narrowed) (f g : List Interval → Narrowed) → x ≡ y → ((b : List Interval) → f b ≡ g b) → continue x f ≡ continue y g
unfolding continue
step x y f g e h = ap (λ (z : Narrowed). continue z f) e ∙ ap (λ (z : Narrowed). when is_conflict y.answer then y else joined y.answer z) (h y.places)

module _ (σ : Settings) (u : Constraint → List Interval → Narrowed) where
  mutual
    unfolding pass round to_nnf

    normal_is : (c : Constraint) (b : List Interval) → pass σ Normal c b ≡ round σ u (to_nnf c) b
    normal_is (Atom rel t) b = refl
    normal_is (Not c) b = negated_is c b
    normal_is (And cs) b = normal_all cs b
    normal_is (Or cs) b = ap (λ hs. adopt_survivors σ hs b) (normal_any cs b None)
    normal_is (ForAll v lo hi c) b = refl
    normal_is (Exists v lo hi c) b = refl

    negated_is : (c : Constraint) (b : List Interval) → pass σ Negated c b ≡ round σ u (negate c) b
    negated_is (Atom rel t) b = refl
    negated_is (Not c) b = normal_is c b
    negated_is (And cs) b = ap (λ hs. adopt_survivors σ hs b) (negated_any cs b None)
    negated_is (Or cs) b = negated_all cs b
    negated_is (ForAll v lo hi c) b = refl
    negated_is (Exists v lo hi c) b = refl

    normal_all : (cs : Constraints) (b : List Interval) → pass_all σ Normal cs b ≡ round_all σ u (to_nnf_all cs) b
    normal_all end b = refl
    normal_all (c ⨾ cs) b = step (pass σ Normal c b) (round σ u (to_nnf c) b) _ _ (normal_is c b) (λ x. normal_all cs x)

    negated_all : (cs : Constraints) (b : List Interval) → pass_all σ Negated cs b ≡ round_all σ u (negate_all cs) b
    negated_all end b = refl
    negated_all (c ⨾ cs) b = step (pass σ Negated c b) (round σ u (negate c) b) _ _ (negated_is c b) (λ x. negated_all cs x)

    normal_any : (cs : Constraints) (b : List Interval) (hs : Option (List Interval)) → pass_any σ Normal cs b hs ≡ survivors σ u (to_nnf_all cs) b hs
    normal_any end b hs = refl
    normal_any (c ⨾ cs) b hs = ap (λ (x : Narrowed). pass_any σ Normal cs b (survive hs x)) (normal_is c b) ∙ normal_any cs b _

    negated_any : (cs : Constraints) (b : List Interval) (hs : Option (List Interval)) → pass_any σ Negated cs b hs ≡ survivors σ u (negate_all cs) b hs
    negated_any end b hs = refl
    negated_any (c ⨾ cs) b hs = ap (λ (x : Narrowed). pass_any σ Negated cs b (survive hs x)) (negated_is c b) ∙ negated_any cs b _

-- what the definition does under a Not
abbrev inner : Settings → Constraint → List Interval → Narrowed
inner σ d = round σ (λ e b. Stable leaving b) (to_nnf d)

module _ (σ : Settings) where
  mutual
    unfolding pass round

    written_is : (c : Constraint) (b : List Interval) → pass σ Written c b ≡ round σ (inner σ) c b
    written_is (Atom rel t) b = refl
    written_is (Not c) b = normal_is σ (λ e b. Stable leaving b) c b
    written_is (And cs) b = written_all cs b
    written_is (Or cs) b = ap (λ hs. adopt_survivors σ hs b) (written_any cs b None)
    written_is (ForAll v lo hi c) b = refl
    written_is (Exists v lo hi c) b = refl

    written_all : (cs : Constraints) (b : List Interval) → pass_all σ Written cs b ≡ round_all σ (inner σ) cs b
    written_all end b = refl
    written_all (c ⨾ cs) b = step (pass σ Written c b) (round σ (inner σ) c b) _ _ (written_is c b) (λ x. written_all cs x)

    written_any : (cs : Constraints) (b : List Interval) (hs : Option (List Interval)) → pass_any σ Written cs b hs ≡ survivors σ (inner σ) cs b hs
    written_any end b hs = refl
    written_any (c ⨾ cs) b hs = ap (λ (x : Narrowed). pass_any σ Written cs b (survive hs x)) (written_is c b) ∙ written_any cs b _

  pub pass_is : (w : Mode) (c : Constraint) (b : List Interval) → pass σ w c b ≡ propagate_once σ (in_mode w c) b
  unfolding propagate_once to_nnf
  pass_is Written c b = written_is c b
  pass_is Normal c b = normal_is σ (inner σ) c b
  pass_is Negated c b = negated_is σ (inner σ) c b
