-- Narrowing step by step: each step leaves boxes inside those that it got, and empties none. max and min are cited by their laws alone.
-- Assumes nothing.
use Rattle.std.specs.Prelude.{ℕ, zero, suc, not, ◌&&◌, List, [], ◌∷◌, T, get_or, Option, Some, None, Ok, Err}
use Rattle.std.specs.Float.Ieee.{binary64, neg, eq, lt, of_int}
use Rattle.std.specs.Float.Ieee.Fits.{and_l, and_r, of_int-fits, round-fits, neg-fits}
use Rattle.number.specs.Notation.{◌≺◌, whole}
use Rattle.number.specs.Order.{le_trans, lt→le, eq→le, eq_sym}
use Rattle.number.specs.Next.{next_up, next_down, next_up_fits, next_down_fits, next_up_least, next_down_greatest, next_up_above, next_down_below}
use Rattle.settings.specs.declared.Settings.{Settings}
use Rattle.interval.specs.declared.Interval.{Interval}
use Rattle.interval.specs.Interval.{◌‥◌, is_empty, intersect, moves}
use Rattle.interval.specs.Boxes.{missing}
use Rattle.interval.specs.Choices.{either, decide}
use Rattle.interval.specs.Inside.{Held, Ends, Proper, Inside, inside_refl, max_held, min_held, intersect_ends, hull_ends, intersect_left, intersect_right, exp_ends, nothing_ends, ln_ends, minus_ends, Each, Narrower, narrower_refl, narrower_trans, box_proper, set_narrower}
use Rattle.tree.specs.Tree.{Tree}
use Rattle.constraint.specs.declared.Relation.{Relation}
use Rattle.constraint.specs.declared.Relation.TheVariants.{EqZero, GtZero, GeZero, LtZero, LeZero, NeZero}
use Rattle.constraint.specs.Constraint.{Constraint, Constraints, Atom, Not, And, Or, ForAll, Exists, end, ◌⨾◌}
use Rattle.normal.specs.NormalForm.{to_nnf, negate, to_nnf_all, negate_all}
use Rattle.record.specs.Leaving.{Leaving}
use Rattle.narrow.specs.declared.PropResult.{PropResult}
use Rattle.narrow.specs.declared.forward.Children.{Children}
use Rattle.narrow.specs.Narrowing.{Narrowed, Demand, on_ok, eml_interval, forward, eval_interval, children, left_of, ask, demand, ask_both, narrow_var, backward, eps, target_of}
use Rattle.narrow.specs.Narrowing.{nudge_var, nudge_tree, aim, narrow_to, narrow_atom, continue, hulls, hull_with, survive, tightened, adopt, adopt_survivors, round as round_by, round_all, survivors, propagate_once, again, rounds}
use Rattle.narrow.specs.Held.{TreeHeld, ConstraintHeld, ConstraintsHeld}

-- what a step leaves is b, narrowed
abbrev pub Leaves : List Interval → Narrowed → Type 0
Leaves b x = Narrower b x.places

-- ---- forward
abbrev EndsIn : Option Interval → Type 0
EndsIn (Some i) = Ends i
EndsIn None = Unit {0}

forward_ends : (l r : Option Interval) → EndsIn (forward l r)
unfolding forward eml_interval
forward_ends (Some l) (Some r) = either EndsIn _ _ _ nothing_ends (either EndsIn _ _ _ (minus_ends _ _) tt)
forward_ends (Some l) None = tt
forward_ends None r = tt

eval_ends : (b : List Interval) (t : Tree) → TreeHeld t → Each Proper b → EndsIn (eval_interval b t)
unfolding eval_interval
eval_ends b Tree.One f g = record { lo = of_int-fits binary64 _; hi = of_int-fits binary64 _ }
eval_ends b (Tree.Const v) f g = record { lo = f; hi = f }
eval_ends b (Tree.Var i) f g = (box_proper b i g).ends
eval_ends b (Tree.Eml l r) f g = forward_ends (eval_interval b l) (eval_interval b r)

-- ---- backward
abbrev Asked : Demand → Type 0
Asked (Ok p) = Ends p.left × Ends p.right
Asked (Err w) = Unit {0}

left_ends : (l range : Interval) → Ends l → Ends (left_of l range)
unfolding left_of
left_ends l range p = either Ends _ _ _ (intersect_ends l _ p (ln_ends _)) p

asked_ends : (out : Interval) (c : Children) → Ends c.left → Ends c.right → Asked (ask out c)
unfolding ask
asked_ends out c p q = either Asked _ _ _ tt (left_ends c.left _ p, intersect_ends c.right _ q (exp_ends _))

ask_ends : (out : Interval) (l r : Option Interval) → EndsIn l → EndsIn r → Asked (demand l r out)
unfolding demand children
ask_ends out (Some l) (Some r) p q =
    either (λ c. Asked (on_ok c (ask out))) _ _ _ tt (either (λ c. Asked (on_ok c (ask out))) _ _ _ (asked_ends out _ p q) tt)
ask_ends out (Some l) None p q = tt
ask_ends out None r p q = tt

abbrev Step : (Interval → List Interval → Narrowed) → Type 0
Step f = (i : Interval) (b : List Interval) → Ends i → Each Proper b → Leaves b (f i b)

both_leave : (d : Demand) (left right : Interval → List Interval → Narrowed) (b : List Interval) → Asked d → Step left → Step right → Each Proper b → Leaves b (ask_both d left right b)
unfolding ask_both
both_leave (Err w) left right b f p q g = narrower_refl b g
both_leave (Ok a) left right b f p q g =
    let x = p a.left b f.0 g in
    narrower_trans b (left a.left b).places (right a.right (left a.left b).places).places x (q a.right (left a.left b).places f.1 x.proper)

var_leaves : (σ : Settings) (i : ℕ) → Step (narrow_var σ i)
unfolding narrow_var
var_leaves σ i out b f g =
    let old = box_proper b i g in
    decide (Leaves b) _ _ _ (λ t. narrower_refl b g) (λ t.
    either (Leaves b) _ _ _
    (set_narrower b i (intersect (get_or b i missing) out) g (intersect_left (get_or b i missing) out old.ordered t) (intersect_ends (get_or b i missing) out old.ends f))
    (narrower_refl b g))

backward_leaves : (σ : Settings) (t : Tree) → TreeHeld t → Step (backward σ t)
unfolding backward
backward_leaves σ Tree.One f out b o g = either (Leaves b) _ _ _ (narrower_refl b g) (narrower_refl b g)
backward_leaves σ (Tree.Const v) f out b o g = either (Leaves b) _ _ _ (narrower_refl b g) (narrower_refl b g)
backward_leaves σ (Tree.Var i) f out b o g = either (Leaves b) _ _ _ (narrower_refl b g) (var_leaves σ i out b o g)
backward_leaves σ (Tree.Eml l r) f out b o g =
    either (Leaves b) _ _ _ (narrower_refl b g)
    (both_leave (demand (eval_interval b l) (eval_interval b r) out) (backward σ l) (backward σ r) b
    (ask_ends out (eval_interval b l) (eval_interval b r) (eval_ends b l f.0 g) (eval_ends b r f.1 g))
    (backward_leaves σ l f.0) (backward_leaves σ r f.1) g)

-- ---- an atom
zero_held : Held (whole 0)
zero_held = of_int-fits binary64 _

eps_held : Held eps
eps_held = round-fits binary64 _ _ _

target_ends : (rel : Relation) (v : Interval) → Ends v → EndsIn (target_of rel v)
unfolding target_of
target_ends EqZero v e = record { lo = zero_held; hi = zero_held }
target_ends GtZero v e = record { lo = max_held v.lo eps e.lo eps_held; hi = e.hi }
target_ends GeZero v e = record { lo = max_held v.lo (whole 0) e.lo zero_held; hi = e.hi }
target_ends LtZero v e = record { lo = e.lo; hi = min_held v.hi (neg eps) e.hi (neg-fits binary64 eps eps_held) }
target_ends LeZero v e = record { lo = e.lo; hi = min_held v.hi (whole 0) e.hi zero_held }
target_ends NeZero v e = tt

-- an end at zero goes to zero's neighbour: no f64 lies between the two, so the box is not emptied
module _ (v : Interval) (p : Proper v) where
  self : Inside v v
  self = inside_refl v p.ordered

  up_inside : T (eq v.lo (whole 0)) → T (whole 0 ≺ v.hi) → Inside v (next_up binary64 (whole 0) ‥ v.hi)
  up_inside z h = record {
    lo =
        le_trans v.lo (whole 0) (next_up binary64 (whole 0)) (eq→le v.lo (whole 0) z)
        (lt→le (whole 0) (next_up binary64 (whole 0)) (next_up_above binary64 (whole 0) zero_held (unfold of_int lt in tt)));
    hi = self.hi;
    ordered = next_up_least binary64 (whole 0) v.hi zero_held p.ends.hi h;
  }

  down_inside : T (eq v.hi (whole 0)) → T (v.lo ≺ whole 0) → Inside v (v.lo ‥ next_down binary64 (whole 0))
  down_inside z h = record {
    lo = self.lo;
    hi =
        le_trans (next_down binary64 (whole 0)) (whole 0) v.hi (lt→le (next_down binary64 (whole 0)) (whole 0) (next_down_below binary64 (whole 0) zero_held (unfold of_int lt in tt)))
        (eq→le (whole 0) v.hi (eq_sym v.hi (whole 0) z));
    ordered = next_down_greatest binary64 (whole 0) v.lo zero_held p.ends.lo h;
  }

nudge_leaves : (i : ℕ) (b : List Interval) → Each Proper b → Leaves b (nudge_var i b)
unfolding nudge_var
nudge_leaves i b g =
    let v = get_or b i missing in
    let p = box_proper b i g in
    let e = p.ends in
    let z = eq v.lo (whole 0) in
    let w = eq v.hi (whole 0) in
    either (Leaves b) _ _ _ (narrower_refl b g)
    (decide (Leaves b) _ _ _
    (λ t.
    set_narrower b i (next_up binary64 (whole 0) ‥ v.hi) g (up_inside v p (and_l z (whole 0 ≺ v.hi) t) (and_r z (whole 0 ≺ v.hi) t))
    (record { lo = next_up_fits binary64 (whole 0) zero_held; hi = e.hi }))
    (λ s.
    decide (Leaves b) _ _ _
    (λ t.
    set_narrower b i (v.lo ‥ next_down binary64 (whole 0)) g (down_inside v p (and_l w (v.lo ≺ whole 0) t) (and_r w (v.lo ≺ whole 0) t))
    (record { lo = e.lo; hi = next_down_fits binary64 (whole 0) zero_held }))
    (λ t. narrower_refl b g)))

tree_leaves : (t : Tree) (b : List Interval) → Each Proper b → Leaves b (nudge_tree t b)
unfolding nudge_tree
tree_leaves Tree.One b g = narrower_refl b g
tree_leaves (Tree.Const v) b g = narrower_refl b g
tree_leaves (Tree.Var i) b g = nudge_leaves i b g
tree_leaves (Tree.Eml l r) b g = narrower_refl b g

aim_leaves : (σ : Settings) (x : Option Interval) (t : Tree) (b : List Interval) → EndsIn x → TreeHeld t → Each Proper b → Leaves b (aim σ x t b)
unfolding aim
aim_leaves σ (Some out) t b e f g = backward_leaves σ t f out b e g
aim_leaves σ None t b e f g = tree_leaves t b g

to_leaves : (σ : Settings) (rel : Relation) (t : Tree) (v : Option Interval) (b : List Interval) → EndsIn v → TreeHeld t → Each Proper b → Leaves b (narrow_to σ rel t v b)
unfolding narrow_to
to_leaves σ rel t (Some v) b e f g = either (Leaves b) _ _ _ (narrower_refl b g) (aim_leaves σ (target_of rel v) t b (target_ends rel v e) f g)
to_leaves σ rel t None b e f g = narrower_refl b g

atom_leaves : (σ : Settings) (rel : Relation) (t : Tree) (b : List Interval) → TreeHeld t → Each Proper b → Leaves b (narrow_atom σ rel t b)
unfolding narrow_atom
atom_leaves σ rel t b f g = to_leaves σ rel t (eval_interval b t) b (eval_ends b t f g) f g

-- ---- Or
abbrev EachIn : Option (List Interval) → Type 0
EachIn None = Unit {0}
EachIn (Some is) = Each Ends is

proper_ends : (b : List Interval) → Each Proper b → Each Ends b
proper_ends [] g = tt
proper_ends (i ∷ is) g = (g.0.ends, proper_ends is g.1)

hulls_ends : (a b : List Interval) → Each Ends a → Each Ends b → Each Ends (hulls a b)
unfolding hulls
hulls_ends [] b p q = tt
hulls_ends (i ∷ is) [] p q = tt
hulls_ends (i ∷ is) (j ∷ js) p q = (hull_ends i j p.0 q.0, hulls_ends is js p.1 q.1)

survive_ends : (hs : Option (List Interval)) (x : Narrowed) → EachIn hs → Each Ends x.places → EachIn (survive hs x)
unfolding survive hull_with
survive_ends None x p q = either EachIn _ _ _ tt q
survive_ends (Some a) x p q = either EachIn _ _ _ p (hulls_ends a x.places p q)

-- the box that an Or leaves
abbrev Tight : Interval → Leaving PropResult Interval → Type 0
Tight old x = Inside old x.places × Ends x.places

tightened_inside : (σ : Settings) (h old : Interval) → Ends h → Proper old → Tight old (tightened σ h old)
unfolding tightened
tightened_inside σ h old e p =
    let new = intersect h old in
    decide (Tight old) (not (is_empty new) && moves σ.slack old new) _ _
    (λ t. (intersect_right h old p.ordered (and_l (not (is_empty new)) (moves σ.slack old new) t), intersect_ends h old e p.ends))
    (λ t. (inside_refl old p.ordered, p.ends))

adopt_leaves : (σ : Settings) (hs is : List Interval) → Each Ends hs → Each Proper is → Leaves is (adopt σ hs is)
unfolding adopt
adopt_leaves σ [] is f g = narrower_refl is g
adopt_leaves σ (h ∷ hs) [] f g = narrower_refl [] g
adopt_leaves σ (h ∷ hs) (i ∷ is) f g =
    let x = tightened_inside σ h i f.0 g.0 in
    let rest = adopt_leaves σ hs is f.1 g.1 in
    record { inside = (x.0, rest.inside); proper = (record { ordered = x.0.ordered; ends = x.1 }, rest.proper) }

or_leaves : (σ : Settings) (hs : Option (List Interval)) (b : List Interval) → EachIn hs → Each Proper b → Leaves b (adopt_survivors σ hs b)
unfolding adopt_survivors
or_leaves σ None b f g = narrower_refl b g
or_leaves σ (Some hs) b f g = adopt_leaves σ hs b f g

-- ---- constraints
mutual
  unfolding to_nnf

  nnf_held : (c : Constraint) → ConstraintHeld c → ConstraintHeld (to_nnf c)
  nnf_held (Atom rel t) f = f
  nnf_held (Not c) f = negate_held c f
  nnf_held (And cs) f = nnf_all_held cs f
  nnf_held (Or cs) f = nnf_all_held cs f
  nnf_held (ForAll v lo hi c) f = nnf_held c f
  nnf_held (Exists v lo hi c) f = nnf_held c f

  negate_held : (c : Constraint) → ConstraintHeld c → ConstraintHeld (negate c)
  negate_held (Atom rel t) f = f
  negate_held (Not c) f = nnf_held c f
  negate_held (And cs) f = negate_all_held cs f
  negate_held (Or cs) f = negate_all_held cs f
  negate_held (ForAll v lo hi c) f = negate_held c f
  negate_held (Exists v lo hi c) f = negate_held c f

  nnf_all_held : (cs : Constraints) → ConstraintsHeld cs → ConstraintsHeld (to_nnf_all cs)
  nnf_all_held end f = tt
  nnf_all_held (c ⨾ cs) f = (nnf_held c f.0, nnf_all_held cs f.1)

  negate_all_held : (cs : Constraints) → ConstraintsHeld cs → ConstraintsHeld (negate_all cs)
  negate_all_held end f = tt
  negate_all_held (c ⨾ cs) f = (negate_held c f.0, negate_all_held cs f.1)

abbrev pub Round : (Constraint → List Interval → Narrowed) → Type 0
Round f = (c : Constraint) (b : List Interval) → ConstraintHeld c → Each Proper b → Leaves b (f c b)

-- a step, and the next one from where it left
abbrev Next : Narrowed → (List Interval → Narrowed) → Type 0
Next x next = Each Proper x.places → Leaves x.places (next x.places)

next_leaves : (a : List Interval) (x : Narrowed) (next : List Interval → Narrowed) → Leaves a x → Next x next → Leaves a (next x.places)
next_leaves a x next p q = narrower_trans a x.places (next x.places).places p (q p.proper)

continue_leaves : (a : List Interval) (x : Narrowed) (next : List Interval → Narrowed) → Leaves a x → Next x next → Leaves a (continue x next)
unfolding continue
continue_leaves a x next p q = either (Leaves a) _ _ _ p (next_leaves a x next p q)

module _ (σ : Settings) (under : Constraint → List Interval → Narrowed) (u : Round under) where
  mutual
    unfolding round_by

    round_leaves : (c : Constraint) (b : List Interval) → ConstraintHeld c → Each Proper b → Leaves b (round_by σ under c b)
    round_leaves (Atom rel t) b f g = atom_leaves σ rel t b f g
    round_leaves (Not c) b f g = u c b f g
    round_leaves (And cs) b f g = all_leave cs b f g
    round_leaves (Or cs) b f g = or_leaves σ (survivors σ under cs b None) b (survivors_ends cs b None f g tt) g
    round_leaves (ForAll v lo hi c) b f g = narrower_refl b g
    round_leaves (Exists v lo hi c) b f g = narrower_refl b g

    all_leave : (cs : Constraints) (b : List Interval) → ConstraintsHeld cs → Each Proper b → Leaves b (round_all σ under cs b)
    all_leave end b f g = narrower_refl b g
    all_leave (c ⨾ cs) b f g =
        let x = round_by σ under c b in
        continue_leaves b x (round_all σ under cs) (round_leaves c b f.0 g) (λ h. all_leave cs x.places f.1 h)

    survivors_ends : (cs : Constraints) (b : List Interval) (hs : Option (List Interval)) → ConstraintsHeld cs → Each Proper b → EachIn hs → EachIn (survivors σ under cs b hs)
    survivors_ends end b hs f g a = a
    survivors_ends (c ⨾ cs) b hs f g a =
        let x = round_by σ under c b in
        survivors_ends cs b (survive hs x) f.1 g (survive_ends hs x a (proper_ends x.places (round_leaves c b f.0 g).proper))

once_leaves : (σ : Settings) → Round (propagate_once σ)
unfolding propagate_once
once_leaves σ = round_leaves σ _ (λ d b f g. round_leaves σ _ (λ e b f g. narrower_refl b g) (to_nnf d) b (nnf_held d f) g)

-- ---- rounds
again_leaves : (a : List Interval) (x : Narrowed) (next : List Interval → Narrowed) → Leaves a x → Next x next → Leaves a (again x next)
unfolding again
again_leaves a x next p q = either (Leaves a) _ _ _ (next_leaves a x next p q) p

pub rounds_leave : (σ : Settings) (n : ℕ) → Round (rounds σ n)
unfolding rounds
rounds_leave σ zero c b f g = narrower_refl b g
rounds_leave σ (suc n) c b f g = let x = propagate_once σ c b in again_leaves b x (rounds σ n c) (once_leaves σ c b f g) (λ h. rounds_leave σ n c x.places f h)
