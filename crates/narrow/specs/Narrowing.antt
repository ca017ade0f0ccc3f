-- Narrowing (document 01; interval.rs): `eval_interval`, `backward_propagate` and `propagate_once`, step by step.
use Rattle.std.specs.Prelude.{ℕ, zero, suc, ◌^◌, Bool, true, false, not, ◌&&◌, ◌||◌, List, [], ◌∷◌, ltb, length, get_or, set, Float, Option, Some, None, Result, Ok, Err}
use Rattle.std.specs.Float.{binary64}
use Rattle.std.specs.Float.Ieee.{neg, eq}
use Rattle.std.specs.Simd.Lanes.{zip2}
use Rattle.number.specs.Notation.{when◌then◌else◌, ◌≺◌, ◌≼◌, whole, decimal}
use Rattle.number.specs.Sign.{abs_of}
use Rattle.number.specs.MaxMin.{max_of, min_of}
use Rattle.number.specs.Next.{next_up, next_down}
use Rattle.settings.specs.declared.Settings.{Settings}
use Rattle.interval.specs.declared.Interval.{Interval}
use Rattle.interval.specs.Interval.{◌‥◌, is_empty, width, contains, intersect, hull, nothing, exp, has_ln, ln, plus, minus, moves}
use Rattle.interval.specs.Boxes.{missing}
use Rattle.record.specs.Leaving.{Leaving, ◌leaving◌}
use Rattle.tree.specs.Tree.{Tree}
use Rattle.constraint.specs.declared.Relation.{Relation}
use Rattle.constraint.specs.declared.Relation.TheVariants.{EqZero, GtZero, GeZero, LtZero, LeZero, NeZero}
use Rattle.constraint.specs.Constraint.{Constraint, Constraints, Atom, Not, And, Or, ForAll, Exists, end, ◌⨾◌}
use Rattle.normal.specs.NormalForm.{to_nnf}
use Rattle.narrow.specs.declared.PropResult.{PropResult}
use Rattle.narrow.specs.declared.PropResult.TheVariants.{Changed, Stable, Conflict}
use Rattle.narrow.specs.declared.forward.Pair.{Pair}
use Rattle.narrow.specs.declared.forward.Children.{Children}

-- what a step answers, and the boxes that it leaves
abbrev pub Narrowed : Type 0
Narrowed = Leaving PropResult (List Interval)

abbrev pub is_conflict : PropResult → Bool
is_conflict Conflict = true
is_conflict Changed = false
is_conflict Stable = false

-- of two steps: Conflict if either says so, else Changed if either does
abbrev pub worse_of : PropResult → PropResult → PropResult
worse_of Conflict y = Conflict
worse_of Changed Conflict = Conflict
worse_of Changed Changed = Changed
worse_of Changed Stable = Changed
worse_of Stable y = y

-- a step after others, which answered w
abbrev pub joined : PropResult → Narrowed → Narrowed
joined w x = worse_of w x.answer leaving x.places

-- after a step, the next one on the boxes that it left, unless it met a Conflict
unfoldable pub continue : Narrowed → (List Interval → Narrowed) → Narrowed
continue x next = when is_conflict x.answer then x else joined x.answer (next x.places)

-- ---- forward: the interval of a tree's values, where real arithmetic can tell
unfoldable pub eml_interval : Interval → Interval → Option Interval
eml_interval l r = when is_empty l || is_empty r then Some nothing else when has_ln r then Some (minus (exp l) (ln r)) else None

-- of two that are known
unfoldable pub forward : Option Interval → Option Interval → Option Interval
forward (Some l) (Some r) = eml_interval l r
forward (Some l) None = None
forward None r = None

unfoldable pub eval_interval : List Interval → Tree → Option Interval
eval_interval b Tree.One = Some (whole 1 ‥ whole 1)
eval_interval b (Tree.Const v) = Some (v ‥ v)
eval_interval b (Tree.Var i) = Some (get_or b i missing)
eval_interval b (Tree.Eml l r) = forward (eval_interval b l) (eval_interval b r)

-- ---- backward: what a node's value is to lie in is passed on to its children, down to the variables
-- what an Eml asks of its children, or answers at once
abbrev pub Demand : Type 0
Demand = Result Pair PropResult

-- goes on with a value, and hands on an answer
abbrev pub on_ok : {A B : Type 0} → Result A PropResult → (A → Result B PropResult) → Result B PropResult
on_ok (Ok x) next = next x
on_ok (Err w) next = Err w

-- the children, with what is computed of them forward
unfoldable pub children : Option Interval → Option Interval → Result Children PropResult
children (Some l) (Some r) =
    when is_empty l || is_empty r then Err Conflict
    else when has_ln r then Ok (record { left = l; right = r; exp_left = exp l; ln_right = ln r })
    else Err Stable
children (Some l) None = Err Stable
children None r = Err Stable

unfoldable pub left_of : Interval → Interval → Interval
left_of l range = when whole 0 ≺ range.lo then intersect l (ln range) else l

-- out = exp(left) - ln(right)
unfoldable pub ask : Interval → Children → Demand
ask out c =
    let out_c = intersect out (minus c.exp_left c.ln_right) in
    let exp_c = intersect c.exp_left (plus out_c c.ln_right) in
    let ln_c = intersect c.ln_right (minus c.exp_left out_c) in
    when is_empty out_c || is_empty exp_c || is_empty ln_c then Err Conflict else Ok (record { left = left_of c.left exp_c; right = intersect c.right (exp ln_c) })

unfoldable pub demand : Option Interval → Option Interval → Interval → Demand
demand l r out = on_ok (children l r) (ask out)

-- left first; then right, asked what was computed before left wrote, also after a Conflict
unfoldable pub ask_both : Demand → (Interval → List Interval → Narrowed) → (Interval → List Interval → Narrowed) → List Interval → Narrowed
ask_both (Err w) left right b = w leaving b
ask_both (Ok asked) left right b = let x = left asked.left b in joined x.answer (right asked.right x.places)

-- a node of the one value v
unfoldable pub fixed_at : Float → Interval → PropResult
fixed_at v out = when contains out v then Stable else Conflict

-- a variable beyond the list may be Changed, and nothing is written
unfoldable pub narrow_var : Settings → ℕ → Interval → List Interval → Narrowed
narrow_var σ i out b =
    let old = get_or b i missing in
    let new = intersect old out in
    when is_empty new then Conflict leaving b else when moves σ.slack old new then Changed leaving set b i new else Stable leaving b

unfoldable pub backward : Settings → Tree → Interval → List Interval → Narrowed
backward σ Tree.One out b = when is_empty out then Conflict leaving b else (fixed_at (whole 1) out leaving b)
backward σ (Tree.Const v) out b = when is_empty out then Conflict leaving b else (fixed_at v out leaving b)
backward σ (Tree.Var i) out b = when is_empty out then Conflict leaving b else narrow_var σ i out b
backward σ (Tree.Eml l r) out b =
    when is_empty out then Conflict leaving b else ask_both (demand (eval_interval b l) (eval_interval b r) out) (backward σ l) (backward σ r) b

-- ---- one atom
-- four times the f64 epsilon
abbrev pub eps : Float
eps = decimal 1 (2 ^ 50)

-- no value in v, which is not empty, compares with zero as the relation says
unfoldable pub fails : Settings → Relation → Interval → Bool
fails σ EqZero v = (whole 0 ≺ v.lo) || (v.hi ≺ whole 0)
fails σ GtZero v = v.hi ≼ whole 0
fails σ GeZero v = v.hi ≺ whole 0
fails σ LtZero v = whole 0 ≼ v.lo
fails σ LeZero v = whole 0 ≺ v.lo
fails σ NeZero v = (width v ≺ σ.slack) && (abs_of v.lo ≺ σ.slack)

-- what a tree in v is to lie in
unfoldable pub target_of : Relation → Interval → Option Interval
target_of EqZero v = Some (whole 0 ‥ whole 0)
target_of GtZero v = Some (max_of v.lo eps ‥ v.hi)
target_of GeZero v = Some (max_of v.lo (whole 0) ‥ v.hi)
target_of LtZero v = Some (v.lo ‥ min_of v.hi (neg eps))
target_of LeZero v = Some (v.lo ‥ min_of v.hi (whole 0))
target_of NeZero v = None

-- NeZero moves an end of a bare variable off zero
unfoldable pub nudge_var : ℕ → List Interval → Narrowed
nudge_var i b =
    let v = get_or b i missing in
    when not (ltb i (length b)) then Stable leaving b
    else when eq v.lo (whole 0) && (whole 0 ≺ v.hi) then Changed leaving set b i (next_up binary64 (whole 0) ‥ v.hi)
    else when eq v.hi (whole 0) && (v.lo ≺ whole 0) then Changed leaving set b i (v.lo ‥ next_down binary64 (whole 0))
    else Stable leaving b

unfoldable pub nudge_tree : Tree → List Interval → Narrowed
nudge_tree Tree.One b = Stable leaving b
nudge_tree (Tree.Const v) b = Stable leaving b
nudge_tree (Tree.Var i) b = nudge_var i b
nudge_tree (Tree.Eml l r) b = Stable leaving b

unfoldable pub aim : Settings → Option Interval → Tree → List Interval → Narrowed
aim σ (Some out) t b = backward σ t out b
aim σ None t b = nudge_tree t b

unfoldable pub narrow_to : Settings → Relation → Tree → Option Interval → List Interval → Narrowed
narrow_to σ rel t (Some v) b = when is_empty v || fails σ rel v then Conflict leaving b else aim σ (target_of rel v) t b
narrow_to σ rel t None b = Stable leaving b

unfoldable pub narrow_atom : Settings → Relation → Tree → List Interval → Narrowed
narrow_atom σ rel t b = narrow_to σ rel t (eval_interval b t) b

-- ---- one round
-- Or: the hull of the survivors so far, in order; of two lists of boxes, that of each pair
unfoldable pub hulls : List Interval → List Interval → List Interval
hulls hs is = zip2 hull hs is

unfoldable pub hull_with : Option (List Interval) → List Interval → List Interval
hull_with None b = b
hull_with (Some hs) b = hulls hs b

-- after one more branch
unfoldable pub survive : Option (List Interval) → Narrowed → Option (List Interval)
survive so_far x = when is_conflict x.answer then so_far else Some (hull_with so_far x.places)

-- the hull, intersected with the original, is written where an end moves
unfoldable pub tightened : Settings → Interval → Interval → Leaving PropResult Interval
tightened σ h old = let new = intersect h old in when not (is_empty new) && moves σ.slack old new then Changed leaving new else Stable leaving old

unfoldable pub adopt : Settings → List Interval → List Interval → Narrowed
adopt σ [] is = Stable leaving is
adopt σ (h ∷ hs) [] = Stable leaving []
adopt σ (h ∷ hs) (i ∷ is) = let x = tightened σ h i in let rest = adopt σ hs is in worse_of x.answer rest.answer leaving (x.places ∷ rest.places)

unfoldable pub adopt_survivors : Settings → Option (List Interval) → List Interval → Narrowed
adopt_survivors σ None b = Conflict leaving b
adopt_survivors σ (Some hs) b = adopt σ hs b

-- each branch of an Or starts from the same boxes; `under` says what is done with a Not
unfoldable mutual
  pub round : Settings → (Constraint → List Interval → Narrowed) → Constraint → List Interval → Narrowed
  round σ under (Atom rel t) b = narrow_atom σ rel t b
  round σ under (Not c) b = under c b
  round σ under (And cs) b = round_all σ under cs b
  round σ under (Or cs) b = adopt_survivors σ (survivors σ under cs b None) b
  round σ under (ForAll v lo hi c) b = Stable leaving b
  round σ under (Exists v lo hi c) b = Stable leaving b

  pub round_all : Settings → (Constraint → List Interval → Narrowed) → Constraints → List Interval → Narrowed
  round_all σ under end b = Stable leaving b
  round_all σ under (c ⨾ cs) b = continue (round σ under c b) (round_all σ under cs)

  pub survivors : Settings → (Constraint → List Interval → Narrowed) → Constraints → List Interval → Option (List Interval) → Option (List Interval)
  survivors σ under end b so_far = so_far
  survivors σ under (c ⨾ cs) b so_far = survivors σ under cs b (survive so_far (round σ under c b))

-- Under a Not the Rust narrows by the normal form of what is inside, which is not its negation. A normal form has no Not.
unfoldable pub propagate_once : Settings → Constraint → List Interval → Narrowed
propagate_once σ c b = round σ (λ d. round σ (λ e b'. Stable leaving b') (to_nnf d)) c b

-- ---- rounds, until nothing changes
abbrev pub is_changed : PropResult → Bool
is_changed Changed = true
is_changed Stable = false
is_changed Conflict = false

-- after a round that changed a box, the next one
unfoldable pub again : Narrowed → (List Interval → Narrowed) → Narrowed
again x next = when is_changed x.answer then joined x.answer (next x.places) else x

unfoldable pub rounds : Settings → ℕ → Constraint → List Interval → Narrowed
rounds σ zero c b = Stable leaving b
rounds σ (suc n) c b = again (propagate_once σ c b) (rounds σ n c)

unfoldable pub propagate : Settings → Constraint → List Interval → Narrowed
propagate σ c b = rounds σ σ.rounds c b
