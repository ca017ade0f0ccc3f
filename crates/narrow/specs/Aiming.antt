-- An Eml that is to compare with zero asks its children at once, by what was computed of them forward; and that this is the definition's
-- atom. Assumes nothing.
use Rattle.std.specs.Prelude.{◌≡◌, Bool, ◌||◌, List, Option, Some, None, Result, Ok, Err}
use Rattle.std.proofs.Math.Path.{refl, ap₂}
use Rattle.std.proofs.Math.Bool.{true, false}
use Rattle.std.specs.Float.Ieee.{lt}
use Rattle.number.specs.Notation.{when◌then◌else◌}
use Rattle.settings.specs.declared.Settings.{Settings}
use Rattle.interval.specs.declared.Interval.{Interval}
use Rattle.interval.specs.Interval.{is_empty, nothing, exp, has_ln, ln, minus, intersect}
use Rattle.record.specs.Leaving.{◌leaving◌}
use Rattle.tree.specs.Tree.{Tree, Eml}
use Rattle.constraint.specs.declared.Relation.{Relation}
use Rattle.narrow.specs.declared.forward.Children.{Children}
use Rattle.narrow.specs.declared.PropResult.{PropResult}
use Rattle.narrow.specs.declared.PropResult.TheVariants.{Stable, Conflict}
use Rattle.narrow.specs.Narrowing.{Narrowed, Demand, on_ok, eml_interval, forward, eval_interval, children, ask, demand, ask_both, backward, fails, target_of, nudge_tree, aim, narrow_to, narrow_atom}

unfoldable pub common_of : Interval → Interval → Result Interval PropResult
common_of i j = let both = intersect i j in when is_empty both then Err Conflict else Ok both

unfoldable pub aimed_to : Option Interval → Children → Demand
aimed_to (Some out) c = when is_empty out then Err Conflict else ask out c
aimed_to None c = Err Stable

unfoldable pub aimed : Settings → Relation → Children → Demand
aimed σ rel c = let v = minus c.exp_left c.ln_right in when is_empty v || fails σ rel v then Err Conflict else aimed_to (target_of rel v) c

unfoldable pub aim_at : Settings → Relation → Option Interval → Option Interval → Demand
aim_at σ rel l r = on_ok (children l r) (aimed σ rel)

none_in_nothing : is_empty nothing ≡ true
unfolding is_empty lt
none_in_nothing = refl

module _ (σ : Settings) (rel : Relation) (x y : Tree) (b : List Interval) where
  abbrev asked : Demand → Narrowed
  asked d = ask_both d (backward σ x) (backward σ y) b

  module _ (c : Children) (k : children (eval_interval b x) (eval_interval b y) ≡ Ok c) where
    out_is : (out : Interval) (e : Bool) → asked (when e then Err Conflict else ask out c) ≡ (when e then Conflict leaving b else asked (demand (eval_interval b x) (eval_interval b y) out))
    unfolding ask_both demand when◌then◌else◌
    out_is out true = refl
    out_is out false = simp k

    target_is : (t : Option Interval) → asked (aimed_to t c) ≡ aim σ t (Eml x y) b
    unfolding aimed_to aim ask_both nudge_tree backward
    target_is (Some out) = out_is out (is_empty out)
    target_is None = refl

    real_is : (v : Interval) (e : Bool) → asked (when e then Err Conflict else aimed_to (target_of rel v) c) ≡ (when e then Conflict leaving b else aim σ (target_of rel v) (Eml x y) b)
    unfolding ask_both when◌then◌else◌
    real_is v true = refl
    real_is v false = target_is (target_of rel v)

  module _ (l r : Interval) where
    abbrev known : Children
    known = record { left = l; right = r; exp_left = exp l; ln_right = ln r }

    known_is : (e h : Bool) → children (eval_interval b x) (eval_interval b y) ≡ (when e then Err Conflict else when h then Ok known else Err Stable)
        → asked (on_ok (when e then Err Conflict else when h then Ok known else Err Stable) (aimed σ rel))
        ≡ narrow_to σ rel (Eml x y) (when e then Some nothing else when h then Some (minus (exp l) (ln r)) else None) b
    unfolding ask_both aimed narrow_to when◌then◌else◌
    known_is true h k = simp none_in_nothing
    known_is false true k = let v = minus (exp l) (ln r) in real_is known k v (is_empty v || fails σ rel v)
    known_is false false k = refl

  values_are : (u v : Option Interval) → eval_interval b x ≡ u → eval_interval b y ≡ v → asked (aim_at σ rel u v) ≡ narrow_to σ rel (Eml x y) (forward u v) b
  unfolding aim_at children ask_both forward eml_interval narrow_to
  values_are (Some l) (Some r) p q = known_is l r (is_empty l || is_empty r) (has_ln r) (ap₂ children p q)
  values_are (Some l) None p q = refl
  values_are None v p q = refl

  pub eml_aimed : asked (aim_at σ rel (eval_interval b x) (eval_interval b y)) ≡ narrow_atom σ rel (Eml x y) b
  unfolding narrow_atom eval_interval
  eml_aimed = values_are (eval_interval b x) (eval_interval b y) refl refl
