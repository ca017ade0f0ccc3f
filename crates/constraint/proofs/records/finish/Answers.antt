-- `constraint::records::finish` meets its contract: the greatest depth and the most quantifiers of those that are taken. Assumes nothing.
use borrow.Author.Tests.{le-leb}
use Rattle.std.proofs.Common.{◌+◌, ◌≤◌, ◌≡◌, unwrap_or, ap, ◌∙◌, rules, tests, arith}
use Rattle.std.proofs.lemmas.Bool.Decides.{nat_tests}
use Rattle.std.proofs.lemmas.Iterator.{YieldsList-from_slice, YieldsList-from_map}
use Rattle.std.proofs.lemmas.Iterator.Consumers.{reduce_from_yields_List}
use Rattle.std.proofs.lemmas.List.Folds.{max_of_map}
use Rattle.constraint.specs.Code.{binds, greatest, depths, quantified}
use Rattle.constraint.proofs.Testing.{greatest_is}
use Rattle.constraint.specs.declared.stack.Finished.{Finished}
use Rattle.constraint.proofs.records.finish.Goals as goal
use Rattle.constraint.proofs.records.finish.Goals.{After-unwrap_or-most}

module _ (c : After-unwrap_or-most) where
  deepest_is : c.unwrap_or-deepest.result ≡ greatest (depths c.args.taken.now)
  deepest_is =
      let s = c.args.taken.now in
      let f = λ (x : Finished). x.depth in
      c.unwrap_or-deepest.ensures
      ∙ ap (λ o. unwrap_or o 0) (reduce_from_yields_List _ c.map.result _ c.max.ensures.ran (YieldsList-from_map _ f (YieldsList-from_slice s cc) c.map.ensures.closure (λ x b q k. search (rules, tests))))
      ∙ max_of_map f s
      ∙ greatest_is f s

  most_is : c.unwrap_or-most.result ≡ greatest (quantified c.args.taken.now)
  most_is =
      let s = c.args.taken.now in
      let f = λ (x : Finished). x.quantifiers in
      c.unwrap_or-most.ensures
      ∙ ap (λ o. unwrap_or o 0) (reduce_from_yields_List _ c.map-2.result _ c.max-2.ensures.ran (YieldsList-from_map _ f (YieldsList-from_slice s cc) c.map-2.ensures.closure (λ x b q k. search (rules, tests))))
      ∙ max_of_map f s
      ∙ greatest_is f s

pub returns-then-depth-gt16-clause-refusal : goal.returns-then-depth-gt16-clause-refusal
returns-then-depth-gt16-clause-refusal c =
    let w = (goal.at.returns-then-depth-gt16-clause-refusal c).After-unwrap_or-most in
    grind (arith, nat_tests, deepest_is w, most_is w)

pub returns-clause-refusal : goal.returns-clause-refusal
returns-clause-refusal c =
    let w = (goal.at.returns-clause-refusal c).After-unwrap_or-most in
    let d : 1 + greatest (depths c.args.taken.now) ≤ 16 = omega (arith, deepest_is w) in
    let q : binds c.args.r + greatest (quantified c.args.taken.now) ≤ 4 = omega (arith, most_is w) in
    simp (le-leb _ _ d, le-leb _ _ q)

pub returns-clause-depth : goal.returns-clause-depth
returns-clause-depth c = omega (arith, deepest_is (goal.at.returns-clause-depth c).After-unwrap_or-most)

pub returns-clause-quantifiers : goal.returns-clause-quantifiers
returns-clause-quantifiers c = omega (arith, most_is (goal.at.returns-clause-quantifiers c).After-unwrap_or-most)
