-- `decide::Question::forall` meets its contract. Assumes nothing.
use mathlib.Core.Bool.{not}
use mathlib.Core.Path.{◌≡◌, refl}
use borrow.Author.Rules.{rules}
use borrow.Author.Tests.{tests}
use Rattle.std.specs.List.{find}
use Rattle.decide.specs.Deciding.{decide_forall, forall_by}
use Rattle.decide.specs.Views.{passes_at}
use Rattle.decide.proofs.Ways.{first}
use Rattle.decide.proofs.question.Question.forall.Goals as goal
use Rattle.decide.proofs.question.Question.forall.Goals.{After-find}

found : (c : After-find) → c.find.result ≡ find (λ x. not (passes_at c.args.self.now x)) c.forall_samples.result
found c = first (λ x. not (passes_at c.args.self.now x)) _ c.into_iter.ensures.into_iter_gives.0 c.find.ensures.ran (λ x b q k. search (rules, tests))

pub returns-then-is_refuted : goal.returns-then-is_refuted
unfolding decide_forall forall_by
returns-then-is_refuted c = rw (← c.is_refuted.ensures, c.if-is_refuted.true) refl

pub returns-in-None : goal.returns-in-None
unfolding decide_forall forall_by
returns-in-None c = rw (← c.is_refuted.ensures, c.if-is_refuted.false, ← c.forall_samples.ensures, ← found _, c.in-None.is) refl

pub returns : goal.returns
unfolding decide_forall forall_by
returns c = rw (← c.is_refuted.ensures, c.if-is_refuted.false, ← c.forall_samples.ensures, ← found _, c.in-Some.is, c.point_at.ensures) refl
