-- `decide::Question::exists` meets its contract. Assumes nothing.
use Rattle.std.specs.List.{find}
use mathlib.Core.Path.{◌≡◌, refl}
use borrow.Author.Rules.{rules}
use borrow.Author.Tests.{tests}
use Rattle.decide.specs.Deciding.{decide_exists, exists_by}
use Rattle.decide.specs.Views.{passes_at}
use Rattle.decide.proofs.Ways.{first}
use Rattle.decide.proofs.question.Question.exists.Goals as goal
use Rattle.decide.proofs.question.Question.exists.Goals.{After-find}

found : (c : After-find) → c.find.result ≡ find (passes_at c.args.self.now) c.exists_samples.result
found c = first (passes_at c.args.self.now) _ c.into_iter.ensures.into_iter_gives.0 c.find.ensures.ran (λ x b q k. search (rules, tests))

pub returns : goal.returns
unfolding decide_exists exists_by
returns c = rw (← c.exists_samples.ensures, ← found _, c.in-Some.is, c.point_at.ensures) refl

pub returns-in-None : goal.returns-in-None
unfolding decide_exists exists_by
returns-in-None c = rw (← c.exists_samples.ensures, ← found _, c.in-None.is) refl
