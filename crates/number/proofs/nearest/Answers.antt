-- `number::nearest` meets its contract below zero. Assumes nothing.
use Rattle.std.proofs.Common.{rules}
use Rattle.number.specs.Order.{passed}
use Rattle.number.proofs.Whole.{down_is}
use Rattle.number.proofs.nearest.Goals as goal

pub returns-then-t-lt0 : goal.returns-then-t-lt0
returns-then-t-lt0 c = search (rules, passed, down_is)
