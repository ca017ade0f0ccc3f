-- `file::House::new` meets its contract. Assumes nothing.
use mathlib.Core.Path.{sym, ◌∙◌}
use Rattle.file.specs.FileLaws.{laid}
use Rattle.file.proofs.House.new.Goals as goal

pub invariant_of-result : goal.invariant_of-result
invariant_of-result c = record { laid = laid _ (sym c.is_laid_out.ensures ∙ c.if-not-is_laid_out.false) }
