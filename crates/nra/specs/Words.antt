-- The stop words as text.
use Rattle.std.specs.Prelude.{ℕ, List, codes}
use Rattle.nra.specs.declared.answer.Stop.{Stop}

abbrev pub word_of : Stop → List ℕ
word_of Stop.Conflict = codes "conflict"
word_of Stop.Tolerance = codes "tolerance"
word_of Stop.Limit = codes "limit"
word_of Stop.Unsatisfied = codes "unsatisfied"
