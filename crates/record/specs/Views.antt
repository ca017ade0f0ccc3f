-- What a lent place holds when a call begins, and when it returns.
use Rattle.std.specs.Borrow.{MutBor}
use denote.Triple.Both.{Both}

abbrev pub old : {A X : Type 0} → Both (MutBor A) X → A
old x = x.entry.now

abbrev pub final : {A X : Type 0} → Both X (MutBor A) → A
final x = x.exit.now
