-- The lines that document 01's printing program prints, as bytes.
use Rattle.std.specs.Prelude.{ℕ, zero, suc, List, [], ◌∷◌, ◌++◌, length, Bool, Float, Result, Ok, Err, codes, to_bits, slice_index_or}
use Rattle.std.specs.Float.{binary64, nan}
use Rattle.std.specs.Fmt.{decimal}
use Rattle.std.specs.Int.{from_bool}
use Rattle.nra.specs.Solver.{Answer, assignment, failed}
use Rattle.nra.specs.Words.{word_of}
use Rattle.eml_solve.specs.Hex.{hex_of}

-- a line's end
abbrev pub end : List ℕ
end = 10 ∷ []

abbrev pub bits_text : Float → List ℕ
bits_text x = hex_of (to_bits binary64 x)

abbrev pub halvings_line : ℕ → List ℕ
halvings_line h = codes "halvings " ++ decimal h ++ end

-- of an assignment, before its variables
unfoldable pub assigned_lines : Bool → ℕ → List ℕ
assigned_lines exact h = codes "assignment" ++ end ++ codes "exact " ++ decimal (from_bool exact) ++ end ++ halvings_line h

abbrev pub variable_line : ℕ → Float → List ℕ
variable_line i x = codes "v" ++ decimal i ++ codes " " ++ bits_text x ++ end

-- the lines of the first n variables
unfoldable pub variable_lines : ℕ → List Float → List ℕ
variable_lines zero point = []
variable_lines (suc n) point = variable_lines n point ++ variable_line n (slice_index_or point n nan)

abbrev pub solved_lines : Answer → List ℕ
solved_lines (assignment m exact h) = assigned_lines exact h ++ variable_lines (length m) m
solved_lines (failed stop r h) = word_of stop ++ end ++ codes "best " ++ bits_text r ++ end ++ halvings_line h

abbrev pub refusal_line : ℕ → List ℕ
refusal_line n = codes "refused " ++ decimal n ++ end

abbrev pub answer_lines : Result Answer ℕ → List ℕ
answer_lines (Ok a) = solved_lines a
answer_lines (Err n) = refusal_line n
