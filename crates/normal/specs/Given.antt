-- `to_nnf` on records that a caller gives: the refusals, and the answer with the output slice at exit.
use Rattle.std.specs.Prelude.{ℕ, zero, suc, ◌+◌, ◌*◌, ◌-◌, ◌/◌, List, leb, length, Result, Ok, Err}
use Rattle.std.proofs.lemmas.List.Edits.{sets}
use Rattle.record.specs.Leaving.{Leaving, ◌leaving◌}
use Rattle.record.specs.Refusal.{◌or_else◌, ◌unless◌, refused_or}
use Rattle.constraint.specs.declared.Record.{Record}
use Rattle.constraint.specs.Records.{record_at, formula_at}
use Rattle.constraint.specs.Encoding.{records_bytes, records_of}
use Rattle.file.specs.File.{given_refusal}
use Rattle.normal.specs.NormalForm.{to_nnf}

-- how many records are no Not
abbrev pub kept_of : Record → ℕ
kept_of (Record.Atom rel i) = 1
kept_of Record.Not = 0
kept_of (Record.And m) = 1
kept_of (Record.Or m) = 1
kept_of (Record.ForAll v lo hi) = 1
kept_of (Record.Exists v lo hi) = 1

unfoldable pub count_kept : List ℕ → ℕ → ℕ
count_kept b zero = 0
count_kept b (suc k) = count_kept b k + kept_of (record_at b k)

-- the records of the normal form of what n records leave
unfoldable pub nnf_records : List ℕ → ℕ → List Record
nnf_records b n = records_of (to_nnf (formula_at b (n - 1)))

-- 2 to 7 for the records; 10 where the output slice is too short
unfoldable pub nnf_refusal : List ℕ → List ℕ → List ℕ → ℕ
nnf_refusal nodes b out = given_refusal nodes b or_else 10 unless leb (24 * length (nnf_records b (length b / 24))) (length out)

-- the answer, and the output at exit: a refusal alters nothing; else the number of records, written from the start, and the places past the last one stay
unfoldable pub to_nnf_given : List ℕ → List ℕ → List ℕ → Leaving (Result ℕ ℕ) (List ℕ)
to_nnf_given nodes b out =
    let rs = nnf_records b (length b / 24) in
    refused_or (nnf_refusal nodes b out) (λ r. Err r leaving out) (Ok (length rs) leaving sets out 0 (records_bytes rs))
