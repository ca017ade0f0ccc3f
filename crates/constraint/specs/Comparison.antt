-- `lt`, `le`, `gt`, `ge` (constraint.rs), by their relation: what `sub` appends, and the atom's record on the result node.
use Rattle.std.specs.Prelude.{ℕ, ◌+◌, ◌*◌, List, leb, length, Result, Ok, Err}
use Rattle.std.proofs.lemmas.List.Edits.{sets}
use Rattle.record.specs.Leaving.{Leaving, ◌leaving◌}
use Rattle.record.specs.Refusal.{◌or_else◌, ◌unless◌, refused_or}
use Rattle.tree.specs.Encoding.{nodes_bytes}
use Rattle.tree.specs.Canonical.{sub_nodes, sub_refusal}
use Rattle.constraint.specs.Encoding.{record_bytes}
use Rattle.constraint.specs.declared.Relation.{Relation}
use Rattle.constraint.specs.declared.Record.{Record}

-- as sub, then 10 for an output under a record's bytes
unfoldable pub compare_refusal : List ℕ → ℕ → ℕ → ℕ → List ℕ → ℕ
compare_refusal b n x y out = sub_refusal b n x y or_else 10 unless leb 24 (length out)

-- ---- the answer, and the list and the output at exit
unfoldable pub compared : Relation → List ℕ → ℕ → ℕ → ℕ → List ℕ → Leaving (Result ℕ ℕ) (List ℕ × List ℕ)
compared rel b n x y out =
    refused_or (compare_refusal b n x y out)
    (λ r. Err r leaving (b, out))
    (Ok (n + 6) leaving (sets b (16 * n) (nodes_bytes (sub_nodes n x y)), sets out 0 (record_bytes (Record.Atom rel (n + 6)))))
