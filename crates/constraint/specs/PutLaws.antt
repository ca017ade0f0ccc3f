-- Records put one after the other. Assumes nothing.
use Rattle.std.specs.Prelude.{ℕ, ◌+◌, ◌*◌, ◌≡◌, refl, List, [], ◌∷◌, ◌++◌}
use Rattle.std.proofs.Common.{sym, ap, ◌∙◌, append_assoc, append-nil, add-zero, arith, length-append}
use Rattle.std.proofs.lemmas.List.Edits.{sets}
use Rattle.record.specs.ByteLaws.{then_bytes}
use Rattle.constraint.specs.Encoding.{record_bytes, records_bytes}
use Rattle.constraint.specs.Writing.{length_records}
use Rattle.constraint.specs.Code.{Puts}
use Rattle.constraint.specs.declared.Record.{Record}

bytes_append : (xs ys : List Record) → records_bytes xs ++ records_bytes ys ≡ records_bytes (xs ++ ys)
unfolding records_bytes
bytes_append [] ys = refl
bytes_append (x ∷ xs) ys = append_assoc (record_bytes x) (records_bytes xs) (records_bytes ys) ∙ ap (λ (l : List ℕ). record_bytes x ++ l) (bytes_append xs ys)

pub puts_is : {b c : List ℕ} {at n : ℕ} {rs qs : List Record} → rs ≡ qs → Puts b c at n qs → Puts b c at n rs
puts_is e p = rw e p

pub puts_none : (b : List ℕ) (at : ℕ) → Puts b b at at []
unfolding records_bytes
puts_none b at = record { counted = sym (add-zero at); put = refl }

pub puts_one : (b : List ℕ) {b₁ : List ℕ} (at : ℕ) (r : Record) → b₁ ≡ sets b (24 * at) (record_bytes r) → Puts b b₁ at (at + 1) (r ∷ [])
unfolding records_bytes
puts_one b at r e = record { counted = refl; put = e ∙ ap (sets b (24 * at)) (sym (append-nil (record_bytes r))) }

pub puts_then : (b : List ℕ) {b₁ b₂ : List ℕ} (at : ℕ) {n m : ℕ} (xs ys : List Record) → Puts b b₁ at n xs → Puts b₁ b₂ n m ys → Puts b b₂ at m (xs ++ ys)
puts_then b at xs ys p q = record {
  counted = q.counted ∙ omega (arith, p.counted, length-append xs ys);
  put = then_bytes b (24 * at) _ (records_bytes xs) (records_bytes ys) p.put q.put (omega (arith, p.counted, length_records xs)) ∙ ap (sets b (24 * at)) (bytes_append xs ys);
}
