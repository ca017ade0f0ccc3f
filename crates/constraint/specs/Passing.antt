-- A formula's records, written and read again, pass the tests and leave the formula. Assumes nothing.
use Rattle.std.specs.Prelude.{ℕ, suc, ◌+◌, ◌*◌, ◌-◌, ◌≤◌, ◌<◌, ◌≡◌, refl, true, List, [], ◌∷◌, ◌++◌, length, get_or, take, drop}
use Rattle.std.proofs.Common.{sym, ap, ap₂, ◌∙◌, subst, append_assoc, append-nil, add-zero, zero-add, arith, length-append}
use borrow.Author.Tests.{le-leb}
use Rattle.std.proofs.Math.Seq.{take-append_seam, drop-append_seam}
use Rattle.record.specs.Refusal.{first}
use Rattle.record.specs.RefusalLaws.{none_more}
use Rattle.constraint.specs.Constraint.{Formula, Formulas, Atom, Not, And, Or, ForAll, Exists, end, ◌⨾◌, number, levels, levels_all, quantifiers, quantifiers_all}
use Rattle.constraint.specs.Records.{record_at, is_ranged, takes, gather, none, finish, finished, formula_at, record_refusal, records_refusal}
use Rattle.constraint.specs.Encoding.{record_bytes, records_bytes, records_of, records_of_all}
use Rattle.constraint.specs.Code.{Writable}
use Rattle.constraint.specs.Writing.{record_byte, record_same, is_record_same, read_back, is_record_written}
use Rattle.constraint.specs.RecordLaws.{only_left}
use Rattle.constraint.specs.Fitting.{Fitting, FittingAll}
use Rattle.constraint.specs.declared.Record.{Record}

-- ---- what records finish, one after the other
abbrev step : Record → List (Formula ℕ) → List (Formula ℕ)
step r before =
    let base = length before - takes r in
    take base before ++ finish r (drop base before) ∷ []

listed : Formulas ℕ → List (Formula ℕ)
listed end = []
listed (c ⨾ cs) = c ∷ listed cs

gather_listed : (cs : Formulas ℕ) → gather (listed cs) ≡ cs
unfolding listed gather
gather_listed end = refl
gather_listed (c ⨾ cs) = ap (λ (ds : Formulas ℕ). c ⨾ ds) (gather_listed cs)

length_listed : (cs : Formulas ℕ) → length (listed cs) ≡ number cs
unfolding listed number
length_listed end = refl
length_listed (c ⨾ cs) = ap suc (length_listed cs)

module _ (n : ℕ) where
  -- record r passes after those that are finished
  record Passing (r : Record) (before : List (Formula ℕ)) : Type 0 where
    fits_it : Writable n r
    takes_there : takes r ≤ length before
    in_range : is_ranged r ≡ true
    shallow : levels (finish r (drop (length before - takes r) before)) ≤ 16
    few : quantifiers (finish r (drop (length before - takes r) before)) ≤ 4

  -- the records pass, and lead to those that are finished then
  abbrev Leads : List Record → List (Formula ℕ) → List (Formula ℕ) → Type 0
  Leads [] before after = before ≡ after
  Leads (r ∷ rs) before after = Passing r before × Leads rs (step r before) after

  -- a record that takes the last ones and finishes c
  module _ (r : Record) (xs : List (Formula ℕ)) (c : Formula ℕ) (t : takes r ≡ length xs) (e : finish r xs ≡ c)
      (w : Writable n r) (g : is_ranged r ≡ true) (l : levels c ≤ 16) (q : quantifiers c ≤ 4) (before after : List (Formula ℕ)) (rest : List Record) where
    base : length (before ++ xs) - takes r ≡ length before
    base = omega (arith, t, length-append before xs)

    taken : drop (length (before ++ xs) - takes r) (before ++ xs) ≡ xs
    taken = ap (λ (i : ℕ). drop i (before ++ xs)) base ∙ drop-append_seam before xs

    made : finish r (drop (length (before ++ xs) - takes r) (before ++ xs)) ≡ c
    made = ap (finish r) taken ∙ e

    stepped : step r (before ++ xs) ≡ before ++ c ∷ []
    stepped = ap₂ (λ (u : List (Formula ℕ)) (d : Formula ℕ). u ++ d ∷ []) (ap (λ (i : ℕ). take i (before ++ xs)) base ∙ take-append_seam before xs) made

    finishes : Leads rest (before ++ c ∷ []) after → Leads (r ∷ rest) (before ++ xs) after
    finishes h = (
      record {
        fits_it = w;
        takes_there = omega (arith, t, length-append before xs);
        in_range = g;
        shallow = omega (arith, ap levels made);
        few = omega (arith, ap quantifiers made);
      },
      subst (λ (u : List (Formula ℕ)). Leads rest u after) (sym stepped) h,
    )

  mutual
    unfolding Fitting records_of finish levels quantifiers listed

    leads : (c : Formula ℕ) → Fitting n c → levels c ≤ 16 → quantifiers c ≤ 4 → (before after : List (Formula ℕ)) (rest : List Record) →
        Leads rest (before ++ c ∷ []) after → Leads (records_of c ++ rest) before after
    leads (Atom rel i) f l q before after rest h =
        subst (λ (u : List (Formula ℕ)). Leads (Record.Atom rel i ∷ rest) u after) (append-nil before)
        (finishes (Record.Atom rel i) [] (Atom rel i) refl refl f refl l q before after rest h)
    leads (Not c) f l q before after rest h =
        rw (append_assoc (records_of c) (Record.Not ∷ []) rest)
        (leads c f (omega arith) q before after (Record.Not ∷ rest) (finishes Record.Not (c ∷ []) (Not c) refl refl tt refl l q before after rest h))
    leads (And cs) f l q before after rest h =
        rw (append_assoc (records_of_all cs) (Record.And (number cs) ∷ []) rest)
        (leads_all cs f.1 (omega arith) q before after (Record.And (number cs) ∷ rest)
        (finishes (Record.And (number cs)) (listed cs) (And cs) (sym (length_listed cs)) (ap And (gather_listed cs)) f.0 refl l q before after rest h))
    leads (Or cs) f l q before after rest h =
        rw (append_assoc (records_of_all cs) (Record.Or (number cs) ∷ []) rest)
        (leads_all cs f.1 (omega arith) q before after (Record.Or (number cs) ∷ rest)
        (finishes (Record.Or (number cs)) (listed cs) (Or cs) (sym (length_listed cs)) (ap Or (gather_listed cs)) f.0 refl l q before after rest h))
    leads (ForAll v lo hi c) f l q before after rest h =
        rw (append_assoc (records_of c) (Record.ForAll v lo hi ∷ []) rest)
        (leads c f.4 (omega arith) (omega arith) before after (Record.ForAll v lo hi ∷ rest)
        (finishes (Record.ForAll v lo hi) (c ∷ []) (ForAll v lo hi c) refl refl (f.0, f.1, f.2) f.3 l q before after rest h))
    leads (Exists v lo hi c) f l q before after rest h =
        rw (append_assoc (records_of c) (Record.Exists v lo hi ∷ []) rest)
        (leads c f.4 (omega arith) (omega arith) before after (Record.Exists v lo hi ∷ rest)
        (finishes (Record.Exists v lo hi) (c ∷ []) (Exists v lo hi c) refl refl (f.0, f.1, f.2) f.3 l q before after rest h))

    leads_all : (cs : Formulas ℕ) → FittingAll n cs → levels_all cs ≤ 16 → quantifiers_all cs ≤ 4 → (before after : List (Formula ℕ)) (rest : List Record) →
        Leads rest (before ++ listed cs) after → Leads (records_of_all cs ++ rest) before after
    leads_all end f l q before after rest h = subst (λ (u : List (Formula ℕ)). Leads rest u after) (append-nil before) h
    leads_all (c ⨾ cs) f l q before after rest h =
        rw (append_assoc (records_of c) (records_of_all cs) rest)
        (leads c f.0 (omega arith) (omega arith) before after (records_of_all cs ++ rest)
        (leads_all cs f.1 (omega arith) (omega arith) (before ++ c ∷ []) after rest
        (subst (λ (u : List (Formula ℕ)). Leads rest u after) (sym (append_assoc before (c ∷ []) (listed cs))) h)))

-- ---- records as bytes
module _ (n : ℕ) (few : n ≤ 1024) (b : List ℕ) where
  module _ (r : Record) (j : ℕ) (same : (o : ℕ) → o < 24 → get_or b (24 * j + o) 0 ≡ get_or (record_bytes r) (24 * 0 + o) 0) (p : Passing n r (finished b j)) where
    is : record_at b j ≡ r
    is = record_same b (record_bytes r) j 0 same ∙ read_back n few r p.fits_it

    passes : record_refusal n b j ≡ 0
    unfolding record_refusal formula_at
    passes =
        rw (
          is,
          is_record_same b (record_bytes r) j 0 same n ∙ is_record_written n few r p.fits_it,
          le-leb _ _ p.takes_there,
          p.in_range,
          le-leb _ _ p.shallow,
          le-leb _ _ p.few,
        )

    stepped_to : finished b (suc j) ≡ step r (finished b j)
    unfolding finished
    stepped_to = rw is

  -- records that lie from number j on
  walk : (rs : List Record) (j : ℕ) (after : List (Formula ℕ)) →
      ((i : ℕ) → i < length rs → (o : ℕ) → o < 24 → get_or b (24 * (j + i) + o) 0 ≡ get_or (record_bytes (get_or rs i Record.Not)) (24 * 0 + o) 0) →
      Leads n rs (finished b j) after → first (record_refusal n b) j ≡ 0 →
      (first (record_refusal n b) (j + length rs) ≡ 0) × (finished b (j + length rs) ≡ after)
  walk [] j after lie e f = rw (add-zero j) (f, e)
  walk (r ∷ rs) j after lie l f =
      let same : (o : ℕ) → o < 24 → get_or b (24 * j + o) 0 ≡ get_or (record_bytes r) (24 * 0 + o) 0 =
      λ o h. ap (λ (i : ℕ). get_or b (24 * i + o) 0) (sym (add-zero j)) ∙ lie 0 (omega arith) o h in
      let next : suc j + length rs ≡ j + suc (length rs) = omega arith in
      subst (λ (i : ℕ). (first (record_refusal n b) i ≡ 0) × (finished b i ≡ after)) next
      (walk rs (suc j) after
      (λ i h o g. ap (λ (k : ℕ). get_or b (24 * k + o) 0) (omega arith) ∙ lie (suc i) (omega arith) o g)
      (subst (λ (u : List (Formula ℕ)). Leads n rs u after) (sym (stepped_to r j same l.0)) l.1)
      (ap (first (record_refusal n b)) (omega arith) ∙ none_more (record_refusal n b) j f (passes r j same l.0)))

-- ---- the records of a formula
module _ (n : ℕ) (few : n ≤ 1024) (c : Formula ℕ) (f : Fitting n c) (l : levels c ≤ 16) (q : quantifiers c ≤ 4) where
  abbrev rs : List Record
  rs = records_of c

  all_pass : Leads n rs [] (c ∷ [])
  all_pass = subst (λ (u : List Record). Leads n u [] (c ∷ [])) (append-nil rs) (leads n c f l q [] (c ∷ []) [] refl)

  walked : (first (record_refusal n (records_bytes rs)) (length rs) ≡ 0) × (finished (records_bytes rs) (length rs) ≡ c ∷ [])
  walked =
      rw (← zero-add (length rs))
      (walk n few (records_bytes rs) rs 0 (c ∷ []) (λ i h o l. ap (λ (k : ℕ). get_or (records_bytes rs) (24 * k + o) 0) (zero-add i) ∙ record_byte rs i o h l)
      (unfold finished in all_pass) (unfold first in refl))

  pub written_accepted : records_refusal n (records_bytes rs) (length rs) ≡ 0
  unfolding records_refusal
  written_accepted = rw (walked.0, walked.1)

  pub written_is : formula_at (records_bytes rs) (length rs - 1) ≡ c
  written_is = ap (λ (cs : List (Formula ℕ)). get_or cs 0 none) (sym (only_left n (records_bytes rs) (length rs) written_accepted).1 ∙ walked.1)
