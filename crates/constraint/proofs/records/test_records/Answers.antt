-- `constraint::records::test_records` meets its contract: the stack holds what is finished, the list the starts of the records that passed. Assumes nothing.
use mathlib.Core.Path.{◌≡◌, sym, subst, ap, ap₂, ◌∙◌}
use mathlib.Core.Bool.{false}
use mathlib.Core.List.{List}
use native.Mathlib.Omega.{arith}
use Prim.Native.Nat.{ℕ, ◌+◌, ◌-◌, ◌≤◌, ◌<◌}
use lib.ListN.{length, set, take, length-append, length-take}
use Rattle.std.proofs.lemmas.List.{length-set}
use Rattle.std.proofs.Common.{rules}
use Rattle.record.specs.RefusalLaws.{never_none}
use Rattle.constraint.proofs.Testing.{records_tests, record_here, few_here, range_here, seven}
use Rattle.constraint.proofs.Filling.{none_begun, start_told, firsts_more, none_filled, filled_more, refused_at, all_tested}
use Rattle.constraint.specs.Records.{record_at, is_ranged, takes}
use Rattle.constraint.specs.Starts.{begun, start_at}
use Rattle.constraint.specs.declared.Record.{Record}
use Rattle.constraint.proofs.records.test_records.Goals as goal
use Rattle.constraint.proofs.records.test_records.Goals.{After-replace}

pub loop-k-init : goal.loop-k-init
loop-k-init c = record {
  low = search (rules, records_tests);
  none_yet = search (rules, records_tests);
  depths_are = search (rules, records_tests);
  quantified_are = search (rules, records_tests);
  room = search (rules, records_tests);
  firsts_are = none_begun c.args.constraints.now _ _ c.new-stack.ensures;
  filled_are = sym (none_filled _ _);
}

pub returns-then-not-is_record-clause-starts : goal.returns-then-not-is_record-clause-starts
returns-then-not-is_record-clause-starts c =
    let v = c.loop-k.invariant in
    refused_at _ _ _ _ _ v.none_yet c.loop-k-test.true _ v.filled_are 5 (λ e. omega (arith, e))
    (record_here _ _ _ _ v.none_yet v.depths_are v.quantified_are (sym c.is_record.ensures ∙ c.if-not-is_record.true))

pub returns-then-height-m-clause-starts : goal.returns-then-height-m-clause-starts
returns-then-height-m-clause-starts c =
    let v = c.loop-k.invariant in
    let takes_more = subst (λ (x : Record). length c.loop-k.stack < takes x) c.record_in-r.ensures (omega (arith, c.height.ensures, c.taken_by-m.ensures, c.if-height-m.true)) in
    refused_at _ _ _ _ _ v.none_yet c.loop-k-test.true _ v.filled_are 5 (λ e. omega (arith, e))
    (few_here _ _ _ _ v.none_yet v.depths_are v.quantified_are (sym c.is_record.ensures ∙ c.if-not-is_record.false) takes_more)

pub returns-then-not-is_ranged-clause-starts : goal.returns-then-not-is_ranged-clause-starts
returns-then-not-is_ranged-clause-starts c =
    let v = c.loop-k.invariant in
    let enough = subst (λ (x : Record). takes x ≤ length c.loop-k.stack) c.record_in-r.ensures (omega (arith, c.height.ensures, c.taken_by-m.ensures, c.if-height-m.false)) in
    let unranged = subst (λ (x : Record). is_ranged x ≡ false) c.record_in-r.ensures (sym c.is_ranged.ensures ∙ c.if-not-is_ranged.true) in
    refused_at _ _ _ _ _ v.none_yet c.loop-k-test.true _ v.filled_are 6 (λ e. omega (arith, e))
    (range_here _ _ _ _ v.none_yet v.depths_are v.quantified_are (sym c.is_record.ensures ∙ c.if-not-is_record.false) enough unranged)

pub returns-in_err-c-clause-starts : goal.returns-in_err-c-clause-starts
returns-in_err-c-clause-starts c =
    let v = c.loop-k.invariant in
    let is = sym c.is_record.ensures ∙ c.if-not-is_record.false in
    let shape = seven _ _ _ _ v.none_yet v.depths_are v.quantified_are is _ c.record_in-r.ensures _ c.taken_by-m.ensures (omega (arith, c.height.ensures, c.if-height-m.false)) _ c.last.ensures
    (sym c.is_ranged.ensures ∙ c.if-not-is_ranged.false) in
    refused_at _ _ _ _ _ v.none_yet c.loop-k-test.true _ v.filled_are _ (never_none c.in_err-c.field-0.0) (c.in_err-c.ensures.refusal ∙ sym shape)

-- where what record k finishes starts
module _ (c : After-replace) where
  abbrev base : ℕ
  base = c.height-in-loop-k.result - c.taken_by-m.result

  takes_m : c.taken_by-m.result ≡ takes (record_at c.args.constraints.now c.loop-k.k)
  takes_m = c.taken_by-m.ensures ∙ ap takes c.record_in-r.ensures

  enough : c.taken_by-m.result ≤ length c.loop-k.stack
  enough = omega (arith, c.height.ensures, c.if-height-m.false)

  room : length c.loop-k.stack ≤ length c.loop-k.begun
  room = omega (arith, c.loop-k.invariant.room, c.loop-k.invariant.low, c.loop-k-test.true, c.requires)

  here : base ≡ length c.loop-k.stack - c.taken_by-m.result
  here = ap (λ (h : ℕ). h - c.taken_by-m.result) c.height-in-loop-k.ensures

  told : c.first_of-start.result ≡ start_at c.args.constraints.now c.loop-k.k
  told = start_told _ _ _ _ c.loop-k.invariant.firsts_are _ takes_m enough room base here _ c.first_of-start.ensures.0

  one_more : length c.replace.new.self ≡ base + 1
  one_more =
      ap length c.replace.ensures
      ∙ length-append (take (length c.loop-k.stack - c.taken_by-m.result) c.loop-k.stack) _
      ∙ omega (arith, length-take (length c.loop-k.stack - c.taken_by-m.result) c.loop-k.stack, here)

  firsts : take (length c.replace.new.self) (set c.loop-k.begun base c.first_of-start.result) ≡ begun c.args.constraints.now (c.loop-k.k + 1)
  firsts =
      ap (λ (i : ℕ). take i (set c.loop-k.begun base c.first_of-start.result)) one_more
      ∙ firsts_more _ _ _ _ c.loop-k.invariant.firsts_are _ takes_m enough room base here _ c.first_of-start.ensures.0 (omega (arith, room, here, c.loop-k.invariant.room, c.loop-k.invariant.low, c.loop-k-test.true, c.requires))

pub loop-k-preserved : goal.loop-k-preserved
loop-k-preserved c =
    let w = (goal.at.loop-k-preserved c).After-replace in
    record {
      low = search (rules, records_tests);
      none_yet = search (rules, records_tests);
      depths_are = search (rules, records_tests);
      quantified_are = search (rules, records_tests);
      room = length-set c.loop-k.begun _ _ ∙ c.loop-k.invariant.room;
      firsts_are = firsts w;
      filled_are = ap₂ (λ (l : List ℕ) (x : ℕ). set l c.loop-k.k x) c.loop-k.invariant.filled_are (told w) ∙ filled_more _ _ _;
    }

pub returns-then-left-ne1-clause-starts : goal.returns-then-left-ne1-clause-starts
returns-then-left-ne1-clause-starts c = all_tested _ _ _ _ _ _ c.loop-k.invariant.none_yet c.loop-k.invariant.filled_are c.loop-k.auto.k-end c.loop-k-test.false

pub returns-clause-starts : goal.returns-clause-starts
returns-clause-starts c = all_tested _ _ _ _ _ _ c.loop-k.invariant.none_yet c.loop-k.invariant.filled_are c.loop-k.auto.k-end c.loop-k-test.false
