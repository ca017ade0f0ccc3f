-- `constraint::records::Records::first` meets its contract: what passed the tests is ready, and its starts are in the list. Assumes nothing.
use Rattle.std.proofs.Common.{rules}
use Rattle.constraint.proofs.Filling.{ready_first, some_first, begun_first}
use Rattle.constraint.proofs.records.Records.first.Goals as goal

pub invariant_of-result : goal.invariant_of-result
invariant_of-result c =
    let none = c.in_ok-test_records.ensures.refusal in
    record {
      ready = ready_first _ _ c.requires.nodes _ _ c.requires.few.0 c.requires.few.1 none;
      some = some_first c.args.nodes.now c.args.count c.requires.nodes _ _ c.requires.few.0 c.requires.few.1 none;
      begun = begun_first c.args.nodes.now c.args.count c.requires.nodes _ _ c.requires.few.0 c.requires.few.1 none _ _ (search rules) c.in_ok-test_records.ensures.starts;
    }
