-- `tree::test_nodes` meets its contract: a node that passes leaves its extent in the list. Assumes nothing.
use Rattle.std.proofs.Common.{sym, ◌∙◌, arith}
use Rattle.record.specs.RefusalLaws.{none_more}
use Rattle.tree.proofs.Nodes.{four, measured, held_more}
use Rattle.tree.proofs.test_nodes.Goals as goal

pub loop-k-preserved : goal.loop-k-preserved
loop-k-preserved c =
    let is = sym c.is_node.ensures ∙ c.if-not-is_node.false in
    let e = c.measure.ensures in
    let f = c.in_ok-size.ensures.refusal in record {
      fits = c.loop-k.invariant.fits;
      none = none_more _ _ c.loop-k.invariant.none (sym (f ∙ four _ _ is _ e));
      held = held_more _ _ _ _ c.loop-k.invariant.held (measured _ _ _ e f c.in_ok-size.ensures.value) (omega arith) (omega arith);
    }
