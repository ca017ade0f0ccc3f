-- `tree::write_ln` meets its contract: four nodes, one after the other. Assumes nothing.
use Prim.Native.Nat.{◌+◌}
use mathlib.Core.List.{[], ◌∷◌}
use mathlib.Core.Path.{refl}
use Rattle.tree.specs.EncodingLaws.{one_node, then_node}
use Rattle.tree.specs.declared.Node.{Node}
use Rattle.tree.proofs.write_ln.Goals as goal

pub returns : goal.returns
returns c =
    let n = c.args.n in
    let x = c.args.x in
    let e = one_node _ n Node.One c.write_one.ensures in
    let f = then_node _ n (n + 1) (Node.One ∷ []) (Node.Eml n x) e c.write_eml.ensures refl in
    let g = then_node _ n (n + 2) (Node.One ∷ Node.Eml n x ∷ []) (Node.Eml (n + 1) n) f c.write_eml-2.ensures refl in
    then_node _ n (n + 3) (Node.One ∷ Node.Eml n x ∷ Node.Eml (n + 1) n ∷ []) (Node.Eml n (n + 2)) g c.write_eml-3.ensures refl
