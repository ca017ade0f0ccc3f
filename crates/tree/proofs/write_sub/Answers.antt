-- `tree::write_sub` meets its contract: seven nodes, one after the other. Assumes nothing.
use Prim.Native.Nat.{◌+◌}
use mathlib.Core.List.{[], ◌∷◌, ◌++◌}
use mathlib.Core.Path.{refl}
use Rattle.tree.specs.EncodingLaws.{one_node, then_nodes, then_node}
use Rattle.tree.specs.Canonical.{ln_nodes}
use Rattle.tree.specs.declared.Node.{Node}
use Rattle.tree.proofs.write_sub.Goals as goal

pub returns : goal.returns
returns c =
    let n = c.args.n in
    let x = c.args.x in
    let y = c.args.y in
    let e = one_node _ n Node.One c.write_one.ensures in
    let f = then_nodes _ n (n + 1) (Node.One ∷ []) (ln_nodes (n + 1) x) e c.write_ln.ensures refl in
    let g = then_node _ n (n + 5) (Node.One ∷ ln_nodes (n + 1) x) (Node.Eml y n) f c.write_eml.ensures refl in
    then_node _ n (n + 6) (Node.One ∷ ln_nodes (n + 1) x ++ Node.Eml y n ∷ []) (Node.Eml (n + 4) (n + 5)) g c.write_eml-2.ensures refl
