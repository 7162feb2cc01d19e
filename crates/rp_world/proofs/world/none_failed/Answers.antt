-- One node more.
use Rattle.std.proofs.Common.{◌≡◌, ◌+◌, ℕ, [], ◌∷◌, ◌++◌, take, slice_get, arith, sym, ap, subst, ◌∙◌}
use Rattle.std.specs.Prelude.{IfSome}
use Rattle.std.proofs.lemmas.List.{take_all, take_more}
use Rattle.rp_actors.specs.Nodes.{failures_in}
use Rattle.rp_actors.proofs.Fresh.{one_more}
use Rattle.rp_world.proofs.world.none_failed.Goals as goal

pub loop-node-preserved : goal.loop-node-preserved
loop-node-preserved g c =
    let nodes = c.args.nodes.now in
    let k = c.loop-node.node-index in
    let node = c.node-item.result in
    let longer : take (k + 1) nodes ≡ take k nodes ++ node ∷ [] =
    take_more nodes k node c.loop-node-test.true ∙ ap (λ r. take k nodes ++ r ∷ []) (sym c.node-item.is) in
    subst (λ xs. (j : ℕ) → IfSome (slice_get xs j) (λ n. failures_in g.D.Device.disk n ≡ 0)) (sym longer)
    (one_more (λ j n. failures_in g.D.Device.disk n ≡ 0) (take k nodes) node c.loop-node.invariant c.never_failed.ensures)

pub returns : goal.returns
returns g c =
    let nodes = c.args.nodes.now in
    subst (λ xs. (j : ℕ) → IfSome (slice_get xs j) (λ n. failures_in g.D.Device.disk n ≡ 0)) (take_all c.loop-node.node-index nodes (omega (arith, c.loop-node-test.false))) c.loop-node.invariant
