-- A node is opened with the deck's program and configuration, or the deck has none of this number.
use Rattle.rp_handles.proofs.Decks.{at_err, each_ok, no_node, one_node}
use Rattle.std.specs.Arc.{arc_value}
use Rattle.rp_object.specs.State.{first_state}
use Rattle.rp_requests.specs.Opening.{IsOpenedNode}
use Rattle.rp_handles.specs.DeckNodes.{OpensNode, OpensNoNode}
use Rattle.rp_handles.proofs.deck_nodes.node_of_deck.Goals as goal

-- src/deck_nodes.rt:34:16
pub returns-in_err-node-clause-err : goal.returns-in_err-node-clause-err
returns-in_err-node-clause-err c =
    let known : OpensNoNode c.args.deck.now c.args.number c.in_err-node.field-0.0 = no_node c.args.deck.now c.args.number c.in_ok-config.field-0 c.in_err-node.field-0.0 c.in_ok-config.ensures.ok c.in_err-node.ensures.err in
    at_err (OpensNoNode c.args.deck.now c.args.number) c.in_err-node.field-0.0 c.from_residual-in_err-node.result c.from_residual-in_err-node.ensures.1 known

-- src/deck_nodes.rt:18:1
pub returns-in-Objects-clause-ok : goal.returns-in-Objects-clause-ok
returns-in-Objects-clause-ok c =
    each_ok c.open.result
    (λ opened. IsOpenedNode c.in_ok-node.node c.in_ok-config.field-0.config (first_state (arc_value c.in-Objects.program.declarations)) c.args.bytes.now opened.node opened.records opened.kept)
    (λ opened. OpensNode c.args.deck.now c.args.number c.args.bytes.now opened.node opened.records opened.kept)
    (λ opened is. one_node c.args.deck.now c.args.number c.args.bytes.now c.in_ok-config.field-0 c.in-Objects.program c.in_ok-node.node opened.node opened.records opened.kept c.in_ok-config.ensures.ok c.in-Objects.is c.in_ok-node.ensures.ok.0 is)
    c.open.ensures.ok
