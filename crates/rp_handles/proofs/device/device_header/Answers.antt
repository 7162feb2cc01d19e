-- The header of a node that the deck has, or why it has none.
use Rattle.std.proofs.Common.{◌≡◌, ◌∙◌, false, sym, true}
use Rattle.rp_handles.proofs.Decks.{at_err, no_node}
use Rattle.rp_handles.proofs.Headed.{no_objects, one_header}
use Rattle.rp_handles.specs.DeckNodes.{OpensNoNode}
use Rattle.rp_handles.specs.Devices.{has_objects}
use Rattle.rp_handles.proofs.device.device_header.Goals as goal

pub returns-in_err-node-clause-err : goal.returns-in_err-node-clause-err
returns-in_err-node-clause-err c =
    let known : OpensNoNode c.args.deck.now c.args.number c.in_err-node.field-0.0 = no_node c.args.deck.now c.args.number c.in_ok-config.field-0 c.in_err-node.field-0.0 c.in_ok-config.ensures.ok c.in_err-node.ensures.err in
    at_err (OpensNoNode c.args.deck.now c.args.number) c.in_err-node.field-0.0 c.from_residual-in_err-node.result c.from_residual-in_err-node.ensures.1 known

pub returns-then-not-has_objects-clause-err : goal.returns-then-not-has_objects-clause-err
returns-then-not-has_objects-clause-err c =
    let none : has_objects c.in_ok-config.field-0.program ≡ false = sym c.has_objects.ensures ∙ c.if-not-has_objects.true in
    no_objects c.args.deck.now c.args.number c.in_ok-config.field-0 c.in_ok-config.ensures.ok c.in_ok-node.ensures.ok.1 none

pub returns-clause-ok : goal.returns-clause-ok
returns-clause-ok c =
    let has : has_objects c.in_ok-config.field-0.program ≡ true = sym c.has_objects.ensures ∙ c.if-not-has_objects.false in
    one_header c.args.deck.now c.args.number c.in_ok-config.field-0 c.in_ok-config.ensures.ok c.in_ok-node.node c.header_of.result has c.in_ok-node.ensures.ok.0 c.header_of.ensures
