-- The step took effect, or nothing changed, since a device in memory does not fail.
use Rattle.std.proofs.Common.{◌≡◌, ◌≤◌, ◌∙◌, ap, Bool, nat_eq, List, Result, drop, length, subst, sym}
use Rattle.rp_base.specs.declared.fault.Fault.{Fault}
use Rattle.rp_codec.specs.Message.{Message}
use Rattle.rp_replica.specs.rp_model.specs.Parts.{Turn}
use Rattle.rp_replica.specs.rp_outbox.specs.Packets.{Sending, ends_of, texts_of}
use Rattle.rp_replica.specs.Inputs.{input_effect}
use Rattle.rp_replica.specs.State.{ReplicaState}
use Rattle.std.specs.Prelude.{◌&&◌}
use Rattle.rp_replica.specs.rp_rules.specs.Inputs.{given_by}
use Rattle.rp_requests.specs.Nodes.{NodeState, StepMade, not_taken}
use Rattle.rp_requests.specs.Timing.{comes_late}
use Rattle.rp_requests.specs.declared.not_taken.NotTaken.{NotTaken}
use Rattle.rp_requests.proofs.Steps.{early_after, made, node_with, unmoved}
use Rattle.rp_requests.proofs.node.HandleNode.turn.Goals as goal

pub invariant_of-self-in-Err : goal.invariant_of-self-in-Err
invariant_of-self-in-Err g c =
    let effect : Result Turn Fault = input_effect g.M.Machine.next g.M.Machine.answers c.self.inside.replica c.args.input.now in
    let same = unmoved effect c.self.inside.replica c.turn_into-turned.new.self c.in-Err.fault c.in-Err.ensures.answer.0 c.never_failed.ensures in
    subst (λ (r : ReplicaState g.row.M.Denot). (c.self.inside.last_record ≤ length r.disk.contents) × (c.self.inside.positions ≡ r.config.max_positions)) (sym same) c.self.invariant

pub returns-in-Ok-clause-ok : goal.returns-in-Ok-clause-ok
returns-in-Ok-clause-ok g c =
    let h = c.self.inside in
    let was : NodeState g.row.M.Denot = record { replica = h.replica; stored = drop h.last_record h.replica.disk.contents; packets = texts_of h.last_packets.sent; ends = ends_of 0 h.last_packets.sent; not_taken = h.not_taken; had_early = h.had_early } in
    let replica : ReplicaState g.row.M.Denot = c.turn_into-turned.new.self in
    let sent : List Message = c.turn_into-turned.new.out.sent in
    let effect : Result Turn Fault = input_effect g.M.Machine.next g.M.Machine.answers h.replica c.args.input.now in
    let late : NodeState g.row.M.Denot → Bool = λ n. comes_late g.M.Machine.next g.M.Machine.answers n.replica (given_by c.args.input.now) in
    let done : StepMade effect (late was) was (node_with replica c.stored-before.result sent (not_taken (late was) c.in-Ok.dropped) (early_after was replica)) =
    made was replica c.stored-before.result c.stored-before.ensures effect (late was) c.clear.new.self.sent sent c.clear.ensures c.in-Ok.dropped c.in-Ok.ensures.answer in
    let missed : c.of-self-inside.result ≡ not_taken (late was) c.in-Ok.dropped = c.of-self-inside.ensures ∙ ap (λ (b : Bool). not_taken b c.in-Ok.dropped) (c.comes_late-stale.ensures ∙ ap late (sym c.self.view_is)) in
    let early : c.is_still-self-inside.result ≡ early_after was replica = c.is_still-self-inside.ensures ∙ (λ i. h.had_early && nat_eq (c.applied.ensures i) (c.applied-applied.ensures i)) in
    let now : Sending → NotTaken → Bool → NodeState g.row.M.Denot = λ last n b. node_with replica c.stored-before.result last.sent n b in
    subst (λ (old : NodeState g.row.M.Denot). StepMade (input_effect g.M.Machine.next g.M.Machine.answers old.replica c.args.input.now) (late old) old (now c.swap.new.x c.of-self-inside.result c.is_still-self-inside.result)) c.self.view_is
    (subst (λ (n : NodeState g.row.M.Denot). StepMade effect (late was) was n) (λ i. now (sym c.swap.ensures.x_after i) (sym missed i) (sym early i)) done)
