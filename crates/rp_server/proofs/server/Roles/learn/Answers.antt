use Rattle.std.proofs.Common.{◌≡◌, Bool, ap, refl, subst, sym, ◌∙◌, drop, ◌++◌, append_assoc, append-nil, List}
use Rattle.rp_base.specs.declared.record.Rec.{Rec}
use Rattle.rp_model.specs.rp_codec.specs.declared.packet.Body.TheVariants.{Decided}
use Rattle.rp_model.specs.Says.{says_to_others}
use Rattle.rp_server.specs.Applying.{learns_alone, decided_packets}
use Rattle.rp_server.specs.State.{ServerState, server_after}
use Rattle.rp_server.specs.Invariant.{IsServer}
use Rattle.rp_outbox.specs.Packets.{Sending}
use Rattle.rp_server.proofs.Learned.{server_room, log_learned, learned_is_right, follows_on, follows_alike, server_learned, learned_taken, replies_learned}
use Rattle.rp_server.proofs.server.Roles.learn.Goals.{then-decision, else-decision}
use Rattle.rp_model.specs.rp_codec.specs.Message.{Message}
use Rattle.rp_server.proofs.server.Roles.learn.Goals as goal

pub invariant_of-self-in_err-write_decision : goal.invariant_of-self-in_err-write_decision
invariant_of-self-in_err-write_decision g c =
    let r = c.self.inside in
    subst (λ (rs : List Rec). IsServer r.me r.config rs r.proposer r.learner r.heard c.reserve.new.self r.machine) (sym c.in_err-write_decision.ensures.unchanged)
    (server_room r.me r.config r.acceptor.records r.proposer r.learner r.heard r.log c.reserve.new.self r.machine c.args.decision.position c.in_ok-reserve.ensures.ok c.self.invariant)

pub apply_and_reply-requires-clause-right : goal.apply_and_reply-requires-clause-right
apply_and_reply-requires-clause-right g c =
    let r = c.self.inside in
    let v = c.args.decision.action in
    learned_is_right r.acceptor.records c.learn.new.self c.args.decision.position v c.self.invariant.right c.requires.right
    (log_learned r.acceptor.records r.log c.reserve.new.self c.learn.new.self c.args.decision.position v c.self.invariant.applies.learned c.in_ok-reserve.ensures.ok c.learn.ensures)

pub follow-requires-clause-on : goal.follow-requires-clause-on
follow-requires-clause-on g c =
    let m = g.M.Machine in
    let r = c.self.inside in
    let i = c.args.decision.position in
    follows_on m.next m.answers r.me r.config r.acceptor.records c.write_decision.new.acceptor.records r.proposer c.settled.new.self
    r.learner c.settled-2.new.self r.heard c.settle.new.self r.log c.reserve.new.self c.learn.new.self c.apply_and_reply.new.log r.machine c.apply_and_reply.new.machine r.pending c.if-decision.out c.apply_and_reply.new.out i c.args.decision.action
    c.self.invariant c.in_ok-write_decision.ensures.noted c.settled.ensures c.settled-2.ensures.settled c.settle.ensures
    c.in_ok-reserve.ensures.ok c.learn.ensures c.apply_and_reply.ensures.replied c.apply_and_reply.ensures.ordered c.apply_and_reply.ensures.none

pub follow-requires-clause-alike : goal.follow-requires-clause-alike
follow-requires-clause-alike g c =
    let m = g.M.Machine in
    let r = c.self.inside in
    let i = c.args.decision.position in
    follows_alike m.next m.answers r.me r.config r.acceptor.records c.write_decision.new.acceptor.records r.proposer c.settled.new.self
    r.learner c.settled-2.new.self r.heard c.settle.new.self r.log c.reserve.new.self c.learn.new.self c.apply_and_reply.new.log r.machine c.apply_and_reply.new.machine r.pending c.if-decision.out c.apply_and_reply.new.out i c.args.decision.action
    c.self.invariant c.in_ok-write_decision.ensures.noted c.settled.ensures c.settled-2.ensures.settled c.settle.ensures
    c.in_ok-reserve.ensures.ok c.learn.ensures c.apply_and_reply.ensures.replied c.apply_and_reply.ensures.ordered c.apply_and_reply.ensures.none

pub invariant_of-self-2 : goal.invariant_of-self-2
invariant_of-self-2 g c =
    let m = g.M.Machine in
    let r = c.self.inside in
    let i = c.args.decision.position in
    server_learned m.next m.answers r.me r.config r.acceptor.records c.write_decision.new.acceptor.records r.proposer c.settled.new.self
    r.learner c.settled-2.new.self r.heard c.settle.new.self r.log c.reserve.new.self c.learn.new.self c.apply_and_reply.new.log r.machine c.apply_and_reply.new.machine r.pending c.if-decision.out c.apply_and_reply.new.out i c.args.decision.action
    c.self.invariant c.in_ok-write_decision.ensures.noted c.settled.ensures c.settled-2.ensures.settled c.settle.ensures
    c.in_ok-reserve.ensures.ok c.learn.ensures c.apply_and_reply.ensures.replied c.apply_and_reply.ensures.ordered c.apply_and_reply.ensures.none
    c.follow.new.learner c.follow.ensures c.requires.right

pub returns-clause-learned : goal.returns-clause-learned
returns-clause-learned g c =
    let m = g.M.Machine in
    let r = c.self.inside in
    let i = c.args.decision.position in
    let v = c.args.decision.action in
    learned_taken m.next m.answers r.me r.config r.acceptor.records c.write_decision.new.acceptor.records r.proposer c.settled.new.self
    r.learner c.settled-2.new.self r.heard c.settle.new.self r.log c.reserve.new.self c.learn.new.self c.apply_and_reply.new.log r.machine c.apply_and_reply.new.machine r.pending c.if-decision.out c.apply_and_reply.new.out i v
    c.self.invariant c.in_ok-write_decision.ensures.noted c.settled.ensures c.settled-2.ensures.settled c.settle.ensures
    c.in_ok-reserve.ensures.ok c.learn.ensures c.apply_and_reply.ensures.replied c.apply_and_reply.ensures.ordered c.apply_and_reply.ensures.none
    c.settle-2.new.self (drop c.applied-before.result c.apply_and_reply.new.log.taken) c.applied-before.result c.applied-before.ensures.count refl c.settle-2.ensures
    ∙ ap (λ (h : ServerState g.row.M.Denot). server_after h (learns_alone m.next m.answers h i v)) c.self.view_is

pub returns-clause-replied : goal.returns-clause-replied
returns-clause-replied g c =
    let m = g.M.Machine in
    let r = c.self.inside in
    let i = c.args.decision.position in
    let v = c.args.decision.action in
    let start = c.args.out.now.sent in
    let stated : c.if-decision.out.sent ≡ start ++ (decided_packets c.args.self.now.config.nodes c.args.self.now.me i v c.args.decision.announces) =
    elim c.if-decision.branch [
      | then-decision w ↦
          ap (λ (out : Sending). out.sent) w.out-is
          ∙ w.inform_others.ensures.sent
          ∙ ap (λ (h : ServerState g.row.M.Denot). start ++ (says_to_others h.config.nodes h.me (Decided i v))) c.self.view_is
          ∙ ap (λ (b : Bool). start ++ (decided_packets c.args.self.now.config.nodes c.args.self.now.me i v b)) (sym w.if-decision.true)
      | else-decision w ↦
          ap (λ (out : Sending). out.sent) w.out-is
          ∙ sym (append-nil start)
          ∙ ap (λ (b : Bool). start ++ (decided_packets c.args.self.now.config.nodes c.args.self.now.me i v b)) (sym w.if-decision.false)
    ] in
    replies_learned m.next m.answers r.me r.config r.acceptor.records c.write_decision.new.acceptor.records r.proposer c.settled.new.self
    r.learner c.settled-2.new.self r.heard c.settle.new.self r.log c.reserve.new.self c.learn.new.self c.apply_and_reply.new.log r.machine c.apply_and_reply.new.machine r.pending c.if-decision.out c.apply_and_reply.new.out i v
    c.self.invariant c.in_ok-write_decision.ensures.noted c.settled.ensures c.settled-2.ensures.settled c.settle.ensures
    c.in_ok-reserve.ensures.ok c.learn.ensures c.apply_and_reply.ensures.replied c.apply_and_reply.ensures.ordered c.apply_and_reply.ensures.none
    ∙ ap (λ (h : ServerState g.row.M.Denot). c.if-decision.out.sent ++ (learns_alone m.next m.answers h i v).sent) c.self.view_is
    ∙ ap (λ (r : List Message). r ++ (learns_alone m.next m.answers c.args.self.now i v).sent) stated
    ∙ append_assoc c.args.out.now.sent (decided_packets c.args.self.now.config.nodes c.args.self.now.me i v c.args.decision.announces) (learns_alone m.next m.answers c.args.self.now i v).sent
