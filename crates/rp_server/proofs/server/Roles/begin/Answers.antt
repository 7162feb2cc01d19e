use Rattle.std.proofs.Common.{◌≡◌, suc, ◌+◌, ◌<◌, ◌≤◌, Some, None, length, subst, sym}
use Rattle.rp_base.specs.Records.{learned_at, first_unlearned}
use Rattle.rp_proposer.proofs.Windows.{window_has_room}
use Rattle.rp_proposer.specs.Proposing.{begins}
use Rattle.rp_server.specs.State.{ServerState}
use Rattle.rp_server.proofs.Beginning.{in_reach, leads_started, server_started}
use Rattle.rp_server.proofs.server.Roles.begin.Goals as goal

pub begin-requires-clause-room : goal.begin-requires-clause-room
begin-requires-clause-room g c =
    let r = c.self.inside in
    let back = sym c.self.view_is in
    let i = c.args.position in
    let unlearned : learned_at r.acceptor.records i ≡ None = subst (λ (h : ServerState g.row.M.Denot). learned_at h.records i ≡ None) back c.requires.unlearned in
    let below : i < first_unlearned r.acceptor.records + 64 = subst (λ (h : ServerState g.row.M.Denot). i < first_unlearned h.records + 64) back c.requires.reach in
    let least : 1 ≤ i = c.get-number.ensures.in_range.0 in
    window_has_room r.proposer.proposals (suc (length r.log.taken)) i c.self.invariant.leads.window (in_reach r.acceptor.records r.log r.machine i c.self.invariant.applies least unlearned below)

pub invariant_of-self-2 : goal.invariant_of-self-2
invariant_of-self-2 g c =
    let r = c.self.inside in
    let back = sym c.self.view_is in
    let i = c.args.position in
    let unlearned : learned_at r.acceptor.records i ≡ None = subst (λ (h : ServerState g.row.M.Denot). learned_at h.records i ≡ None) back c.requires.unlearned in
    let below : i < first_unlearned r.acceptor.records + 64 = subst (λ (h : ServerState g.row.M.Denot). i < first_unlearned h.records + 64) back c.requires.reach in
    let least : 1 ≤ i = c.get-number.ensures.in_range.0 in
    let inside = in_reach r.acceptor.records r.log r.machine i c.self.invariant.applies least unlearned below in
    let own = c.args.own.now in
    server_started r.me r.config r.learner r.heard r.log r.machine r.acceptor.records c.write.new.acceptor.records r.proposer c.begin.new.self
    (begins r.proposer i c.args.ballot (Some own)) c.args.ballot c.in_ok-write.ensures.noted c.begin.ensures c.self.invariant
    (leads_started r.me r.config r.acceptor.records (length r.log.taken) r.proposer i c.args.ballot own c.self.invariant.leads c.requires.right unlearned inside)
