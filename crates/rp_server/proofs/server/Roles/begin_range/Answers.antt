use Rattle.std.proofs.Common.{◌≡◌, ℕ, suc, ◌+◌, ◌≤◌, List, length, sym, ap, subst, ◌∙◌}
use Rattle.rp_base.specs.Proposals.{with_range}
use Rattle.rp_base.specs.Ranges.{end_of}
use Rattle.rp_base.specs.Records.{first_unlearned}
use Rattle.rp_model.specs.Leader.{unlearned_in}
use Rattle.rp_proposer.specs.Proposing.{unskipped, begins_range}
use Rattle.rp_server.specs.State.{ServerState}
use Rattle.rp_server.proofs.Beginning.{server_started}
use Rattle.rp_server.proofs.Covered.{open_in, leads_ranged, range_fits}
use Rattle.rp_server.proofs.server.Roles.begin_range.Goals as goal

pub begin_range-requires-clause-room : goal.begin_range-requires-clause-room
begin_range-requires-clause-room g c =
    let r = c.self.inside in
    let back = sym c.self.view_is in
    let is : unskipped c.args.range c.learned_mask-learned.result ≡ unlearned_in r.acceptor.records c.args.range =
    c.learned_mask-learned.ensures.mask ∙ ap (λ (h : ServerState g.row.M.Denot). unlearned_in h.records c.args.range) back in
    let reach : end_of c.args.range ≤ first_unlearned r.acceptor.records + 64 = subst (λ (h : ServerState g.row.M.Denot). end_of c.args.range ≤ first_unlearned h.records + 64) back c.requires.reach in
    let inside = open_in r.acceptor.records r.log r.machine c.args.range.first c.args.range.count c.self.invariant.applies c.learned_mask-learned.ensures.range.first.0 reach in
    subst (λ (is : List ℕ). length (with_range r.proposer.proposals c.args.ballot is) ≤ 64) (sym is)
    (range_fits (suc (length r.log.taken)) c.args.ballot r.acceptor.records (unlearned_in r.acceptor.records c.args.range) r.proposer.proposals c.self.invariant.leads.window inside)

pub invariant_of-self-2 : goal.invariant_of-self-2
invariant_of-self-2 g c =
    let r = c.self.inside in
    let back = sym c.self.view_is in
    let is : unskipped c.args.range c.learned_mask-learned.result ≡ unlearned_in r.acceptor.records c.args.range =
    c.learned_mask-learned.ensures.mask ∙ ap (λ (h : ServerState g.row.M.Denot). unlearned_in h.records c.args.range) back in
    let reach : end_of c.args.range ≤ first_unlearned r.acceptor.records + 64 = subst (λ (h : ServerState g.row.M.Denot). end_of c.args.range ≤ first_unlearned h.records + 64) back c.requires.reach in
    let inside = open_in r.acceptor.records r.log r.machine c.args.range.first c.args.range.count c.self.invariant.applies c.learned_mask-learned.ensures.range.first.0 reach in
    let positions = unlearned_in r.acceptor.records c.args.range in
    server_started r.me r.config r.learner r.heard r.log r.machine r.acceptor.records c.write.new.acceptor.records r.proposer c.begin_range.new.self
    (begins_range r.proposer positions c.args.ballot) c.args.ballot c.in_ok-write.ensures.noted
    (c.begin_range.ensures ∙ ap (λ (js : List ℕ). begins_range r.proposer js c.args.ballot) is) c.self.invariant
    (leads_ranged r.me r.config r.acceptor.records (length r.log.taken) r.proposer positions c.args.ballot c.self.invariant.leads inside)
