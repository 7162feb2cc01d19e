use Rattle.std.proofs.Common.{◌≡◌, ℕ, ◌+◌, ◌≤◌, None, subst, ap, ◌∙◌}
use Rattle.std.specs.Prelude.{nat_le}
use Rattle.rp_base.specs.Records.{first_unlearned}
use Rattle.rp_log.specs.Contents.{ready_of}
use Rattle.rp_model.specs.Leader.{is_out_of_reach}
use Rattle.rp_server.specs.State.{ServerState}
use Rattle.rp_server.proofs.Beginning.{next_is, far_is}
use Rattle.rp_server.proofs.server.Roles.is_out_of_reach.Goals as goal

pub returns-else-self-get : goal.returns-else-self-get
returns-else-self-get g c =
    let r = c.self.inside in
    let a = c.self.invariant.applies in
    let i = c.args.position in
    let ready : ready_of r.log ≡ None = a.none in
    let next : c.next_unlearned.result ≡ first_unlearned r.acceptor.records = next_is r.acceptor.records r.log r.machine c.next_unlearned.result a (c.next_unlearned.ensures.taken ready) in
    let number : c.from-number.result ≡ i = c.from-number.ensures ∙ c.get.ensures.value in
    let within : i ≤ r.config.max_positions = subst (λ (n : ℕ). n ≤ r.config.max_positions) c.get-2.ensures.value c.if-self-get.false in
    ap (λ (n : ℕ). nat_le (c.next_unlearned.result + 64) n) number
    ∙ far_is r.config.max_positions c.next_unlearned.result i r.acceptor.records within next
    ∙ ap (λ (h : ServerState g.row.M.Denot). is_out_of_reach h.config.max_positions h.records i) c.self.view_is
