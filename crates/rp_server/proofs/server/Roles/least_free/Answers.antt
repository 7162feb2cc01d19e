use Rattle.std.proofs.Common.{◌≡◌, ◌+◌, ◌<◌, ◌≤◌, ℕ, true, false, None, sym, subst, ap, ◌∙◌, arith}
use Rattle.std.specs.Prelude.{min}
use Rattle.rp_base.specs.Records.{first_unlearned}
use Rattle.rp_log.specs.Contents.{ready_of}
use Rattle.rp_model.specs.Leader.{is_free_position, is_out_of_reach, least_free}
use Rattle.rp_server.specs.State.{ServerState}
use Rattle.rp_server.proofs.Beginning.{next_is}
use Rattle.rp_base.specs.Proposals.{proposal_at}
use Rattle.rp_proposer.specs.Rows.{IsBusy}
use Rattle.rp_server.proofs.FreePlaces.{NoneFree, none_in_row, none_below, none_joined, none_more, least_is, least_is_out}
use Rattle.rp_server.proofs.server.Roles.least_free.Goals as goal

pub loop-number-init : goal.loop-number-init
loop-number-init g c =
    let r = c.self.inside in
    let first = c.next_unlearned-first.result in
    let count = c.in_row.result in
    let busy : (j : ℕ) → first ≤ j → j < first + count → IsBusy r.config.nodes (proposal_at r.proposer.proposals j) =
    λ j low high. subst (λ (n : ℕ). IsBusy n (proposal_at r.proposer.proposals j)) c.self.invariant.leads.nodes (c.in_row.ensures.busy j low high) in
    let here = none_in_row r.config.nodes r.acceptor.records r.proposer.proposals first count busy in
    subst (λ (k : ServerState g.row.M.Denot). NoneFree k.config.nodes k.records k.running.proposals first (first + count)) c.self.view_is here

pub loop-number-preserved : goal.loop-number-preserved
loop-number-preserved g c =
    let h = c.args.self.now in
    let taken : is_free_position h.config.nodes h.records h.running.proposals c.loop-number.number ≡ false =
    ap (is_free_position h.config.nodes h.records h.running.proposals) (sym c.position_at-position.ensures) ∙ sym c.is_free_position.ensures ∙ c.if-is_free_position.false in
    none_more h.config.nodes h.records h.running.proposals c.next_unlearned-first.result c.loop-number.number c.loop-number.invariant taken

pub returns-then-is_free_position-clause-some : goal.returns-then-is_free_position-clause-some
returns-then-is_free_position-clause-some g c =
    let h = c.args.self.now in
    let r = c.self.inside in
    let first = c.next_unlearned-first.result in
    let number = c.loop-number.number in
    let below : NoneFree h.config.nodes h.records h.running.proposals 1 first =
    subst (λ (k : ServerState g.row.M.Denot). NoneFree k.config.nodes k.records k.running.proposals 1 first) c.self.view_is
    (none_below r.config.nodes r.acceptor.records r.proposer.proposals r.log first c.self.invariant.applies.learned c.next_unlearned-first.ensures.below) in
    let free : is_free_position h.config.nodes h.records h.running.proposals number ≡ true =
    ap (is_free_position h.config.nodes h.records h.running.proposals) (sym c.position_at-position.ensures) ∙ sym c.is_free_position.ensures ∙ c.if-is_free_position.true in
    let low : 1 ≤ number = omega (arith, c.next_unlearned-first.ensures.in_range.0, c.loop-number.auto.number) in
    c.position_at-position.ensures
    ∙ least_is h.config.nodes h.records h.running.proposals number low (none_joined h.config.nodes h.records h.running.proposals first number below c.loop-number.invariant) free

pub returns-clause-none : goal.returns-clause-none
returns-clause-none g c =
    let h = c.args.self.now in
    let r = c.self.inside in
    let a = c.self.invariant.applies in
    let first = c.next_unlearned-first.result in
    let end = c.min-end.result in
    let ready : ready_of r.log ≡ None = a.none in
    let at : first ≡ first_unlearned r.acceptor.records = next_is r.acceptor.records r.log r.machine first a (c.next_unlearned-first.ensures.taken ready) in
    let is : end ≡ min (first + 64) (r.config.max_positions + 1) = c.min-end.ensures ∙ ap (λ (n : ℕ). min (first + 64) (n + 1)) c.from.ensures in
    let here : NoneFree r.config.nodes r.acceptor.records r.proposer.proposals first end =
    subst (λ (k : ServerState g.row.M.Denot). NoneFree k.config.nodes k.records k.running.proposals first end) (sym c.self.view_is) (λ j low below. c.loop-number.invariant j low (omega (arith, below, c.loop-number-test.false))) in
    let none : NoneFree r.config.nodes r.acceptor.records r.proposer.proposals 1 end =
    none_joined r.config.nodes r.acceptor.records r.proposer.proposals first end (none_below r.config.nodes r.acceptor.records r.proposer.proposals r.log first a.learned c.next_unlearned-first.ensures.below) here in
    subst (λ (k : ServerState g.row.M.Denot). is_out_of_reach k.config.max_positions k.records (least_free k.config.nodes k.records k.running.proposals) ≡ true) c.self.view_is
    (least_is_out r.config.nodes r.acceptor.records r.proposer.proposals r.config.max_positions first end at is none)
