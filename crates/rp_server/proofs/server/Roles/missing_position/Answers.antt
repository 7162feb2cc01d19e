use Rattle.std.proofs.Common.{◌≡◌, None, ap, ◌∙◌, arith, rules}
use Rattle.rp_base.specs.Records.{first_unlearned}
use Rattle.rp_log.specs.Contents.{ready_of}
use Rattle.rp_model.specs.Learner.{missing_position}
use Rattle.rp_server.specs.State.{ServerState}
use Rattle.rp_server.proofs.Beginning.{next_is}
use Rattle.rp_server.proofs.Missing.{missing_below, none_missing}
use Rattle.rp_server.proofs.server.Roles.missing_position.Goals as goal

pub returns-in_err-top : goal.returns-in_err-top
returns-in_err-top g c =
    let r = c.self.inside in
    let none : c.from_residual.result ≡ None = search rules in
    none ∙ none_missing r.acceptor.records r.log c.self.invariant.applies.learned (λ i above. c.in_err-top.ensures.none i)
    ∙ ap (λ (h : ServerState g.row.M.Denot). missing_position h.records) c.self.view_is

pub returns-then-next-from : goal.returns-then-next-from
returns-then-next-from g c =
    let r = c.self.inside in
    let a = c.self.invariant.applies in
    let ready : ready_of r.log ≡ None = a.none in
    let next : c.next_unlearned-next.result ≡ first_unlearned r.acceptor.records = next_is r.acceptor.records r.log r.machine c.next_unlearned-next.result a (c.next_unlearned-next.ensures.taken ready) in
    missing_below r.acceptor.records r.log c.next_unlearned-next.result c.in_ok-top.top c.new.result a.learned next (omega (arith, c.if-next-from.true, c.from.ensures, c.get.ensures.value)) c.in_ok-top.ensures.learned c.new.ensures.valid c.new.ensures.value (c.next_unlearned-next.ensures.in_range.0, omega (arith, c.if-next-from.true, c.from.ensures, c.get.type_inv))
    ∙ ap (λ (h : ServerState g.row.M.Denot). missing_position h.records) c.self.view_is

pub returns-else-next-from : goal.returns-else-next-from
returns-else-next-from g c =
    let r = c.self.inside in
    let a = c.self.invariant.applies in
    let ready : ready_of r.log ≡ None = a.none in
    let next : c.next_unlearned-next.result ≡ first_unlearned r.acceptor.records = next_is r.acceptor.records r.log r.machine c.next_unlearned-next.result a (c.next_unlearned-next.ensures.taken ready) in
    none_missing r.acceptor.records r.log a.learned (λ i above learned. let le = c.in_ok-top.ensures.greatest i learned in absurd (omega (arith, le, above, next, c.if-next-from.false, c.from.ensures, c.get.ensures.value)))
    ∙ ap (λ (h : ServerState g.row.M.Denot). missing_position h.records) c.self.view_is
