use Rattle.std.proofs.Common.{ap, ◌∙◌}
use Rattle.rp_model.specs.rp_codec.specs.declared.usual_texts.Header.{Header}
use Rattle.rp_model.specs.Acceptor.{answer_to, accept_plan}
use Rattle.rp_model.specs.declared.plan.Plan.TheVariants.{Vote}
use Rattle.rp_rules.proofs.acceptor.on_accept.Goals as goal

pub returns-in-Vote-clause-plan : goal.returns-in-Vote-clause-plan
returns-in-Vote-clause-plan g c =
    let h = c.args.header.now in
    ap (λ (header : Header). Vote header c.args.action.now) c.header_to-answer.ensures
    ∙ ap (accept_plan (answer_to c.args.server.now.me h.from h.position h.ballot) c.args.action.now) c.in-Vote.ensures.answer
