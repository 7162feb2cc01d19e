-- The chain so far is one step longer.
use Rattle.std.proofs.Common.{[], ◌∷◌, ◌++◌, List, length, refl, sym, ◌∙◌, ap, subst, arith, append-nil}
use Rattle.std.proofs.lemmas.List.{length-append}
use Rattle.rp_base.specs.declared.reply.Answer.{Answer}
use Rattle.rp_body.specs.declared.components.Limits.{Limits}
use Rattle.rp_entry.specs.Operations.{OperationsFit}
use Rattle.rp_entry.specs.Queue.{State}
use Rattle.rp_entry.specs.Servicing.{Services, ends}
use Rattle.rp_entry.proofs.Queues.{as_many, few_wait}
use Rattle.rp_entry.proofs.Chains.{Reaches, reaches_more, one_served, right_served}
use Rattle.rp_entry.proofs.state.State.service.Goals as goal

pub loop-answer-init : goal.loop-answer-init
loop-answer-init c =
    let none = c.new-served.ensures in
    record {
      reached = λ after more chain. subst (λ (l : List Answer). Services c.args.operations.now c.args.self.now (l ++ more) after) (sym none) chain;
      fits = c.requires.fits;
      counts = refl;
      queues = c.requires.queues;
      room = omega (arith, ap length none, few_wait c.requires.queues);
    }

pub serve_next-requires-clause-each : goal.serve_next-requires-clause-each
serve_next-requires-clause-each c = as_many c.args.operations.now.entries.items c.loop-answer.self.queues c.loop-answer.invariant.queues.short

pub push-requires : goal.push-requires
push-requires c = omega (arith, c.loop-answer.invariant.room, one_served c.in-Some.ensures.served)

pub loop-answer-smaller : goal.loop-answer-smaller
loop-answer-smaller c = omega (arith, one_served c.in-Some.ensures.served)

pub loop-answer-preserved : goal.loop-answer-preserved
loop-answer-preserved c =
    let i = c.loop-answer.invariant in
    let step = c.in-Some.ensures.served in
    let counted = ap length c.push.ensures in
    record {
      reached = subst (λ (l : List Answer). Reaches c.args.operations.now c.args.self.now l c.serve_next.new.self) (sym c.push.ensures) (reaches_more c.args.operations.now c.args.self.now c.loop-answer.self c.serve_next.new.self c.loop-answer.served c.in-Some.answer i.reached step);
      fits = subst (λ (l : Limits). OperationsFit l c.args.operations.now) (sym c.serve_next.ensures.counts) i.fits;
      counts = c.serve_next.ensures.counts ∙ i.counts;
      queues = right_served step i.queues;
      room = omega (arith, i.room, one_served step, counted, length-append c.loop-answer.served (c.in-Some.answer ∷ []));
    }

pub returns-clause-chain : goal.returns-clause-chain
returns-clause-chain c =
    let i = c.loop-answer.invariant in
    let replied = c.loop-answer.served in
    let chain : Services c.args.operations.now c.args.self.now (replied ++ []) c.loop-answer.self = i.reached c.loop-answer.self [] (ends c.in_default.ensures.serviced) in
    subst (λ (s : State). Services c.args.operations.now c.args.self.now replied s) (sym c.in_default.ensures.unchanged)
    (subst (λ (l : List Answer). Services c.args.operations.now c.args.self.now l c.loop-answer.self) (append-nil replied) chain)
