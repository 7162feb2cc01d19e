-- The body runs, and servicing goes on from what it leaves.
use Rattle.std.proofs.Common.{◌≡◌, ℤ, sym, ◌∙◌, ap, subst, w64}
use Rattle.std.proofs.lemmas.Int.{to_z-of_z}
use Rattle.rp_base.specs.declared.reply.Reply.{Reply as CallReply}
use Rattle.rp_body.specs.Meaning.{body_effect}
use Rattle.rp_entry.specs.declared.state.CallOutcome.TheVariants.{Reply}
use Rattle.rp_entry.specs.Queue.{State}
use Rattle.rp_entry.specs.Protected.{HasQueues}
use Rattle.rp_entry.specs.Actions.{Runs}
use Rattle.rp_entry.proofs.Acting.{same_queues}
use Rattle.rp_entry.proofs.state.State.run.Goals as goal

pub service-served-requires-clause-queues : goal.service-served-requires-clause-queues
service-served-requires-clause-queues c =
    let inside = c.self.inside in
    let before : State = record { store = inside.components; queues = inside.queues.items } in
    let same : before ≡ c.args.self.now = c.self.view_is in
    same_queues c.run-outcome.new.components (subst (λ (s : State). HasQueues c.args.operations.now s) (sym same) c.requires.queues)

pub returns-clause-runs : goal.returns-clause-runs
returns-clause-runs c =
    let inside = c.self.inside in
    let before : State = record { store = inside.components; queues = inside.queues.items } in
    let same : before ≡ c.args.self.now = c.self.view_is in
    let runs : Runs c.args.operations.now c.args.body.now c.args.arg before (Reply c.reply_of-reply.result) c.service-served.result c.service-served.new.self = record {
      store = c.run-outcome.new.components;
      ended = c.run-outcome.result;
      run = ap (λ (a : ℤ). body_effect c.args.body.now a inside.components) (sym (to_z-of_z w64 c.args.arg c.ranges.arg)) ∙ sym c.run-outcome.ensures.effect;
      replied = ap (λ (r : CallReply). Reply r) c.reply_of-reply.ensures;
      serviced = c.service-served.ensures.chain;
    } in
    subst (λ (s : State). Runs c.args.operations.now c.args.body.now c.args.arg s (Reply c.reply_of-reply.result) c.service-served.result c.service-served.new.self) same runs
