-- There are no more answers than tasks.
use Rattle.std.proofs.Common.{◌≡◌, Bool, true, cond, sym, ◌∙◌, ap, subst, rules}
use Rattle.rp_base.specs.Number.{IsTask}
use Rattle.rp_base.specs.declared.reply.Reply.TheVariants.{NoSuchOperation}
use Rattle.rp_entry.specs.declared.state.CallOutcome.TheVariants.{Reply}
use Rattle.rp_object.specs.declared.program.Declarations.{Declarations}
use Rattle.rp_object.specs.Program.{is_declared}
use Rattle.rp_object.specs.State.{Running}
use Rattle.rp_object.specs.Step.{called, allowed, ends_with}
use Rattle.rp_object.specs.InMemory.{AreObjects}
use Rattle.rp_object.proofs.Asking.{few_answers}
use Rattle.rp_object.proofs.objects.Objects.call.Goals as goal

pub returns-then-declares-clause-few : goal.returns-then-declares-clause-few
returns-then-declares-clause-few c =
    let now = c.args.self.now in
    let call = c.args.call in
    let own : c.deref.result.now ≡ now.program = c.deref.ensures ∙ ap (λ (r : Running). r.program) c.self.view_is in
    let held : AreObjects now.program now.state.objects now.state.timers = subst (λ (r : Running). AreObjects r.program r.state.objects r.state.timers) c.self.view_is c.self.invariant in
    let test : is_declared now.program call.task c.args.object c.args.operation ≡ true =
    ap (λ (p : Declarations). is_declared p call.task c.args.object c.args.operation) (sym own) ∙ sym c.declares.ensures ∙ c.if-declares.true in
    let does : called now.program now.state call c.args.object c.args.operation ≡ _ =
    ap (λ (b : Bool). cond b (allowed now.program now.state call c.args.object c.args.operation) (ends_with (Reply NoSuchOperation) now.state)) test ∙ c.allowed.ensures.action in
    let task : IsTask call.task = search rules in
    few_answers now.state call c.args.object c.args.operation c.allowed.result.outcome c.allowed.result.served c.allowed.new.self.state held task c.requires.free does
