-- The function of this index is the one that the object has.
use Rattle.std.proofs.Common.{◌≡◌, ℤ, List, [], Some, None, refl, sym, ◌∙◌, ap, ap₂, subst, w64}
use Rattle.std.proofs.lemmas.Int.{to_z-of_z}
use Rattle.rp_base.specs.declared.reply.Reply.{Reply as CallReply}
use Rattle.rp_base.specs.declared.reply.Reply.TheVariants.{NoSuchOperation}
use Rattle.rp_body.specs.Store.{Store}
use Rattle.rp_entry.specs.declared.operations.Function.{Function}
use Rattle.rp_entry.specs.declared.state.CallOutcome.TheVariants.{Reply}
use Rattle.rp_entry.specs.Operations.{of_index}
use Rattle.rp_entry.specs.Replies.{function_reply}
use Rattle.rp_entry.specs.Actions.{Acts, calls_function, function, no_function}
use Rattle.rp_entry.specs.Protected.{Protected}
use Rattle.rp_entry.proofs.Acting.{acts_same, shared_is}
use Rattle.rp_entry.proofs.Ready.{same_serviced}
use Rattle.rp_entry.proofs.object.Object.function.Goals as goal

pub returns-in-Some-clause-action : goal.returns-in-Some-clause-action
returns-in-Some-clause-action c =
    let inside = c.self.inside in
    let operations = c.deref-operations.result.now in
    let called = c.in-Some.function.now in
    let declared : of_index operations.functions.items c.args.index ≡ Some called =
    sym (c.in-Some.ensures ∙ ap (λ (l : List Function). of_index l c.args.index) c.deref.ensures.value) in
    let reply : c.reply.result ≡ function_reply called inside.state.store c.args.arg =
    c.reply.ensures ∙ ap₂ (λ (s : Store) (a : ℤ). function_reply called s a) c.components.ensures (to_z-of_z w64 c.args.arg c.ranges.arg) in
    let acts : Acts operations inside.state (calls_function c.args.index c.args.arg) (Some (Reply c.reply.result)) [] inside.state =
    acts_same (ap (λ (r : CallReply). Some (Reply r)) reply) refl refl (function declared) in
    subst (λ (o : Protected). Acts o.operations o.state (calls_function c.args.index c.args.arg) (Some (Reply c.reply.result)) [] o.state) (shared_is c.deref-operations.ensures ∙ c.self.view_is) acts

pub returns-in-None-clause-action : goal.returns-in-None-clause-action
returns-in-None-clause-action c =
    let inside = c.self.inside in
    let operations = c.deref-operations.result.now in
    let missing : of_index operations.functions.items c.args.index ≡ None =
    sym (c.in-None.ensures ∙ ap (λ (l : List Function). of_index l c.args.index) c.deref.ensures.value) in
    let acts : Acts operations inside.state (calls_function c.args.index c.args.arg) (Some (Reply NoSuchOperation)) [] inside.state = no_function missing in
    subst (λ (o : Protected). Acts o.operations o.state (calls_function c.args.index c.args.arg) (Some (Reply NoSuchOperation)) [] o.state) (shared_is c.deref-operations.ensures ∙ c.self.view_is) acts

pub returns-in-Some-clause-serviced : goal.returns-in-Some-clause-serviced
returns-in-Some-clause-serviced c = same_serviced c.self.view_is c.self.invariant.serviced

pub returns-in-None-clause-serviced : goal.returns-in-None-clause-serviced
returns-in-None-clause-serviced c = same_serviced c.self.view_is c.self.invariant.serviced
