-- By the reply to the task's last call.
use Rattle.std.proofs.Common.{ℕ, Option, ap, sym, ◌∙◌}
use Rattle.rp_base.specs.declared.action.Action.{Action}
use Rattle.rp_base.specs.declared.reply.Reply.{Reply}
use Rattle.rp_machine.specs.Numbered.{outcome}
use Rattle.rp_orders.specs.Guards.{all_hold}
use Rattle.rp_orders.specs.Guards.{is_allowed as allowed}
use Rattle.rp_explore.proofs.guarded.is_allowed.Goals as goal

pub returns-in-Call : goal.returns-in-Call
returns-in-Call g c =
    let m = g.M.Machine in
    let r = outcome m.next m.answers c.args.state.now in
    let guards = c.args.guards.now in
    c.all_hold.ensures
    ∙ ap (λ (n : ℕ). all_hold guards c.in-Call.task n c.last_reply.result) c.from.ensures
    ∙ ap (λ (o : Option Reply). all_hold guards c.in-Call.task c.in-Call.number o) c.last_reply.ensures
    ∙ ap (λ (action : Action). allowed guards r.kept r.given action) (sym c.in-Call.is)
