use Rattle.std.proofs.Common.{◌≡◌, ◌<◌, ◌≤◌, Some, inl, refl, sym, ap, ◌∙◌, arith}
use Rattle.rp_model.specs.World.{part_at}
use Rattle.rp_world.proofs.Calling.{above, asks_nothing, again_runs_out, asks_more}
use Rattle.rp_actors.proofs.Fields.{fields_of}
use Rattle.rp_actors.proofs.Moving.{task_here}
use Rattle.rp_actors.proofs.Placing.{found_task}
use Rattle.rp_world.proofs.world.World.again.Goals as goal

pub returns-then-get-self : goal.returns-then-get-self
returns-then-get-self g c =
    let now = c.args.self.now in
    let over : now.setup.config.nodes < c.args.node = omega (arith, c.if-get-self.true, c.get.ensures.value, ap (λ v. v.setup.config.nodes) c.self.view_is) in
    record { answer = inl (record { resulted = above now.setup.config now.world c.args.task c.args.node (part_at now.world.tasks c.args.task) over; unchanged = refl }) }

pub returns-in_default : goal.returns-in_default
returns-in_default g c =
    let f = fields_of g.M.Machine.next g.M.Machine.answers g.M.Machine.begin c.self.inside.messages c.self.invariant c.self.view_is in
    let at = found_task f.tasks c.index.result.now c.self.invariant.eight c.get-2.ensures c.from.ensures c.index.ensures in
    let low : c.args.node ≤ f.config.nodes = omega (arith, c.if-get-self.false, c.get.ensures.value) in
    record { answer = asks_nothing f at low (sym c.outstanding.ensures ∙ c.in_default.is) c.messages-first.ensures.value c.no_effect.ensures }

pub send-requires : goal.send-requires
send-requires g c =
    let f = fields_of g.M.Machine.next g.M.Machine.answers g.M.Machine.begin c.self.inside.messages c.self.invariant c.self.view_is in
    let at = found_task f.tasks c.index.result.now c.self.invariant.eight c.get-2.ensures c.from.ensures c.index.ensures in
    let here : part_at f.was.world.tasks c.args.task ≡ Some at.it.part = ap (λ v. part_at v.world.tasks c.args.task) (sym f.view_is) ∙ task_here f at in
    let waits = c.requires.ranged.waits c.args.task at.it.part here c.in-Some.call (sym c.outstanding.ensures ∙ c.in-Some.is) in
    record { own = waits.0; right = waits.1 }

pub returns-in_err-send : goal.returns-in_err-send
returns-in_err-send g c =
    let f = fields_of g.M.Machine.next g.M.Machine.answers g.M.Machine.begin c.self.inside.messages c.self.invariant c.self.view_is in
    let at = found_task f.tasks c.index.result.now c.self.invariant.eight c.get-2.ensures c.from.ensures c.index.ensures in
    let low : c.args.node ≤ f.config.nodes = omega (arith, c.if-get-self.false, c.get.ensures.value) in
    record { answer = again_runs_out f at low (sym c.outstanding.ensures ∙ c.in-Some.is) c.send.new.messages c.from_residual.result c.in_err-send.ensures.err c.from_residual.ensures.1 }

pub returns : goal.returns
returns g c =
    let f = fields_of g.M.Machine.next g.M.Machine.answers g.M.Machine.begin c.self.inside.messages c.self.invariant c.self.view_is in
    let at = found_task f.tasks c.index.result.now c.self.invariant.eight c.get-2.ensures c.from.ensures c.index.ensures in
    let low : c.args.node ≤ f.config.nodes = omega (arith, c.if-get-self.false, c.get.ensures.value) in
    record { answer = asks_more f at low (sym c.outstanding.ensures ∙ c.in-Some.is) c.send.new.messages c.in_ok-send.ensures.ok c.messages-first.ensures.value c.one_message.ensures }
