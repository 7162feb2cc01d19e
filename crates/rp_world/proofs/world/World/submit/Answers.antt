use Rattle.std.proofs.Common.{ap}
use Rattle.std.specs.Int.{w64}
use Rattle.std.proofs.lemmas.Int.{to_z-of_z}
use Rattle.rp_actors.specs.Callers.{Caller}
use Rattle.rp_world.proofs.Calling.{asks_of, may_not, call_own, call_is_right, call_runs_out, called}
use Rattle.rp_actors.proofs.Fields.{fields_of}
use Rattle.rp_actors.proofs.Moving.{still_tasks}
use Rattle.rp_actors.proofs.Placing.{found_task}
use Rattle.rp_world.proofs.world.World.submit.Goals as goal

pub returns-in_err-call : goal.returns-in_err-call
returns-in_err-call g c =
    let f = fields_of g.M.Machine.next g.M.Machine.answers g.M.Machine.begin c.self.inside.messages c.self.invariant c.self.view_is in
    let at = found_task f.tasks c.index_mut-caller.result.now c.self.invariant.eight c.get.ensures c.from.ensures c.index_mut-caller.ensures.value in
    let asked = asks_of f.config at.it c.args.node c.args.object c.args.operation (to_z-of_z w64 c.args.arg) (record { sfits = c.ranges.arg.sfits }) c.next.ensures in
    record { answer = may_not f at asked c.in_err-call.field-0.0 c.from_residual.result c.in_err-call.was c.from_residual.ensures.1 }

pub send-requires : goal.send-requires
send-requires g c =
    let f = fields_of g.M.Machine.next g.M.Machine.answers g.M.Machine.begin c.self.inside.messages c.self.invariant c.self.view_is in
    let at = found_task f.tasks c.index_mut-caller.result.now c.self.invariant.eight c.get.ensures c.from.ensures c.index_mut-caller.ensures.value in
    let asked = asks_of f.config at.it c.args.node c.args.object c.args.operation (to_z-of_z w64 c.args.arg) (record { sfits = c.ranges.arg.sfits }) c.next.ensures in
    record { own = call_own f at asked c.in_ok-call.was; right = call_is_right f at asked c.in_ok-call.was }

pub returns-in_err-send : goal.returns-in_err-send
returns-in_err-send g c =
    let f = fields_of g.M.Machine.next g.M.Machine.answers g.M.Machine.begin c.self.inside.messages c.self.invariant c.self.view_is in
    let at = found_task f.tasks c.index_mut-caller.result.now c.self.invariant.eight c.get.ensures c.from.ensures c.index_mut-caller.ensures.value in
    let asked = asks_of f.config at.it c.args.node c.args.object c.args.operation (to_z-of_z w64 c.args.arg) (record { sfits = c.ranges.arg.sfits }) c.next.ensures in
    record { answer = call_runs_out f at asked c.in_ok-call.was c.send.new.messages c.from_residual-in_err-send.result c.in_err-send.ensures.err c.from_residual-in_err-send.ensures.1 }

pub invariant_of-self-2 : goal.invariant_of-self-2
invariant_of-self-2 g c =
    let f = fields_of g.M.Machine.next g.M.Machine.answers g.M.Machine.begin c.self.inside.messages c.self.invariant c.self.view_is in
    let at = found_task f.tasks c.index_mut-caller.result.now c.self.invariant.eight c.get.ensures c.from.ensures c.index_mut-caller.ensures.value in
    still_tasks f at c.call.new.self (ap (λ (k : Caller). k.task) c.call.ensures)

pub returns : goal.returns
returns g c =
    let f = fields_of g.M.Machine.next g.M.Machine.answers g.M.Machine.begin c.self.inside.messages c.self.invariant c.self.view_is in
    let at = found_task f.tasks c.index_mut-caller.result.now c.self.invariant.eight c.get.ensures c.from.ensures c.index_mut-caller.ensures.value in
    let asked = asks_of f.config at.it c.args.node c.args.object c.args.operation (to_z-of_z w64 c.args.arg) (record { sfits = c.ranges.arg.sfits }) c.next.ensures in
    record { answer = called f at asked c.in_ok-call.was c.call.new.self c.send.new.messages (ap (λ (k : Caller). k.part) c.call.ensures) c.in_ok-send.ensures.ok c.messages-first.ensures.value c.one_message.ensures }
