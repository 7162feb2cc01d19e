-- The step took effect, and its answer is put into the buffer, or is too long for it; or it was refused.
use Rattle.std.proofs.Common.{◌≡◌, ◌≤◌, ◌∙◌, Bool, Result, Err, ap, length, refl, subst, sym}
use Rattle.rp_base.specs.declared.fault.Fault.{Fault}
use Rattle.rp_replica.specs.rp_model.specs.Effect.{NodeInput}
use Rattle.rp_replica.specs.rp_model.specs.Parts.{Turn}
use Rattle.rp_replica.specs.Inputs.{input_effect}
use Rattle.rp_replica.specs.rp_rules.specs.Inputs.{given_by}
use Rattle.rp_requests.specs.declared.refusal.Refusal.{Refusal}
use Rattle.rp_requests.specs.Nodes.{NodeState, StepAnswers, is_at_end, step_bytes, step_refusal}
use Rattle.rp_requests.specs.Timing.{comes_late}
use Rattle.rp_requests.proofs.Steps.{refused, step_put, step_too_long}
use Rattle.rp_requests.proofs.node.HandleNode.take.Goals as goal

pub returns-in-Ok-put_last : goal.returns-in-Ok-put_last
returns-in-Ok-put_last g c =
    let effect : Result Turn Fault = input_effect g.M.Machine.next g.M.Machine.answers c.args.self.now.replica c.args.input.now in
    let stale : Bool = comes_late g.M.Machine.next g.M.Machine.answers c.args.self.now.replica (given_by c.args.input.now) in
    let room : step_bytes ≤ length c.args.answer.now = c.requires.room in
    step_put effect stale c.args.self.now c.turn.new.self c.args.answer.now c.put_last.new.answer c.in-Ok-put_last.lengths room c.in-Ok.ensures.ok c.in-Ok-put_last.ensures

pub returns-in-Err-put_last : goal.returns-in-Err-put_last
returns-in-Err-put_last g c =
    let effect : Result Turn Fault = input_effect g.M.Machine.next g.M.Machine.answers c.args.self.now.replica c.args.input.now in
    let stale : Bool = comes_late g.M.Machine.next g.M.Machine.answers c.args.self.now.replica (given_by c.args.input.now) in
    let room : step_bytes ≤ length c.args.answer.now = c.requires.room in
    step_too_long effect stale c.args.self.now c.turn.new.self c.args.answer.now c.put_last.new.answer c.in-Err-put_last.needed room c.in-Ok.ensures.ok c.in-Err-put_last.ensures

pub returns-in-Err : goal.returns-in-Err
returns-in-Err g c =
    let effect : Result Turn Fault = input_effect g.M.Machine.next g.M.Machine.answers c.args.self.now.replica c.args.input.now in
    let given : Result NodeInput Fault = given_by c.args.input.now in
    let stale : Bool = comes_late g.M.Machine.next g.M.Machine.answers c.args.self.now.replica given in
    let room : step_bytes ≤ length c.args.answer.now = c.requires.room in
    let same : c.turn.new.self ≡ c.args.self.now = c.in-Err.ensures.same in
    let end : c.is_at_end.result ≡ is_at_end c.args.self.now.replica given = c.is_at_end.ensures ∙ ap (λ (n : NodeState g.row.M.Denot). is_at_end n.replica given) same in
    let is : c.step_refusal.result ≡ step_refusal (is_at_end c.args.self.now.replica given) c.in-Err.fault = c.step_refusal.ensures ∙ ap (λ (b : Bool). step_refusal b c.in-Err.fault) end in
    subst (λ (r : Refusal). StepAnswers effect (is_at_end c.args.self.now.replica given) stale c.args.self.now c.turn.new.self c.args.answer.now c.args.answer.now (Err r)) (sym is)
    (refused effect stale c.args.self.now c.turn.new.self c.args.answer.now c.args.answer.now (is_at_end c.args.self.now.replica given) c.in-Err.fault (record { node = same; buffer = refl }) room c.in-Err.ensures.err)
