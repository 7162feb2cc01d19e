use Rattle.std.proofs.Common.{◌≡◌, Ok, ap, ◌∙◌}
use Rattle.rp_replica.specs.Inputs.{effect_if_given, input_effect}
use Rattle.rp_replica.specs.rp_rules.specs.Inputs.{given_by}
use Rattle.rp_actors.proofs.Light.{light_turn}
use Rattle.rp_actors.proofs.Represented.{node_runs, runs_as}
use Rattle.rp_actors.proofs.Turning.{each_ok, each_err, each_given, unsent}
use Rattle.rp_actors.proofs.node.ClusterNode.turn.Goals as goal

pub returns-else-has_failed : goal.returns-else-has_failed
returns-else-has_failed g c =
    let r = node_runs g.D.Device.disk g.M.Machine.next g.M.Machine.answers c.in-Running.is c.has_failed.ensures c.if-has_failed.false in
    let input = c.args.input.now in
    let new = c.turn_into.new.self in
    let sent = c.args.messages.now.sent in
    let later = c.turn_into.new.out.sent in
    let effect = input_effect r.next r.answers r.replica input in
    let each = each_given r input new sent later c.turn_into.result c.turn_into.ensures.answer in
    record {
      ok = each_ok r (λ given. given) (λ given. given_by input ≡ Ok given) new sent later c.turn_into.result each;
      err = each_err r (λ given. given) (λ given. given_by input ≡ Ok given) new sent later c.turn_into.result each;
      unsent = unsent effect r.replica new sent later c.turn_into.result c.turn_into.ensures.answer;
      certain = λ member part given is gives short light.
          let t = light_turn r.next r.answers member r.replica part (runs_as r member part is) given light in
          c.turn_into.ensures.certain short t.turn (ap (effect_if_given r.next r.answers r.replica) gives ∙ t.resulted) t.free r.working;
    }
