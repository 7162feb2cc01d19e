use Rattle.std.proofs.Common.{◌≡◌, Some, slice_get}
use Rattle.rp_model.specs.Effect.{Receive}
use Rattle.rp_replica.specs.Inputs.{replica_effect}
use Rattle.rp_actors.proofs.Light.{light_turn}
use Rattle.rp_actors.proofs.Represented.{node_runs, runs_as}
use Rattle.rp_actors.proofs.Turning.{each_ok, each_err, got_at, unsent}
use Rattle.rp_actors.proofs.node.ClusterNode.hear.Goals as goal

pub returns-else-has_failed : goal.returns-else-has_failed
returns-else-has_failed g c =
    let r = node_runs g.D.Device.disk g.M.Machine.next g.M.Machine.answers c.in-Running.is c.has_failed.ensures c.if-has_failed.false in
    let new = c.deliver.new.self in
    let sent = c.args.messages.now.sent in
    let later = c.deliver.new.out.sent in
    let there = got_at sent c.args.place c.requires.place in
    let effect = replica_effect r.next r.answers r.replica (Receive there.0) in
    record {
      ok = each_ok r Receive (λ m. slice_get sent c.args.place ≡ Some m) new sent later c.deliver.result c.deliver.ensures.answer;
      err = each_err r Receive (λ m. slice_get sent c.args.place ≡ Some m) new sent later c.deliver.result c.deliver.ensures.answer;
      unsent = unsent effect r.replica new sent later c.deliver.result (c.deliver.ensures.answer there.0 there.1);
      certain = λ member part m is at short light.
          let t = light_turn r.next r.answers member r.replica part (runs_as r member part is) (Receive m) light in
          c.deliver.ensures.certain m at short t.turn t.resulted t.free r.working;
    }
