-- Both worlds satisfy the invariant.
use Rattle.std.proofs.Common.{subst}
use Rattle.rp_model.specs.Effect.{Setting}
use Rattle.rp_agreement.specs.Answered.{IsKeptWorld}
use Rattle.rp_actors.specs.Steps.{cluster_setting}
use Rattle.rp_world.proofs.Answering.{same_setting}
use Rattle.rp_world.proofs.Sounding.{agree, ordered}
use Rattle.rp_world.proofs.cluster.Cluster.run.Goals as goal

pub returns : goal.returns
returns g c =
    let m = g.M.Machine in
    let old = c.args.self.now in
    let new = c.run_all-ran.new.self in
    let ran = c.run_all-ran.ensures in
    let same = same_setting m.next m.answers m.begin old new ran.run.setup in
    let later = subst (λ (s : Setting g.row.M.Denot). IsKeptWorld s new.world) same c.is_kept-2.ensures.kept in
    record {
      run = ran.run;
      agree = agree m.next m.answers m.image (m.begin old.setup.program) old.setup.config.nodes c.applied_lists_are_alike.ensures (c.states_are_alike.ensures (m.begin old.setup.program)) old.world new.world
          c.is_kept.ensures.kept.kept.sound later.kept.sound ran.sent;
      ordered = ordered (cluster_setting m.next m.answers m.begin old) c.the_order_exists.ensures c.applied_lists_are_prefixes.ensures (c.replies_answer_calls_that_count.ensures old.setup.config old.setup.program)
          (c.calls_count_in_order.ensures old.setup.config old.setup.program) (c.only_made_calls_count.ensures old.setup.config old.setup.program) (c.a_call_has_one_place.ensures (m.begin old.setup.program)) new.world later;
      decided = c.decisions_stay.ensures old.setup.config.nodes old.world.sent new.world.sent ran.sent;
    }
