-- One event more.
use Rattle.std.proofs.Common.{◌≡◌, ◌+◌, ℕ, Result, Ok, Err, List, [], ◌∷◌, ◌++◌, map, take, sym, ap, subst, ◌∙◌}
use Rattle.std.proofs.lemmas.List.{take_more, map-append}
use Rattle.rp_model.specs.declared.event.Event.{Event as PlainEvent}
use Rattle.rp_model.specs.Effect.{Setting}
use Rattle.rp_model.specs.Events.{Event, event_of}
use Rattle.rp_model.specs.Answers.{Steps, Happen, IsFaulted}
use Rattle.rp_model.specs.World.{node_of}
use Rattle.rp_base.specs.declared.fault.Fault.{Fault}
use Rattle.rp_actors.specs.Failures.{AreCounted}
use Rattle.rp_actors.proofs.Lists.{here_of}
use Rattle.rp_actors.specs.Steps.{cluster_setting}
use Rattle.rp_world.specs.Runs.{LeadsTo}
use Rattle.rp_world.proofs.Answering.{happen_more, same_setting}
use Rattle.rp_world.proofs.Sounding.{sent_stays}
use Rattle.rp_world.proofs.cluster.Cluster.run_all.Goals as goal

pub loop-place-preserved : goal.loop-place-preserved
loop-place-preserved g c =
    let m = g.M.Machine in
    let machine = g.M.Machine in
    let old = c.args.self.now in
    let s = cluster_setting m.next m.answers m.begin old in
    let events = c.args.events.now in
    let place = c.loop-place.place in
    let event = c.index-events-place.result in
    let now = c.loop-place.self.world in
    let after = c.step.new.self.world in
    let effect = c.in_default.field-0 in
    let same = c.loop-place.invariant.setup in
    let stepped = c.in_default.ensures.step in
    let step : Steps s now (event_of event) after (Ok effect) =
    subst (λ (t : Setting g.row.M.Denot). Steps t now (event_of event) after (Ok effect)) (same_setting m.next m.answers m.begin old c.loop-place.self same) stepped.world in
    let more : take (place + 1) events ≡ take place events ++ event ∷ [] =
    take_more events place event c.loop-place-test.true ∙ ap (λ (y : PlainEvent). take place events ++ y ∷ []) (sym c.index-events-place.is) in
    record {
      setup = stepped.setup ∙ same;
      failures = stepped.failures ∙ c.loop-place.invariant.failures;
      so_far = subst (λ (list : List PlainEvent). LeadsTo m.next m.answers m.begin old list after) (sym more)
          (subst (λ (list : List Event). Happen s old.world list after) (sym (map-append event_of (take place events) (event ∷ [])))
          (happen_more s old.world (map event_of (take place events)) now after (event_of event) effect c.loop-place.invariant.so_far step));
      sent = λ m h. sent_stays (cluster_setting machine.next machine.answers machine.begin c.loop-place.self) (c.worlds_grow.ensures (cluster_setting machine.next machine.answers machine.begin c.loop-place.self)) now after (event_of event) (Ok effect) stepped.world m (c.loop-place.invariant.sent m h);
    }

pub returns-in-Err-clause-sent : goal.returns-in-Err-clause-sent
returns-in-Err-clause-sent g c =
    let machine = g.M.Machine in
    let s = cluster_setting machine.next machine.answers machine.begin c.loop-place.self in
    λ m h. sent_stays s (c.worlds_grow.ensures s) c.loop-place.self.world c.step.new.self.world (event_of c.index-events-place.result) c.step.result c.step.ensures.step.world m (c.loop-place.invariant.sent m h)

pub returns-in-Err-clause-run : goal.returns-in-Err-clause-run
returns-in-Err-clause-run g c =
    let m = g.M.Machine in
    let old = c.args.self.now in
    let events = c.args.events.now in
    let now = c.loop-place.self in
    let new = c.step.new.self in
    let event = c.index-events-place.result in
    let fault = c.in-Err.fault in
    let same = c.loop-place.invariant.setup in
    let stepped = c.in-Err.ensures.step in
    record {
      world = record {
        stopped = now.world;
        event = event;
        before = c.loop-place.invariant.so_far;
        here = here_of events c.loop-place.place event c.loop-place-test.true c.index-events-place.is;
        faulted = subst (λ (t : Setting g.row.M.Denot). IsFaulted t now.world (event_of event) new.world fault) (same_setting m.next m.answers m.begin old now same) stepped.world;
      };
      setup = stepped.setup ∙ same;
      failures = subst (λ (l : List ℕ). AreCounted (node_of now.world (event_of event)) l new.failures (let r : Result Unit Fault = Err fault in r)) c.loop-place.invariant.failures stepped.failures;
    }
