-- Events of a cluster one after another.
use Rattle.std.specs.Prelude.{◌≡◌, ℕ, Result, Ok, Err, Some, List, map, take, slice_get}
use Rattle.rp_base.specs.declared.action.Action.{Action}
use Rattle.rp_base.specs.declared.fault.Fault.{Fault}
use Rattle.rp_base.specs.declared.reply.Answer.{Answer}
use Rattle.rp_model.specs.declared.event.Event.{Event}
use Rattle.rp_model.specs.Events.{event_of}
use Rattle.rp_model.specs.World.{World, node_of}
use Rattle.rp_model.specs.Answers.{Happen, IsFaulted}
use Rattle.rp_actors.specs.Failures.{AreCounted}
use Rattle.rp_actors.specs.Steps.{ClusterState, cluster_setting}
use Rattle.rp_world.specs.declared.effect.Refused.{Refused}

module _ {S P : Type 0} (next : S → Action → S) (answers : S → Action → List Answer) (start : P
    → S) where
  -- the events happen, and lead to this world
  abbrev pub LeadsTo : ClusterState P → List Event → World → Type 0
  LeadsTo old events world =
      Happen (cluster_setting next answers start old) old.world (map event_of events) world

  -- The events before a place happen, and the event there is answered by a fault.
  pub record StopsAt (old : ClusterState P) (events : List Event) (left : World) (place : ℕ)
      (fault : Fault) : Type 0 where
    pub stopped : World
    pub event : Event
    pub before : LeadsTo old (take place events) stopped
    pub here : slice_get events place ≡ Some event
    pub faulted : IsFaulted (cluster_setting next answers start old) stopped (event_of event) left fault

  -- where a run ends, by what it answers
  abbrev pub EndsIn : ClusterState P → List Event → World → Result Unit Refused → Type 0
  EndsIn old events new (Ok all) = LeadsTo old events new
  EndsIn old events new (Err refused) = StopsAt old events new refused.place refused.fault

  -- The counts of failures after a run: as before, but that of one node where its device failed, at
  -- the event where the run stopped.
  abbrev pub AreCountedBy : (old : ClusterState P) (events : List Event) (new : ClusterState P)
      (answer : Result Unit Refused)
      → EndsIn old events new.world answer → Type 0
  AreCountedBy old events new (Ok all) resulted = new.failures ≡ old.failures
  AreCountedBy old events new (Err refused) resulted =
      let fault : Result Unit Fault = Err refused.fault in
      AreCounted (node_of resulted.stopped (event_of resulted.event)) old.failures new.failures
      fault

  -- A run of a cluster: its world goes by the events; the counts of failures stay, but where a
  -- device failed; and its setup stays.
  pub record IsRun (old : ClusterState P) (events : List Event) (new : ClusterState P)
      (answer : Result Unit Refused) : Type 0 where
    pub world : EndsIn old events new.world answer
    pub setup : new.setup ≡ old.setup
    pub failures : AreCountedBy old events new answer world
