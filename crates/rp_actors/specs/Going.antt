-- The result of a call of a cluster's parts (no public clause names it).
use Rattle.std.specs.Prelude.{◌≡◌, ◌⊎◌, ℕ, Option, None, Some, Result, Ok, Err, IsSome}
use Rattle.std.specs.Prelude.{length}
use Rattle.rp_base.specs.declared.record.Rec.{Rec}
use Rattle.rp_base.specs.declared.reply.Reply.{Reply}
use Rattle.rp_codec.specs.Message.{Message}
use Rattle.rp_codec.specs.declared.packet.Body.{Body}
use Rattle.rp_codec.specs.declared.packet.Body.TheVariants.{Reply as Answer}
use Rattle.rp_base.specs.declared.fault.Fault.{Fault}
use Rattle.rp_base.specs.declared.fault.PacketReason.{PacketReason}
use Rattle.rp_base.specs.declared.fault.Fault.TheVariants.{OutOfMemory, Device, NotRunning}
use Rattle.rp_model.specs.Answers.{Describes, IsLeft}
use Rattle.rp_model.specs.Events.{Step, Restart}
use Rattle.rp_model.specs.Effect.{Setting}
use Rattle.rp_model.specs.World.{World, Transition, Chosen, chosen, node_chosen, chosen_effect}
use Rattle.rp_model.specs.World.{chosen_cut, chosen_record, cut_step}
use Rattle.rp_model.specs.declared.effect.Effect.{Effect}
use Rattle.rp_actors.specs.Failures.{RisesAt, RisesOnly}
use Rattle.rp_actors.specs.Steps.{ClusterState}

-- A step by the definitions: its result, that of a cut of it where n bytes of its record are kept,
-- the node that makes it, and the record that it writes.
pub record Meant : Type 0 where
  pub whole : Result Transition Fault
  pub cut : ℕ → Result Transition Fault
  pub node : Option ℕ
  pub writes : Option Rec

-- the step of the actor that was chosen
abbrev pub meant_by : {S : Type 0} → Setting S → World → Chosen → Meant
meant_by s w c = record {
  whole = chosen_effect s w c;
  cut = λ kept. chosen_cut s w kept c;
  node = node_chosen c;
  writes = chosen_record s c;
}

abbrev pub step_meant : {S : Type 0} → Setting S → World → Step → Meant
step_meant s w step = meant_by s w (chosen w step)

-- a cut of it, where n bytes are kept
abbrev pub cut_meant : {S : Type 0} → Setting S → World → Step → ℕ → Meant
cut_meant s w step kept = record (step_meant s w step) { whole = cut_step s w step kept }

-- what a task asks for, which uses no device
abbrev pub call_meant : Result Transition Fault → Meant
call_meant effect =
    record { whole = effect; cut = λ kept. Err NotRunning; node = None; writes = None }

module _ {P : Type 0} (old : ClusterState P) (effect : Result Transition Fault)
    (new : ClusterState P) where
  -- it happened, and was reported: the world alone changed
  pub record Goes (stated : Effect) : Type 0 where
    pub transition : Transition
    pub resulted : effect ≡ Ok transition
    pub goes : new ≡ record old { world = transition.world }
    pub describes : Describes (length old.world.sent) transition stated

  -- memory ran out for it, and nothing changed
  pub record RunsOut (fault : Fault) : Type 0 where
    pub memory : fault ≡ OutOfMemory
    pub intended : Transition
    pub resulted : effect ≡ Ok intended
    pub unchanged : new ≡ old

  -- it is refused for this reason, and nothing changed
  pub record IsRefusedWhole (fault : Fault) : Type 0 where
    pub resulted : effect ≡ Err fault
    pub unchanged : new ≡ old

-- The device of its node failed, whose count alone rose; the step, which writes a record, is cut
-- where some number of bytes is kept.
pub record IsCutByDevice {P : Type 0} (old : ClusterState P) (m : Meant) (new : ClusterState P)
    (fault : Fault) : Type 0 where
  pub device : fault ≡ Device
  pub wrote : IsSome m.writes
  pub kept : ℕ
  pub transition : Transition
  pub resulted : m.cut kept ≡ Ok transition
  pub goes : new ≡ record old { world = transition.world; failures = new.failures }
  pub rises : RisesOnly m.node old.failures new.failures

-- what is answered to a step
abbrev pub Answers : {P : Type 0} → ClusterState P → Meant → ClusterState P → Result Effect Fault
    → Type 0
Answers old m new (Ok stated) = Goes old m.whole new stated
Answers old m new (Err fault) =
    IsRefusedWhole old m.whole new fault ⊎ (RunsOut old m.whole new fault ⊎ IsCutByDevice old m new fault)

-- what a stop answers, which takes no memory and has no device: it happened, or was refused
abbrev pub AnswersStop : {P : Type 0} → ClusterState P → Result Transition Fault → ClusterState P
    → Result Effect Fault → Type 0
AnswersStop old effect new (Ok stated) = Goes old effect new stated
AnswersStop old effect new (Err fault) = IsRefusedWhole old effect new fault

-- what a call answers that returns its effect in place
abbrev pub stated : {A : Type 0} → Result A Fault → Effect → Result Effect Fault
stated (Ok done) effect = Ok effect
stated (Err fault) effect = Err fault

-- A restart that failed: the node was stopped, and some torn bytes may be gone. Memory ran out, or
-- its device failed, and its count alone rose.
pub record StartsNot {P : Type 0} (old : ClusterState P) (me : ℕ) (effect : Result Transition Fault)
    (new : ClusterState P) (fault : Fault) : Type 0 where
  pub why : ((fault ≡ OutOfMemory) × (new.failures ≡ old.failures))
      ⊎ ((fault ≡ Device) × RisesAt me old.failures new.failures)
  pub intended : Transition
  pub resulted : effect ≡ Ok intended
  pub left : IsLeft old.world (Restart me) new.world
  pub setup : new.setup ≡ old.setup

abbrev pub AnswersRestart : {P : Type 0} → ClusterState P → ℕ → Result Transition Fault
    → ClusterState P → Result Effect Fault → Type 0
AnswersRestart old me effect new (Ok stated) = Goes old effect new stated
AnswersRestart old me effect new (Err fault) =
    IsRefusedWhole old effect new fault ⊎ StartsNot old me effect new fault

-- the number and the reply in a body, if it is a reply
abbrev pub reply_in : Body → Option (ℕ × Reply)
reply_in (Answer number reply) = Some (number, reply)
reply_in _ = None

-- the same of bytes: of the packet that they encode, if they encode one
abbrev pub reply_read : Result Message PacketReason → Option (ℕ × Reply)
reply_read (Ok packet) = reply_in packet.body
reply_read (Err reason) = None
