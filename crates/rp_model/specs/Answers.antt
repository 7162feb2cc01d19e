-- What a step of a world returns, and events one after another.
use Rattle.std.specs.Prelude.{◌≡◌, ◌⊎◌, ℕ, ◌+◌, ◌-◌, ◌^◌, min, Option, Some, None, IsSome, Result}
use Rattle.std.specs.Prelude.{Ok, Err, List, [], ◌∷◌, length}
use Rattle.rp_base.specs.declared.fault.Fault.{Fault}
use Rattle.rp_base.specs.declared.fault.Fault.TheVariants.{OutOfMemory, Device}
use Rattle.rp_model.specs.declared.effect.Effect.{Effect}
use Rattle.rp_model.specs.Parts.{NodePart}
use Rattle.rp_model.specs.Effect.{Setting, untorn_part}
use Rattle.rp_model.specs.Events.{Event, Submit, Again, Makes, Cut, Stop, Restart}
use Rattle.rp_model.specs.World.{World, Transition, part_at, with_part, event_effect, step_writes}

-- The effect describes what happened, after n messages: the number of the first one that was sent,
-- how many there were (the greatest number of 32 bits means itself or more), and the rest as it is.
pub record Describes (sent : ℕ) (transition : Transition) (effect : Effect) : Type 0 where
  pub first : effect.first ≡ sent + 1
  pub count : effect.sent ≡ min (length transition.sends) (2 ^ 32 - 1)
  pub dropped : effect.dropped ≡ transition.dropped
  pub taken : effect.taken ≡ transition.taken
  pub opened : effect.opened ≡ transition.opened

-- at most n of a node's torn bytes are left, if there is a node of this number
abbrev pub untorn : ℕ → World → ℕ → Option NodePart → World
untorn kept w me None = w
untorn kept w me (Some part) = record w { nodes = with_part w.nodes me (untorn_part kept part) }

-- there is a node of this number, and it is stopped
abbrev pub IsStopped : World → ℕ → Type 0
IsStopped w me = (part : NodePart) × (part_at w.nodes me ≡ Some part) × (part.running ≡ None)

-- What is left if an event runs out of memory: the world as it was; only the restart of a stopped
-- node may have taken torn bytes off its end. A stop takes no memory, so it never runs out.
abbrev pub IsLeft : World → Event → World → Type 0
IsLeft w (Submit task node object operation arg) left = left ≡ w
IsLeft w (Again task node) left = left ≡ w
IsLeft w (Makes step) left = left ≡ w
IsLeft w (Cut step kept) left = left ≡ w
IsLeft w (Stop me) left = ⊥
IsLeft w (Restart me) left =
    (kept : ℕ) × (left ≡ untorn kept w me (part_at w.nodes me)) × IsStopped w me

-- Where memory runs out, the event would not have been refused, and nothing happens.
pub record IsOutOfMemory {S : Type 0} (s : Setting S) (w : World) (event : Event) (left : World)
    : Type 0 where
  pub intended : Transition
  pub effect : event_effect s w event ≡ Ok intended
  pub left_so : IsLeft w event left

-- The event leads to this world.
pub record ResultsIn {S : Type 0} (s : Setting S) (w : World) (event : Event) (after : World)
    : Type 0 where
  pub transition : Transition
  pub effect : event_effect s w event ≡ Ok transition
  pub world : after ≡ transition.world

-- What is left if a device fails. A step that writes a record, or a cut of one, is cut with some
-- number of the record's bytes kept. A stopped node does not start again. No other event uses a
-- device.
abbrev pub FailsBy : {S : Type 0} → Setting S → World → Event → World → Type 0
FailsBy s w (Submit task node object operation arg) left = ⊥
FailsBy s w (Again task node) left = ⊥
FailsBy s w (Makes step) left =
    (kept : ℕ) × ResultsIn s w (Cut step kept) left × IsSome (step_writes s w step)
FailsBy s w (Cut step kept) left =
    (less : ℕ) × ResultsIn s w (Cut step less) left × IsSome (step_writes s w step)
FailsBy s w (Stop me) left = ⊥
FailsBy s w (Restart me) left = IsLeft w (Restart me) left

-- A refusal changes nothing.
pub record IsRefused {S : Type 0} (s : Setting S) (w : World) (event : Event) (left : World)
    (fault : Fault)
    : Type 0 where
  pub refusal : event_effect s w event ≡ Err fault
  pub unchanged : left ≡ w

-- the fault that an event was answered with, and the world that it leaves
abbrev pub IsFaulted : {S : Type 0} → Setting S → World → Event → World → Fault → Type 0
IsFaulted s w event left fault =
    IsRefused s w event left fault
    ⊎ (((fault ≡ OutOfMemory) × IsOutOfMemory s w event left)
    ⊎ ((fault ≡ Device) × FailsBy s w event left))

-- An event happened: this is its result, and it was reported.
pub record IsDone {S : Type 0} (s : Setting S) (w : World) (event : Event) (after : World)
    (effect : Effect)
    : Type 0 where
  pub transition : Transition
  pub resulted : event_effect s w event ≡ Ok transition
  pub world : after ≡ transition.world
  pub describes : Describes (length w.sent) transition effect

-- What a step answers: the effect, or a fault.
abbrev pub Steps : {S : Type 0} → Setting S → World → Event → World → Result Effect Fault → Type 0
Steps s w event after (Ok effect) = IsDone s w event after effect
Steps s w event left (Err fault) = IsFaulted s w event left fault

-- Events happen one after another, each from the world that the one before led to.
abbrev pub Happen : {S : Type 0} → Setting S → World → List Event → World → Type 0
Happen s w [] after = after ≡ w
Happen s w (event ∷ rest) after =
    (transition : Transition) × (event_effect s w event ≡ Ok transition)
    × Happen s transition.world rest after
