-- What may happen in a world: a step of one actor, or a stop or a restart of one.
use Rattle.std.specs.Prelude.{ℕ, ◌<◌, ◌^◌, ℤ, FitsSigned, Option, IfSome}
use Rattle.std.specs.Int.{w64}
use Rattle.rp_base.specs.Number.{IsNode, IsTask, IsPosition}
use Rattle.rp_base.specs.Action.{IsIndex, IsCount}
use Rattle.rp_base.specs.declared.action.Operation.{Operation}
use Rattle.rp_base.specs.declared.action.Operation.TheVariants.{Function, Procedure, Entry}
use Rattle.rp_base.specs.declared.action.Operation.TheVariants.{SetTimer, CancelTimer}
use Rattle.rp_model.specs.declared.event.Step.{Step as TakenStep}
use Rattle.rp_model.specs.declared.event.Step.TheVariants as taken_steps
use Rattle.rp_model.specs.declared.event.Event.{Event as TakenEvent}
use Rattle.rp_model.specs.declared.event.Event.TheVariants as taken_events

-- A packet that was sent, by its number from 1, is delivered to its receiver, a node or a task; or
-- the node of a number leads, at a position or the least free one or at n from a position on, notes
-- an interrupt of a source, notes a tick, reports from a position on, or asks a node for what it
-- misses.
pub data Step : Type 0 where
  Deliver : ℕ → Step
  Lead : ℕ → Option ℕ → Step
  LeadRange : ℕ → ℕ → ℕ → Step
  Interrupt : ℕ → ℕ → ℕ → Step
  Tick : ℕ → ℕ → Step
  Report : ℕ → ℕ → Step
  Ask : ℕ → ℕ → Step

-- A task makes its next call and asks a node; it asks a node again; a node makes a step; it stops
-- within the step, of whose record n bytes are kept; it stops; it starts again.
pub data Event : Type 0 where
  Submit : ℕ → ℕ → ℕ → Operation → ℤ → Event
  Again : ℕ → ℕ → Event
  Makes : Step → Event
  Cut : Step → ℕ → Event
  Stop : ℕ → Event
  Restart : ℕ → Event

-- ---- the ranges that the types of numbers keep (a message of a number above the last is refused)

abbrev pub IsOperation : Operation → Type 0
IsOperation (Function index) = index < 2 ^ 8
IsOperation (Procedure index) = index < 2 ^ 8
IsOperation (Entry index) = index < 2 ^ 8
IsOperation (SetTimer index) = index < 2 ^ 8
IsOperation (CancelTimer index) = index < 2 ^ 8

abbrev pub IsRightStep : Step → Type 0
IsRightStep (Deliver number) = Unit {0}
IsRightStep (Lead node position) = IsNode node × IfSome position IsPosition
IsRightStep (LeadRange node first count) = IsNode node × IsPosition first × (count < 2 ^ 8)
IsRightStep (Interrupt node source occurrence) = IsNode node × IsIndex source × IsCount occurrence
IsRightStep (Tick node now) = IsNode node × (now < 2 ^ 32)
IsRightStep (Report node first) = IsNode node × IsPosition first
IsRightStep (Ask node to) = IsNode node × IsNode to

-- an event that the types of its numbers allow
abbrev pub IsRightEvent : Event → Type 0
IsRightEvent (Submit task node object operation arg) =
    IsTask task × IsNode node × (object < 2 ^ 8) × IsOperation operation × FitsSigned w64 arg
IsRightEvent (Again task node) = IsTask task × IsNode node
IsRightEvent (Makes step) = IsRightStep step
IsRightEvent (Cut step kept) = IsRightStep step × (kept < 2 ^ 64)
IsRightEvent (Stop node) = IsNode node
IsRightEvent (Restart node) = IsNode node

-- ---- the same as a cluster takes them

abbrev pub step_of : TakenStep → Step
step_of (taken_steps.Deliver number) = Deliver number
step_of (taken_steps.Lead node position) = Lead node position
step_of (taken_steps.LeadRange node first count) = LeadRange node first count
step_of (taken_steps.Interrupt node interrupt) =
    Interrupt node interrupt.source interrupt.occurrence
step_of (taken_steps.Tick node now) = Tick node now
step_of (taken_steps.Report node first) = Report node first
step_of (taken_steps.Ask node to) = Ask node to

abbrev pub event_of : TakenEvent → Event
event_of (taken_events.Submit task node object operation arg) =
    Submit task node object operation arg
event_of (taken_events.Again task node) = Again task node
event_of (taken_events.Node step) = Makes (step_of step)
event_of (taken_events.Cut step kept) = Cut (step_of step) kept
event_of (taken_events.Stop node) = Stop node
event_of (taken_events.Restart node) = Restart node
