-- A fact about worlds that each actor's step keeps is kept by each event, whatever it answers.
use Rattle.std.proofs.Common.{◌≡◌, ℕ, Result, Ok, Err, Option, Some, None, List, [], ◌∷◌, inl, inr, refl, sym, subst}
use Rattle.rp_base.specs.declared.fault.Fault.{Fault}
use Rattle.rp_base.specs.Sets.{Has}
use Rattle.rp_codec.specs.Message.{Message}
use Rattle.rp_codec.specs.declared.packet.Party.{Party}
use Rattle.rp_codec.specs.declared.packet.Party.TheVariants.{Node, Task, Audit}
use Rattle.rp_model.specs.declared.effect.Effect.{Effect}
use Rattle.rp_model.specs.Parts.{Running}
use Rattle.rp_model.specs.Parts.{NodePart}
use Rattle.rp_model.specs.Parts.{TaskPart}
use Rattle.rp_model.specs.Effect as nodes
use Rattle.rp_model.specs.Effect.{Setting, Done, NodeInput, node_effect, cut_effect, stop_effect, restart_part, untorn_part}
use Rattle.rp_model.specs.Tasks as tasks
use Rattle.rp_model.specs.Tasks.{TaskInput, task_effect}
use Rattle.rp_model.specs.Events.{Step, Deliver, Lead, LeadRange, Interrupt, Tick, Report, Ask, IsRightStep, Event, Submit, Again, Makes, Cut, Stop, Restart, IsRightEvent}
use Rattle.rp_model.specs.World.{World, Transition, part_at, node_done, task_done, node_done_if, task_done_if, task_takes, chosen_effect, chosen_cut, step_effect, cut_step, stops, restarts, event_effect}
use Rattle.rp_model.proofs.Choosing.{GivesOnly, by_chosen}
use Rattle.rp_model.specs.Answers.{untorn, IsLeft, FailsBy, Steps, Happen}
use Rattle.rp_agreement.specs.Inputs.{IsInput, IsTaskInput}
use Rattle.rp_agreement.proofs.PartPlaces.{part_has}

-- what a task is asked for: a packet may always come to it
abbrev pub TaskMay : (ℕ → TaskInput → Type 0) → ℕ → TaskInput → Type 0
TaskMay asked t (tasks.Submit node object operation arg) = asked t (tasks.Submit node object operation arg)
TaskMay asked t (tasks.Again node) = asked t (tasks.Again node)
TaskMay asked t (tasks.Take message) = Unit {0}

-- Each step of an actor keeps the fact: a node's input that may come, whole, or any that is cut, its stop and restart,
-- torn bytes that are truncated, and a task's input.
pub record IsKeptByAll {S : Type 0} (s : Setting S) (may : NodeInput → Type 0) (asked : ℕ → TaskInput → Type 0) (P : World → Type 0) : Type 0 where
  pub input : (w : World) (me : ℕ) (part : NodePart) (input : NodeInput) (done : Done NodePart) → P w → part_at w.nodes me ≡ Some part → IsInput w.sent input
      → may input → node_effect s me part input ≡ Ok done → P (node_done w me done).world
  pub cut : (w : World) (me kept : ℕ) (part : NodePart) (input : NodeInput) (done : Done NodePart) → P w → part_at w.nodes me ≡ Some part → IsInput w.sent input
      → cut_effect s me part input kept ≡ Ok done → P (node_done w me done).world
  pub stop : (w : World) (me : ℕ) (part : NodePart) (done : Done NodePart) → P w → part_at w.nodes me ≡ Some part → stop_effect part ≡ Ok done → P (node_done w me done).world
  pub restart : (w : World) (me : ℕ) (part : NodePart) → P w → part_at w.nodes me ≡ Some part → P (node_done w me (restart_part part)).world
  pub torn : (w : World) (me kept : ℕ) (part : NodePart) → P w → part_at w.nodes me ≡ Some part → P (untorn kept w me (Some part))
  pub task : (w : World) (t : ℕ) (part : TaskPart) (input : TaskInput) (done : Done TaskPart) → P w → part_at w.tasks t ≡ Some part → IsTaskInput w.sent t input
      → TaskMay asked t input → task_effect s.config t part input ≡ Ok done → P (task_done w t done).world

-- the input of a node's step may come
abbrev pub StepMay : (NodeInput → Type 0) → Step → Type 0
StepMay may (Deliver number) = (message : Message) → may (nodes.Receive message)
StepMay may (Lead me choice) = may (nodes.Lead choice)
StepMay may (LeadRange me first count) = may (nodes.LeadRange first count)
StepMay may (Interrupt me source occurrence) = may (nodes.Interrupt source occurrence)
StepMay may (Tick me now) = may (nodes.Tick now)
StepMay may (Report me first) = may (nodes.Report first)
StepMay may (Ask me to) = may (nodes.Ask to)

-- and that of an event, if it is a task's or a node's step that is not cut
abbrev pub EventMay : (NodeInput → Type 0) → (ℕ → TaskInput → Type 0) → Event → Type 0
EventMay may asked (Submit t node object operation arg) = asked t (tasks.Submit node object operation arg)
EventMay may asked (Again t node) = asked t (tasks.Again node)
EventMay may asked (Makes step) = StepMay may step
EventMay may asked (Cut step kept) = Unit {0}
EventMay may asked (Stop me) = Unit {0}
EventMay may asked (Restart me) = Unit {0}

-- any input may come
abbrev pub any_input : NodeInput → Type 0
any_input input = Unit {0}

-- a task may be asked for anything
abbrev pub any_task : ℕ → TaskInput → Type 0
any_task t input = Unit {0}

pub any_asked : (t : ℕ) (input : TaskInput) → TaskMay any_task t input
any_asked t (tasks.Submit node object operation arg) = tt
any_asked t (tasks.Again node) = tt
any_asked t (tasks.Take message) = tt

any_step : (step : Step) → StepMay any_input step
any_step (Deliver number) = λ message. tt
any_step (Lead me choice) = tt
any_step (LeadRange me first count) = tt
any_step (Interrupt me source occurrence) = tt
any_step (Tick me now) = tt
any_step (Report me first) = tt
any_step (Ask me to) = tt

pub any_event : (event : Event) → EventMay any_input any_task event
any_event (Submit t node object operation arg) = tt
any_event (Again t node) = tt
any_event (Makes step) = any_step step
any_event (Cut step kept) = tt
any_event (Stop me) = tt
any_event (Restart me) = tt

-- what happened, if it did, satisfies the fact
abbrev pub HoldsAfter : (World → Type 0) → Result Transition Fault → Type 0
HoldsAfter P (Ok transition) = P transition.world
HoldsAfter P (Err fault) = Unit {0}

module _ {S : Type 0} (s : Setting S) (may : NodeInput → Type 0) (asked : ℕ → TaskInput → Type 0) (P : World → Type 0) (counted_by : IsKeptByAll s may asked P) where
  node_if : (w : World) (me : ℕ) (result : Result (Done NodePart) Fault) → ((done : Done NodePart) → result ≡ Ok done → P (node_done w me done).world)
      → HoldsAfter P (node_done_if w me result)
  node_if w me (Ok done) fact = fact done refl
  node_if w me (Err fault) fact = tt

  task_if : (w : World) (t : ℕ) (result : Result (Done TaskPart) Fault) → ((done : Done TaskPart) → result ≡ Ok done → P (task_done w t done).world)
      → HoldsAfter P (task_done_if w t result)
  task_if w t (Ok done) fact = fact done refl
  task_if w t (Err fault) fact = tt

  -- ---- steps

  task_takes_keep : (w : World) (t : ℕ) (input : TaskInput) (part : Option TaskPart) → P w → IsTaskInput w.sent t input → TaskMay asked t input → part_at w.tasks t ≡ part
      → HoldsAfter P (task_takes s.config w t input part)
  task_takes_keep w t input None fact right comes here = tt
  task_takes_keep w t input (Some part) fact right comes here = task_if w t (task_effect s.config t part input) (λ done is. counted_by.task w t part input done fact here right comes is)

  -- the inputs of a step may come, and are right
  step_gives : (w : World) (step : Step) → IsRightStep step → StepMay may step → GivesOnly w (λ input. IsInput w.sent input × may input) step
  step_gives w (Deliver number) is comes = λ message sent. (part_has w.sent number message sent, comes message)
  step_gives w (Lead me choice) is comes = (is.1, comes)
  step_gives w (LeadRange me first count) is comes = (is.1, comes)
  step_gives w (Interrupt me source occurrence) is comes = ((is.1, is.2), comes)
  step_gives w (Tick me now) is comes = (is.1, comes)
  step_gives w (Report me first) is comes = (is.1, comes)
  step_gives w (Ask me to) is comes = (is.1, comes)

  right_gives : (w : World) (step : Step) → IsRightStep step → GivesOnly w (IsInput w.sent) step
  right_gives w (Deliver number) is = λ message sent. part_has w.sent number message sent
  right_gives w (Lead me choice) is = is.1
  right_gives w (LeadRange me first count) is = is.1
  right_gives w (Interrupt me source occurrence) is = (is.1, is.2)
  right_gives w (Tick me now) is = is.1
  right_gives w (Report me first) is = is.1
  right_gives w (Ask me to) is = is.1

  step_keeps : (w : World) (step : Step) → P w → IsRightStep step → StepMay may step → HoldsAfter P (step_effect s w step)
  step_keeps w step fact is comes =
      by_chosen w (λ input. IsInput w.sent input × may input) (λ c. HoldsAfter P (chosen_effect s w c))
      (λ me part input here given. node_if w me (node_effect s me part input) (λ done is. counted_by.input w me part input done fact here given.0 given.1 is))
      (λ t part message here to. task_if w t (task_effect s.config t part (tasks.Take message))
      (λ done is. counted_by.task w t part (tasks.Take message) done fact here (part_has w.sent to.number message to.sent, to.receiver) tt is)) (λ whom. fact) tt (λ me none. tt) step
      (step_gives w step is comes)

  cut_step_keeps : (w : World) (step : Step) (kept : ℕ) → P w → IsRightStep step → HoldsAfter P (cut_step s w step kept)
  cut_step_keeps w step kept fact is =
      by_chosen w (IsInput w.sent) (λ c. HoldsAfter P (chosen_cut s w kept c))
      (λ me part input here given. node_if w me (cut_effect s me part input kept) (λ done is. counted_by.cut w me kept part input done fact here given is)) (λ t part message here to. tt) (λ whom. tt) tt
      (λ me none. tt) step (right_gives w step is)

  -- ---- events

  stops_keep : (w : World) (me : ℕ) (part : Option NodePart) → P w → part_at w.nodes me ≡ part → HoldsAfter P (stops w me part)
  stops_keep w me None fact here = tt
  stops_keep w me (Some part) fact here = node_if w me (stop_effect part) (λ done is. counted_by.stop w me part done fact here is)

  restarts_keep : (w : World) (me : ℕ) (part : Option NodePart) → P w → part_at w.nodes me ≡ part → HoldsAfter P (restarts w me part)
  restarts_keep w me None fact here = tt
  restarts_keep w me (Some part) fact here = counted_by.restart w me part fact here

  pub event_keeps : (w : World) (event : Event) → P w → IsRightEvent event → EventMay may asked event → HoldsAfter P (event_effect s w event)
  event_keeps w (Submit t node object operation arg) fact is comes = task_takes_keep w t (tasks.Submit node object operation arg) (part_at w.tasks t) fact (is.1, is.4) comes refl
  event_keeps w (Again t node) fact is comes = task_takes_keep w t (tasks.Again node) (part_at w.tasks t) fact is.1 comes refl
  event_keeps w (Makes step) fact is comes = step_keeps w step fact is comes
  event_keeps w (Cut step kept) fact is comes = cut_step_keeps w step kept fact is.0
  event_keeps w (Stop me) fact is comes = stops_keep w me (part_at w.nodes me) fact refl
  event_keeps w (Restart me) fact is comes = restarts_keep w me (part_at w.nodes me) fact refl

  -- ---- whatever a step answers

  torn_keeps : (w : World) (me kept : ℕ) (part : Option NodePart) → P w → part_at w.nodes me ≡ part → P (untorn kept w me part)
  torn_keeps w me kept None fact here = fact
  torn_keeps w me kept (Some part) fact here = counted_by.torn w me kept part fact here

  same_keeps : (w left : World) → P w → left ≡ w → P left
  same_keeps w left fact same = subst P (sym same) fact

  left_keeps : (w : World) (event : Event) (left : World) → P w → IsLeft w event left → P left
  left_keeps w (Submit t node object operation arg) left fact is = same_keeps w left fact is
  left_keeps w (Again t node) left fact is = same_keeps w left fact is
  left_keeps w (Makes step) left fact is = same_keeps w left fact is
  left_keeps w (Cut step kept) left fact is = same_keeps w left fact is
  left_keeps w (Stop me) left fact is = absurd is
  left_keeps w (Restart me) left fact is = subst P (sym is.1) (torn_keeps w me is.0 (part_at w.nodes me) fact refl)

  -- what an effect leads to
  pub result_keeps : (result : Result Transition Fault) (transition : Transition) (after : World) → HoldsAfter P result → result ≡ Ok transition → after ≡ transition.world → P after
  result_keeps result transition after fact is world = subst P (sym world) (subst (HoldsAfter P) is fact)

  fails_keeps : (w : World) (event : Event) (left : World) → P w → IsRightEvent event → FailsBy s w event left → P left
  fails_keeps w (Submit t node object operation arg) left fact is fails = absurd fails
  fails_keeps w (Again t node) left fact is fails = absurd fails
  fails_keeps w (Makes step) left fact is fails = result_keeps (cut_step s w step fails.0) fails.1.transition left (cut_step_keeps w step fails.0 fact is) fails.1.effect fails.1.world
  fails_keeps w (Cut step kept) left fact is fails = result_keeps (cut_step s w step fails.0) fails.1.transition left (cut_step_keeps w step fails.0 fact is.0) fails.1.effect fails.1.world
  fails_keeps w (Stop me) left fact is fails = absurd fails
  fails_keeps w (Restart me) left fact is fails = left_keeps w (Restart me) left fact fails

  pub answer_keeps : (w : World) (event : Event) (after : World) (answer : Result Effect Fault) → P w → IsRightEvent event → EventMay may asked event → Steps s w event after answer → P after
  answer_keeps w event after (Ok effect) fact is comes steps = result_keeps (event_effect s w event) steps.transition after (event_keeps w event fact is comes) steps.resulted steps.world
  answer_keeps w event left (Err fault) fact is comes steps =
      elim steps [
        | inl refused ↦ same_keeps w left fact refused.unchanged
        | inr failed ↦ elim failed [
          | inl memory ↦ left_keeps w event left fact memory.1.left_so
          | inr device ↦ fails_keeps w event left fact is device.1
        ]
      ]

  -- events one after another
  pub history_keeps : (w : World) (events : List Event) (after : World) → P w → ((event : Event) → Has event events → IsRightEvent event)
      → ((event : Event) → Has event events → EventMay may asked event) → Happen s w events after → P after
  history_keeps w [] after fact right come happen = same_keeps w after fact happen
  history_keeps w (event ∷ rest) after fact right come happen =
      history_keeps happen.0.world rest after
      (result_keeps (event_effect s w event) happen.0 happen.0.world (event_keeps w event fact (right event (inl refl)) (come event (inl refl))) happen.1 refl)
      (λ other h. right other (inr h)) (λ other h. come other (inr h)) happen.2
