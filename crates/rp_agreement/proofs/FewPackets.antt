-- What one event sends, whoever acts: one packet at most, or few by what a node has applied after it.
use Rattle.std.proofs.Common.{◌≡◌, ℕ, suc, ◌+◌, ◌-◌, ◌≤◌, ◌<◌, Bool, true, false, if◌then◌else◌, Result, Ok, Err, Option, Some, None, List, ◌⊎◌, length, inl, inr, refl, sym, subst, arith}
use Rattle.std.specs.Prelude.{nat_lt, ◌^◌}
use Rattle.rp_base.specs.Config.{IsRightConfig}
use Rattle.rp_base.specs.Action.{IsRight}
use Rattle.rp_base.specs.Records.{applied_of}
use Rattle.rp_base.specs.Sets.{Has}
use Rattle.rp_base.specs.declared.action.Action.{Action}
use Rattle.rp_base.specs.declared.config.Config.{Config}
use Rattle.rp_base.specs.declared.fault.Fault.{Fault}
use Rattle.rp_base.specs.declared.fault.Fault.TheVariants.{BadConfig}
use Rattle.rp_codec.specs.Message.{Message}
use Rattle.rp_codec.specs.declared.packet.Party.{Party}
use Rattle.rp_codec.specs.declared.packet.Party.TheVariants.{Node, Task, Audit}
use Rattle.rp_codec.specs.declared.packet.Body.{Body}
use Rattle.rp_codec.specs.declared.packet.Body.TheVariants as bodies
use Rattle.rp_model.specs.Parts.{Running}
use Rattle.rp_model.specs.Parts.{NodePart}
use Rattle.rp_model.specs.Parts.{TaskPart}
use Rattle.rp_model.specs.Parts.{Turn}
use Rattle.rp_model.specs.Effect as nodes
use Rattle.rp_model.specs.Effect.{Setting, Done, NodeInput, running_effect, turn_done_if, effect_while, node_effect, stops_while, stop_effect, cut_if, cut_effect, restart_while, restart_part}
use Rattle.rp_model.specs.Tasks as tasks
use Rattle.rp_model.specs.Tasks.{TaskInput, next_call, may_call, calls_if, asks_again, takes, takes_reply, task_hears, task_effect}
use Rattle.rp_model.specs.Events.{Step, Event, Submit, Again, Makes, Cut, Stop, Restart}
use Rattle.rp_model.specs.World.{World, Transition, part_at, node_done_if, task_done_if, task_takes, chosen_effect, chosen_cut, step_effect, cut_step, stops, restarts, event_effect}
use Rattle.rp_model.proofs.Choosing.{any_given, gives_any, by_chosen}
use Rattle.rp_agreement.specs.Answered.{answers_of}
use Rattle.rp_agreement.specs.Worlds.{node_in, IsSoundWorld}
use Rattle.rp_agreement.proofs.Following.{decided_asked}
use Rattle.rp_agreement.proofs.FewSends.{IsFewIf, turn_few}
use Rattle.rp_agreement.proofs.Lists.{has_get}
use Rattle.rp_agreement.proofs.Ordering.{applied_decided}
use Rattle.rp_agreement.proofs.PartPlaces.{put_there, part_has}
use Rattle.rp_agreement.proofs.LogKeeping.{NodesInLog, applied_in_log}
use Rattle.rp_agreement.proofs.WorldKeeping.{node_here}

-- what a task's step sends is one packet or none
abbrev IsOneIf : Result (Done TaskPart) Fault → Type 0
IsOneIf (Ok done) = length done.sends ≤ 1
IsOneIf (Err fault) = Unit {0}

one_called : (t node : ℕ) (part : TaskPart) (call : Result Action Fault) → IsOneIf (calls_if t node part call)
one_called t node part (Ok call) = omega arith
one_called t node part (Err fault) = tt

one_again : (t node : ℕ) (part : TaskPart) (waiting : Option Action) → length (asks_again t node part waiting).sends ≤ 1
one_again t node part None = omega arith
one_again t node part (Some call) = omega arith

one_if : (test : Bool) (fault : Fault) (done : Done TaskPart) → length done.sends ≤ 1 → IsOneIf (if test then Err fault else Ok done)
one_if true fault done few = tt
one_if false fault done few = few

one_either : (test : Bool) (one other : Done TaskPart) → length one.sends ≤ 1 → length other.sends ≤ 1 → (let done : Done TaskPart = if test then one else other in length done.sends ≤ 1)
one_either true one other left right = left
one_either false one other left right = right

one_heard : (t : ℕ) (part : TaskPart) (body : Body) → length (task_hears t part body).sends ≤ 1
one_heard t part (bodies.Reply number reply) = one_either (takes part number) _ _ (omega arith) (omega arith)
one_heard t part _ = omega arith

one_taken : (config : Config) (t : ℕ) (part : TaskPart) (input : TaskInput) → IsOneIf (task_effect config t part input)
one_taken config t part (tasks.Submit node object operation arg) = one_called t node part (may_call config node part (next_call t part object operation arg) part.outstanding)
one_taken config t part (tasks.Again node) = one_if (nat_lt config.nodes node) BadConfig (asks_again t node part part.outstanding) (one_again t node part part.outstanding)
one_taken config t part (tasks.Take message) = one_heard t part message.body

-- ---- an event

module _ {S : Type 0} (s : Setting S) where
  -- few packets, by these applied actions
  abbrev IsFewBy : List Message → NodePart → Type 0
  IsFewBy packets part = length packets ≤ s.config.nodes + 64 + length (answers_of s (applied_of part.records))

  -- what a node's step sends, if it is not refused
  abbrev IsFewDone : Result (Done NodePart) Fault → Type 0
  IsFewDone (Ok done) = IsFewBy done.sends done.part
  IsFewDone (Err fault) = Unit {0}

  few_turned : (part : NodePart) (turn : Result Turn Fault) → IsFewIf s part.records turn → IsFewDone (turn_done_if part turn)
  few_turned part (Ok turn) few = few
  few_turned part (Err fault) few = tt

  few_while : (me : ℕ) (part : NodePart) (input : NodeInput) (running : Option Running) → IsFewDone (effect_while s me part input running)
  few_while me part input None = tt
  few_while me part input (Some running) = few_turned part (running_effect s me part.records running input) (turn_few s me part.records running input)

  few_cut : (kept : ℕ) (part : NodePart) (result : Result (Done NodePart) Fault) → IsFewDone (cut_if kept part result)
  few_cut kept part (Ok done) = omega arith
  few_cut kept part (Err fault) = tt

  few_stop : (part : NodePart) (running : Option Running) → IsFewDone (stops_while part running)
  few_stop part None = tt
  few_stop part (Some running) = omega arith

  few_restart : (part : NodePart) (running : Option Running) → IsFewBy (restart_while part running).sends (restart_while part running).part
  few_restart part None = omega arith
  few_restart part (Some running) = omega arith

  -- what happened sent one packet or none, or few by what a node has applied after it
  abbrev pub IsFewAfter : Transition → Type 0
  IsFewAfter transition =
      (length transition.sends ≤ 1) ⊎ ((me : ℕ) × (part : NodePart) × (part_at transition.world.nodes me ≡ Some part) × IsFewBy transition.sends part)

  abbrev pub IsFewAfterIf : Result Transition Fault → Type 0
  IsFewAfterIf (Ok transition) = IsFewAfter transition
  IsFewAfterIf (Err fault) = Unit {0}

  node_few : (w : World) (me : ℕ) (part : NodePart) (result : Result (Done NodePart) Fault) → part_at w.nodes me ≡ Some part → IsFewDone result → IsFewAfterIf (node_done_if w me result)
  node_few w me part (Ok done) here few = inr (me, done.part, put_there w.nodes me part done.part here, few)
  node_few w me part (Err fault) here few = tt

  task_few : (w : World) (t : ℕ) (result : Result (Done TaskPart) Fault) → IsOneIf result → IsFewAfterIf (task_done_if w t result)
  task_few w t (Ok done) few = inl few
  task_few w t (Err fault) few = tt

  task_takes_few : (w : World) (t : ℕ) (input : TaskInput) (part : Option TaskPart) → IsFewAfterIf (task_takes s.config w t input part)
  task_takes_few w t input None = tt
  task_takes_few w t input (Some part) = task_few w t (task_effect s.config t part input) (one_taken s.config t part input)

  step_few : (w : World) (step : Step) → IsFewAfterIf (step_effect s w step)
  step_few w step =
      by_chosen w any_given (λ c. IsFewAfterIf (chosen_effect s w c)) (λ me part input here _. node_few w me part (node_effect s me part input) here (few_while me part input part.running))
      (λ t part message here _. task_few w t (task_effect s.config t part (tasks.Take message)) (one_taken s.config t part (tasks.Take message))) (λ whom. inl (omega arith)) tt (λ me none. tt) step
      (gives_any w step)

  cut_step_few : (w : World) (step : Step) (kept : ℕ) → IsFewAfterIf (cut_step s w step kept)
  cut_step_few w step kept =
      by_chosen w any_given (λ c. IsFewAfterIf (chosen_cut s w kept c))
      (λ me part input here _. node_few w me part (cut_effect s me part input kept) here (few_cut kept part (node_effect s me part input))) (λ t part message here _. tt) (λ whom. tt) tt
      (λ me none. tt) step (gives_any w step)

  stops_few : (w : World) (me : ℕ) (part : Option NodePart) → part_at w.nodes me ≡ part → IsFewAfterIf (stops w me part)
  stops_few w me None here = tt
  stops_few w me (Some part) here = node_few w me part (stop_effect part) here (few_stop part part.running)

  restarts_few : (w : World) (me : ℕ) (part : Option NodePart) → part_at w.nodes me ≡ part → IsFewAfterIf (restarts w me part)
  restarts_few w me None here = tt
  restarts_few w me (Some part) here = node_few w me part (Ok (restart_part part)) here (few_restart part part.running)

  pub event_few : (w : World) (event : Event) → IsFewAfterIf (event_effect s w event)
  event_few w (Submit t node object operation arg) = task_takes_few w t (tasks.Submit node object operation arg) (part_at w.tasks t)
  event_few w (Again t node) = task_takes_few w t (tasks.Again node) (part_at w.tasks t)
  event_few w (Makes step) = step_few w step
  event_few w (Cut step kept) = cut_step_few w step kept
  event_few w (Stop me) = stops_few w me (part_at w.nodes me) refl
  event_few w (Restart me) = restarts_few w me (part_at w.nodes me) refl

  -- what nodes have applied is right
  applied_right : (w : World) (me : ℕ) (part : NodePart) → IsSoundWorld s.config.nodes w → part_at w.nodes me ≡ Some part
      → (action : Action) → Has action (applied_of part.records) → IsRight action
  applied_right w me part sound here action h =
      let there = subst (λ (p : NodePart). Has action (applied_of p.records)) (sym (node_here w me part here)) h in
      let at = has_get (applied_of (node_in w.nodes me).records) action there in
      (decided_asked sound.sound (suc at.0) action (applied_decided sound.sound me at.0 action at.1)).right

  -- so few packets are sent, where right actions lead to few answers
  pub few_sent : IsRightConfig s.config
      → ((actions : List Action) → ((action : Action) → Has action actions → IsRight action) → length (answers_of s actions) ≤ length actions)
      → (transition : Transition) → IsSoundWorld s.config.nodes transition.world → NodesInLog s.config.max_positions transition.world
      → IsFewAfter transition → length transition.sends < 2 ^ 32 - 1
  few_sent right answers_few transition sound in_log few =
      elim few [
        | inl one ↦ few_of_one one
        | inr many ↦
            let given = answers_few (applied_of many.1.records) (applied_right transition.world many.0 many.1 sound many.2) in
            let applied = applied_in_log many.1.records s.config.max_positions (in_log many.1 (part_has transition.world.nodes many.0 many.1 many.2)) in
            few_of_all many.3 given applied
      ]
    where
      few_of_one : length transition.sends ≤ 1 → length transition.sends < 2 ^ 32 - 1
      few_of_one one = omega (arith, one)

      few_of_all : {given applied : ℕ} → length transition.sends ≤ s.config.nodes + 64 + given → given ≤ applied → applied ≤ s.config.max_positions → length transition.sends < 2 ^ 32 - 1
      few_of_all {given} {applied} sends answers actions =
          let nodes_few : s.config.nodes ≤ 7 = right.nodes.1 in
          let positions_few : s.config.max_positions < 2 ^ 16 = right.positions.1 in
          omega (arith, sends, answers, actions, nodes_few, positions_few)
