-- What an event is for the tasks: a node's, which changes none of them, or one task's own step.
use Rattle.std.proofs.Common.{◌≡◌, ◌⊎◌, ℕ, suc, ◌+◌, ◌-◌, ◌<◌, ◌^◌, Bool, true, false, not, ◌||◌, ℤ, Result, Ok, Err, Option, Some, None, List, [], ◌∷◌, ◌++◌, length, arith, inl, inr, refl, sym, ap, subst, ◌∙◌, append-nil}
use Rattle.std.specs.Prelude.{is_some, nat_lt, nat_le, nat_eq, if◌then◌else◌}
use Rattle.std.specs.List.{cons_option}
use Rattle.std.proofs.lemmas.Bool.{cases_Bool, cond-true, cond-false, and_parts, eqb-true, ltb-true}
use Rattle.std.proofs.lemmas.List.{length-append}
use Rattle.rp_base.specs.Action.{is_right}
use Rattle.rp_base.specs.Calls.{outstanding_number}
use Rattle.rp_base.specs.Sets.{Has}
use Rattle.rp_base.specs.declared.action.Action.{Action}
use Rattle.rp_base.specs.declared.action.Operation.{Operation}
use Rattle.rp_base.specs.declared.config.Config.{Config}
use Rattle.rp_base.specs.declared.fault.Fault.{Fault}
use Rattle.rp_base.specs.declared.fault.Fault.TheVariants.{NumbersSpent, BadConfig}
use Rattle.rp_base.specs.declared.reply.Answer.{Answer}
use Rattle.rp_base.specs.declared.reply.Reply.{Reply}
use Rattle.rp_base.proofs.Members.{has_left, has_right}
use Rattle.rp_model.specs.rp_codec.specs.Message.{Message}
use Rattle.rp_model.specs.rp_codec.specs.declared.packet.Body.{Body}
use Rattle.rp_model.specs.rp_codec.specs.declared.packet.Body.TheVariants as bodies
use Rattle.rp_model.specs.Effect.{Setting, Done, NodeInput, turn_done_if, running_effect, effect_while, node_effect, cut_if, cut_effect, stops_while, restart_while, goes_on_as}
use Rattle.rp_model.specs.Events.{event_of, step_of}
use Rattle.rp_model.specs.Parts.{NodePart, Running, TaskPart, Turn}
use Rattle.rp_model.specs.Tasks.{TaskInput, Submit, Again, Take, next_call, may_call, calls_if, asks_again, takes, takes_reply, task_hears, task_effect, asks}
use Rattle.rp_model.specs.World.{World, Transition, part_at, nothing_happens, task_done, node_done_if, task_done_if, task_takes, stops, restarts, step_effect, cut_step, event_effect, chosen_effect, chosen_cut}
use Rattle.rp_model.proofs.Choosing.{any_given, gives_any, by_chosen}
use Rattle.rp_model.specs.declared.event.Event.{Event}
use Rattle.rp_model.specs.declared.event.Event.TheVariants as events
use Rattle.rp_model.specs.declared.event.Step.{Step}
use Rattle.rp_world.specs.rp_agreement.specs.Answered.{calls_so_far}
use Rattle.rp_run.specs.Agreeing.{call_for}
use Rattle.rp_run.specs.Items.{Item, Called, Asked}
use Rattle.rp_run.specs.Output.{called_by}

-- what a call that is made asks for
abbrev pub made_by : TaskInput → List Asked
made_by (Submit node object operation arg) = record { object = object; operation = operation; arg = arg } ∷ []
made_by (Again node) = []
made_by (Take message) = []

-- the items of these calls
abbrev pub calls_as : ℕ → List Asked → List Item
calls_as t [] = []
calls_as t (asked ∷ rest) = Called t asked ∷ calls_as t rest

-- the event leaves the tasks, and none of them takes a reply or makes a call
pub record IsForNone (w : World) (event : Event) (transition : Transition) : Type 0 where
  pub tasks : transition.world.tasks ≡ w.tasks
  pub taken : transition.taken ≡ None
  pub called : called_by event ≡ []

-- the event is this task's step
pub record IsForTask (config : Config) (w : World) (event : Event) (transition : Transition) : Type 0 where
  pub t : ℕ
  pub part : TaskPart
  pub input : TaskInput
  pub done : Done TaskPart
  pub there : part_at w.tasks t ≡ Some part
  pub resulted : task_effect config t part input ≡ Ok done
  pub is : transition ≡ task_done w t done
  pub called : called_by event ≡ calls_as t (made_by input)

abbrev pub IsFor : Config → World → Event → Result Transition Fault → Type 0
IsFor config w event (Ok transition) = IsForNone w event transition ⊎ IsForTask config w event transition
IsFor config w event (Err fault) = Unit {0}

-- ---- a node takes no reply

abbrev TakesNone : Result (Done NodePart) Fault → Type 0
TakesNone (Ok done) = done.taken ≡ None
TakesNone (Err fault) = Unit {0}

turn_takes_none : (part : NodePart) (turn : Result Turn Fault) → TakesNone (turn_done_if part turn)
turn_takes_none part (Ok turn) = refl
turn_takes_none part (Err fault) = tt

cut_takes_none : (kept : ℕ) (part : NodePart) (result : Result (Done NodePart) Fault) → TakesNone (cut_if kept part result)
cut_takes_none kept part (Ok done) = refl
cut_takes_none kept part (Err fault) = tt

stop_takes_none : (part : NodePart) (running : Option Running) → TakesNone (stops_while part running)
stop_takes_none part None = tt
stop_takes_none part (Some running) = refl

restart_takes_none : (part : NodePart) (running : Option Running) → (restart_while part running).taken ≡ None
restart_takes_none part None = refl
restart_takes_none part (Some running) = refl

module _ {S : Type 0} (s : Setting S) (event : Event) (no_call : called_by event ≡ []) where
  input_takes_none : (me : ℕ) (part : NodePart) (input : NodeInput) (running : Option Running) → TakesNone (effect_while s me part input running)
  input_takes_none me part input None = tt
  input_takes_none me part input (Some running) = turn_takes_none part (running_effect s me part.records running input)

  node_for : (w : World) (me : ℕ) (result : Result (Done NodePart) Fault) → TakesNone result → IsFor s.config w event (node_done_if w me result)
  node_for w me (Ok done) none = inl (record { tasks = refl; taken = none; called = no_call })
  node_for w me (Err fault) none = tt

  nothing_for : (w : World) → IsFor s.config w event (Ok (nothing_happens w))
  nothing_for w = inl (record { tasks = refl; taken = refl; called = no_call })

  -- a step, whole or cut
  step_for : (w : World) (step : Step) → IsFor s.config w event (step_effect s w (step_of step))
  step_for w step =
      by_chosen w any_given (λ c. IsFor s.config w event (chosen_effect s w c))
      (λ me part input here _. node_for w me (node_effect s me part input) (input_takes_none me part input part.running))
      (λ t part message here _. inr (record { t = t; part = part; input = Take message; done = task_hears t part message.body; there = here; resulted = refl; is = refl; called = no_call }))
      (λ whom. nothing_for w) tt (λ me none. tt) (step_of step) (gives_any w (step_of step))

  cut_step_for : (w : World) (step : Step) (kept : ℕ) → IsFor s.config w event (cut_step s w (step_of step) kept)
  cut_step_for w step kept =
      by_chosen w any_given (λ c. IsFor s.config w event (chosen_cut s w kept c))
      (λ me part input here _. node_for w me (cut_effect s me part input kept) (cut_takes_none kept part (node_effect s me part input)))
      (λ t part message here _. tt) (λ whom. tt) tt (λ me none. tt) (step_of step) (gives_any w (step_of step))

  -- ---- stops and restarts

  stops_for : (w : World) (me : ℕ) (part : Option NodePart) → IsFor s.config w event (stops w me part)
  stops_for w me None = tt
  stops_for w me (Some part) = node_for w me (stops_while part part.running) (stop_takes_none part part.running)

  restarts_for : (w : World) (me : ℕ) (part : Option NodePart) → IsFor s.config w event (restarts w me part)
  restarts_for w me None = tt
  restarts_for w me (Some part) = inl (record { tasks = refl; taken = restart_takes_none part part.running; called = no_call })

-- ---- an event

module _ {S : Type 0} (s : Setting S) (event : Event) where
  task_if_for : (w : World) (t : ℕ) (part : TaskPart) (input : TaskInput) → part_at w.tasks t ≡ Some part → called_by event ≡ calls_as t (made_by input)
      → (result : Result (Done TaskPart) Fault) → task_effect s.config t part input ≡ result → IsFor s.config w event (task_done_if w t result)
  task_if_for w t part input there called (Ok done) resulted = inr (record { t = t; part = part; input = input; done = done; there = there; resulted = resulted; is = refl; called = called })
  task_if_for w t part input there called (Err fault) resulted = tt

  task_takes_for : (w : World) (t : ℕ) (input : TaskInput) (part : Option TaskPart) → part_at w.tasks t ≡ part → called_by event ≡ calls_as t (made_by input)
      → IsFor s.config w event (task_takes s.config w t input part)
  task_takes_for w t input None there called = tt
  task_takes_for w t input (Some part) there called = task_if_for w t part input there called (task_effect s.config t part input) refl

pub event_is_for : {S : Type 0} (s : Setting S) (w : World) (event : Event) → IsFor s.config w event (event_effect s w (event_of event))
event_is_for s w (events.Submit task node object operation arg) = task_takes_for s (events.Submit task node object operation arg) w task (Submit node object operation arg) (part_at w.tasks task) refl refl
event_is_for s w (events.Again task node) = task_takes_for s (events.Again task node) w task (Again node) (part_at w.tasks task) refl refl
event_is_for s w (events.Node step) = step_for s (events.Node step) refl w step
event_is_for s w (events.Cut step kept) = cut_step_for s (events.Cut step kept) refl w step kept
event_is_for s w (events.Stop me) = stops_for s (events.Stop me) refl w me (part_at w.nodes me)
event_is_for s w (events.Restart me) = restarts_for s (events.Restart me) refl w me (part_at w.nodes me)

-- ---- what a task's step does

-- Its replies stay, with the one that it takes after them; it has made one call more for each that its input asks for, the next one, of which it
-- asks a node, and a reply that it takes is among its replies.
pub record StepsOn (t : ℕ) (part : TaskPart) (input : TaskInput) (done : Done TaskPart) : Type 0 where
  pub replies : (answer : Answer) → Has answer part.replies → Has answer done.part.replies
  pub grown : done.part.replies ≡ part.replies ++ cons_option done.taken []
  pub many : calls_so_far done.part ≡ calls_so_far part + length (made_by input)
  pub sends : (asked : Asked) → Has asked (made_by input) → (node : ℕ) × Has (asks t node (call_for t (suc (calls_so_far part)) asked)) done.sends
  pub taken : (answer : Answer) → done.taken ≡ Some answer → (answer.task ≡ t) × Has answer done.part.replies

abbrev StepsOnIf : ℕ → TaskPart → TaskInput → Result (Done TaskPart) Fault → Type 0
StepsOnIf t part input (Ok done) = StepsOn t part input done
StepsOnIf t part input (Err fault) = Unit {0}

stays : (t : ℕ) (part : TaskPart) (input : TaskInput) → made_by input ≡ [] → StepsOn t part input (goes_on_as part)
stays t part input none = record {
  replies = λ answer h. h;
  grown = sym (append-nil part.replies);
  many = let same : calls_so_far part ≡ calls_so_far part + 0 = omega arith in same ∙ ap (λ (l : List Asked). calls_so_far part + length l) (sym none);
  sends = λ asked h. absurd (subst (λ (l : List Asked). Has asked l) none h);
  taken = λ answer e. absurd (cc);
}

-- a call that may be made is the one that is asked for, by a task that waits for nothing
abbrev IsThis : Action → Option Action → Result Action Fault → Type 0
IsThis call waiting (Ok made) = (made ≡ call) × (waiting ≡ None)
IsThis call waiting (Err fault) = Unit {0}

this_if : (call : Action) (waiting : Option Action) (b : Bool) (fault : Fault) (other : Result Action Fault) → IsThis call waiting other → IsThis call waiting (if b then Err fault else other)
this_if call waiting true fault other is = tt
this_if call waiting false fault other is = is

may_this : (config : Config) (node : ℕ) (part : TaskPart) (call : Action) (waiting : Option Action) → IsThis call waiting (may_call config node part call waiting)
may_this config node part call (Some other) = tt
may_this config node part call None =
    let last : Result Action Fault = if nat_lt config.nodes node || not (is_right call) then Err BadConfig else Ok call in
    this_if call None (nat_le (2 ^ 32 - 1) (length part.replies)) NumbersSpent last (this_if call None (nat_lt config.nodes node || not (is_right call)) BadConfig (Ok call) (refl, refl))

idle_calls : (part : TaskPart) → part.outstanding ≡ None → calls_so_far part ≡ length part.replies
idle_calls part idle = ap (λ (o : Option Action). if is_some o then suc (length part.replies) else length part.replies) idle

call_steps : (t node object : ℕ) (operation : Operation) (arg : ℤ) (part : TaskPart) (made : Result Action Fault)
    → IsThis (next_call t part object operation arg) part.outstanding made → StepsOnIf t part (Submit node object operation arg) (calls_if t node part made)
call_steps t node object operation arg part (Ok call) this =
    let idle : calls_so_far part ≡ length part.replies = idle_calls part this.1 in
    let asked : Asked = record { object = object; operation = operation; arg = arg } in
    let next : call ≡ call_for t (suc (calls_so_far part)) asked = this.0 ∙ ap (λ (n : ℕ). call_for t (suc n) asked) (sym idle) in
    record {
      replies = λ answer h. h;
      grown = sym (append-nil part.replies);
      many = let sum : suc (length part.replies) ≡ length part.replies + 1 = omega arith in sum ∙ ap (λ (n : ℕ). n + 1) (sym idle);
      sends = λ other h. elim h [
        | inl same ↦ (node, inl (ap (asks t node) (ap (call_for t (suc (calls_so_far part))) same ∙ sym next)))
        | inr none ↦ absurd none
      ];
      taken = λ answer e. absurd (cc);
    }
call_steps t node object operation arg part (Err fault) this = tt

again_steps : (t node : ℕ) (part : TaskPart) (waiting : Option Action) → StepsOn t part (Again node) (asks_again t node part waiting)
again_steps t node part None = stays t part (Again node) refl
again_steps t node part (Some call) = record {
  replies = λ answer h. h;
  grown = sym (append-nil part.replies);
  many = omega arith;
  sends = λ asked h. absurd h;
  taken = λ answer e. absurd (cc);
}

again_if : (t node : ℕ) (part : TaskPart) (b : Bool) (done : Done TaskPart) → StepsOn t part (Again node) done → StepsOnIf t part (Again node) (if b then Err BadConfig else Ok done)
again_if t node part true done is = tt
again_if t node part false done is = is

waits_some : (waiting : Option Action) (n : ℕ) → 0 < outstanding_number waiting → (if is_some waiting then suc n else n) ≡ suc n
waits_some None n some = absurd (omega (arith, some))
waits_some (Some call) n some = refl

same_answer : {a b : Answer} → Some a ≡ Some b → b ≡ a
same_answer e = cc

reply_steps : (t : ℕ) (part : TaskPart) (message : Message) (number : ℕ) (reply : Reply) → StepsOn t part (Take message) (takes_reply t part number reply)
reply_steps t part message number reply =
    let answer : Answer = record { task = t; number = number; reply = reply } in
    let one : Done TaskPart = record (goes_on_as (let after : TaskPart = record { outstanding = None; replies = part.replies ++ answer ∷ [] } in after)) { taken = Some answer } in
    elim (cases_Bool (takes part number)) [
      | inl hit ↦
          let both = and_parts (nat_lt 0 number) (nat_eq number (outstanding_number part.outstanding)) hit in
          let positive : 0 < number = ltb-true 0 number both.0 in
          let same : number ≡ outstanding_number part.outstanding = eqb-true number (outstanding_number part.outstanding) both.1 in
          let so_far : calls_so_far part ≡ suc (length part.replies) = waits_some part.outstanding (length part.replies) (omega (arith, positive, same)) in
          let sum : length (part.replies ++ answer ∷ []) ≡ length part.replies + 1 = length-append part.replies (answer ∷ []) in
          subst (StepsOn t part (Take message)) (sym (cond-true (takes part number) one (goes_on_as part) hit)) (record {
            replies = λ other h. has_left other part.replies (answer ∷ []) h;
            grown = refl;
            many = omega (arith, sum, so_far);
            sends = λ asked h. absurd h;
            taken = λ other e. let is : other ≡ answer = same_answer e in
                (ap (λ (a : Answer). a.task) is, subst (λ (a : Answer). Has a (part.replies ++ answer ∷ [])) (sym is) (has_right answer part.replies (answer ∷ []) (inl refl)));
          })
      | inr miss ↦ subst (StepsOn t part (Take message)) (sym (cond-false (takes part number) one (goes_on_as part) miss)) (stays t part (Take message) refl)
    ]

hears_steps : (t : ℕ) (part : TaskPart) (message : Message) (body : Body) → StepsOn t part (Take message) (task_hears t part body)
hears_steps t part message (bodies.Reply number reply) = reply_steps t part message number reply
hears_steps t part message _ = stays t part (Take message) refl

task_steps : (config : Config) (t : ℕ) (part : TaskPart) (input : TaskInput) → StepsOnIf t part input (task_effect config t part input)
task_steps config t part (Submit node object operation arg) =
    let call = next_call t part object operation arg in
    call_steps t node object operation arg part (may_call config node part call part.outstanding) (may_this config node part call part.outstanding)
task_steps config t part (Again node) = again_if t node part (nat_lt config.nodes node) (asks_again t node part part.outstanding) (again_steps t node part part.outstanding)
task_steps config t part (Take message) = hears_steps t part message message.body

pub task_steps_on : (config : Config) (t : ℕ) (part : TaskPart) (input : TaskInput) (done : Done TaskPart) → task_effect config t part input ≡ Ok done → StepsOn t part input done
task_steps_on config t part input done resulted = subst (StepsOnIf t part input) resulted (task_steps config t part input)
