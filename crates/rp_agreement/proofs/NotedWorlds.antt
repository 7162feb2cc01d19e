-- In every history each action that is offered, proposed or pending was asked for or noted by an event of it.
use Rattle.std.proofs.Common.{◌≡◌, ℕ, true, false, if◌then◌else◌, Result, Ok, Err, Option, Some, None, List, [], ◌∷◌, ◌++◌, length, inl, inr, refl, sym, ap, subst, ◌∙◌}
use Rattle.std.specs.Prelude.{suc, not, nat_le, nat_lt, ◌||◌, replicate, IfSome}
use Rattle.rp_base.specs.declared.action.Action.{Action}
use Rattle.rp_base.specs.declared.action.Action.TheVariants.{Call}
use Rattle.rp_base.specs.declared.config.Config.{Config}
use Rattle.rp_base.specs.declared.fault.Fault.TheVariants.{NumbersSpent, BadConfig}
use Rattle.rp_base.specs.declared.reply.Answer.{Answer}
use Rattle.rp_base.specs.declared.reply.Reply.{Reply}
use Rattle.rp_base.specs.Action.{is_right}
use Rattle.rp_base.specs.Calls.{are_exhausted}
use Rattle.rp_base.specs.declared.fault.Fault.{Fault}
use Rattle.rp_base.specs.declared.record.Rec.{Rec}
use Rattle.rp_base.specs.Config.{IsRightConfig}
use Rattle.rp_base.specs.Sets.{Has}
use Rattle.rp_base.proofs.Members.{has_split}
use Rattle.rp_codec.specs.Message.{Message}
use Rattle.rp_codec.specs.declared.packet.Body.{Body}
use Rattle.rp_codec.specs.declared.packet.Body.TheVariants as bodies
use Rattle.rp_codec.specs.declared.packet.Party.TheVariants.{Node, Task}
use Rattle.rp_model.specs.Parts.{Running}
use Rattle.rp_model.specs.Parts.{NodePart}
use Rattle.rp_model.specs.Parts.{Turn}
use Rattle.rp_model.specs.Parts.{TaskPart, fresh_running, fresh_node, fresh_task}
use Rattle.rp_model.specs.Texts.{written_for}
use Rattle.rp_model.specs.Effect.{Setting, Done, NodeInput, goes_on_as, running_effect, turn_done_if, effect_while, node_effect, stop_part, cut_part, untorn_part, stops_while, stop_effect, cut_if, cut_effect, restart_while, restart_part}
use Rattle.rp_model.specs.Tasks as tasks
use Rattle.rp_model.specs.Tasks.{TaskInput, asks, next_call, may_call, calls_if, asks_again, takes, takes_reply, task_hears, task_effect}
use Rattle.rp_model.specs.Facts.{IsDecided}
use Rattle.rp_model.specs.Events.{Step, Deliver, Lead, LeadRange, Interrupt, Tick, Report, Ask, Event, Submit, Again, Makes, Cut, Stop, Restart}
use Rattle.rp_model.specs.World.{World, opening_world, part_at, node_done}
use Rattle.rp_agreement.specs.History.{IsHistory}
use Rattle.rp_agreement.specs.Inputs.{IsInput}
use Rattle.rp_agreement.specs.Noted.{IsNoted}
use Rattle.rp_agreement.specs.Sound.{IsCall, IsRunning}
use Rattle.rp_agreement.specs.Worlds.{node_in, IsSoundWorld}
use Rattle.rp_agreement.proofs.EventWalk.{IsKeptByAll, TaskMay, any_asked, StepMay, EventMay, history_keeps}
use Rattle.rp_agreement.proofs.Following.{cast_offered, decided_cast}
use Rattle.rp_agreement.proofs.LogKeeping.{part_or_new, same_everywhere}
use Rattle.rp_agreement.proofs.NotedTurns.{OffersAre, CallsAre, HoldsWhile, HoldsIf, InputIs, no_offers, holds_in_turn}
use Rattle.rp_agreement.proofs.PartPlaces.{part_has}
use Rattle.rp_agreement.proofs.TaskEffects.{task_sound, if_task_done}
use Rattle.rp_agreement.proofs.WorldKeeping.{node_here, sound_kept, input_done, cut_done, stop_done, restart_done}

runs_if : (P : Action → Type 0) (running : Option Running) (one : Running) → running ≡ Some one → IfSome running (HoldsWhile P) → HoldsWhile P one
runs_if P running one is holds = subst (λ (o : Option Running). IfSome o (HoldsWhile P)) is holds

fresh_holds : (P : Action → Type 0) → HoldsWhile P fresh_running
fresh_holds P = record { own = λ p h. absurd h; pending = λ item h. absurd h }

both_offer : (P : Action → Type 0) (sent packets : List Message) → OffersAre P sent → OffersAre P packets → OffersAre P (sent ++ packets)
both_offer P sent packets old new i b v offer =
    elim (has_split _ sent packets offer.2) [ inl before ↦ old i b v (offer.0, offer.1, before) | inr following ↦ new i b v (offer.0, offer.1, following) ]

-- calls of a task offer nothing
task_offers : (P : Action → Type 0) (t : ℕ) (packets : List Message) → ((m : Message) → Has m packets → (m.from ≡ Task t) × IsCall t m.body) → OffersAre P packets
task_offers P t packets calls i b v offer = absurd (calls _ offer.2).1

-- ---- a node's step

-- the fact holds of what a node knows afterwards and of what it offers
pub record HoldsOnceDone (P : Action → Type 0) (done : Done NodePart) : Type 0 where
  pub running : IfSome done.part.running (HoldsWhile P)
  pub offers : OffersAre P done.sends

abbrev HoldsOnceDoneIf : (Action → Type 0) → Result (Done NodePart) Fault → Type 0
HoldsOnceDoneIf P (Ok done) = HoldsOnceDone P done
HoldsOnceDoneIf P (Err fault) = Unit {0}

result_holds : (P : Action → Type 0) (result : Result (Done NodePart) Fault) (done : Done NodePart) → HoldsOnceDoneIf P result → result ≡ Ok done → HoldsOnceDone P done
result_holds P result done is resulted = subst (HoldsOnceDoneIf P) resulted is

silent_stop : (P : Action → Type 0) (part : NodePart) → HoldsOnceDone P (goes_on_as (stop_part part))
silent_stop P part = record { running = tt; offers = no_offers P }

turned : (P : Action → Type 0) (part : NodePart) (turn : Result Turn Fault) → HoldsIf P turn → HoldsOnceDoneIf P (turn_done_if part turn)
turned P part (Ok turn) is = record { running = is.running; offers = is.offers }
turned P part (Err fault) is = tt

cut_holds : (P : Action → Type 0) (kept : ℕ) (part : NodePart) (written : Option Rec) → HoldsOnceDone P (goes_on_as (cut_part kept part written))
cut_holds P kept part None = silent_stop P part
cut_holds P kept part (Some rec) =
    let whole = stop_part (record part { records = part.records ++ rec ∷ [] }) in
    let torn = stop_part (record part { torn = kept }) in
    elim (nat_le (length (written_for rec)) kept) as (λ b. HoldsOnceDone P (goes_on_as (if b then whole else torn))) [
      | true ↦ silent_stop P (record part { records = part.records ++ rec ∷ [] })
      | false ↦ silent_stop P (record part { torn = kept })
    ]

cut_done_holds : (P : Action → Type 0) (kept : ℕ) (part : NodePart) (result : Result (Done NodePart) Fault) → HoldsOnceDoneIf P (cut_if kept part result)
cut_done_holds P kept part (Ok done) = cut_holds P kept part done.written
cut_done_holds P kept part (Err fault) = tt

stops_hold : (P : Action → Type 0) (part : NodePart) (running : Option Running) → HoldsOnceDoneIf P (stops_while part running)
stops_hold P part None = tt
stops_hold P part (Some running) = silent_stop P part

restarted : (P : Action → Type 0) (part : NodePart) (running : Option Running) → IfSome part.running (HoldsWhile P) → HoldsOnceDone P (restart_while part running)
restarted P part None is = record { running = fresh_holds P; offers = no_offers P }
restarted P part (Some running) is = record { running = is; offers = no_offers P }

-- ---- a task's step

-- the fact holds of the call that a task waits for
abbrev WaitsFor : (Action → Type 0) → TaskPart → Type 0
WaitsFor P part = (call : Action) → part.outstanding ≡ Some call → P call

-- it holds of each call that the task is asked to make
abbrev pub TaskIs : (Action → Type 0) → ℕ → TaskInput → Type 0
TaskIs P t (tasks.Submit node object operation arg) = (number : ℕ) → P (Call t number object operation arg)
TaskIs P t (tasks.Again node) = Unit {0}
TaskIs P t (tasks.Take message) = Unit {0}

record AsksOnceDone (P : Action → Type 0) (done : Done TaskPart) : Type 0 where
  pub calls : CallsAre P done.sends
  pub waits : WaitsFor P done.part

abbrev AsksOnceDoneIf : (Action → Type 0) → Result (Done TaskPart) Fault → Type 0
AsksOnceDoneIf P (Ok done) = AsksOnceDone P done
AsksOnceDoneIf P (Err fault) = Unit {0}

-- what a packet says is called for, if it is a call
abbrev called_in : Body → Option Action
called_in (bodies.Call call) = Some call
called_in _ = None

one_asked : (P : Action → Type 0) (t node : ℕ) (call : Action) → P call → CallsAre P (asks t node call ∷ [])
one_asked P t node call is u k other h =
    elim h [
      | inl same ↦ (let one : Some other ≡ Some call = ap (λ (m : Message). called_in m.body) same in let two : other ≡ call = cc in subst P (sym two) is)
      | inr none ↦ absurd none
    ]

keeps_waiting : (P : Action → Type 0) (part : TaskPart) → WaitsFor P part → AsksOnceDone P (goes_on_as part)
keeps_waiting P part is = record { calls = λ u k call h. absurd h; waits = is }

makes_call : (P : Action → Type 0) (t node : ℕ) (part : TaskPart) (call : Action) → P call → AsksOnceDone P (record (goes_on_as (record part { outstanding = Some call })) { sends = asks t node call ∷ [] })
makes_call P t node part call is = record { calls = one_asked P t node call is; waits = λ other e. let same : other ≡ call = cc in subst P (sym same) is }

submits : (P : Action → Type 0) (config : Config) (t node : ℕ) (part : TaskPart) (call : Action) (waits : Option Action) → P call → AsksOnceDoneIf P (calls_if t node part (may_call config node part call waits))
submits P config t node part call (Some other) is = tt
submits P config t node part call None is =
    elim (are_exhausted (length part.replies)) as (λ b. AsksOnceDoneIf P (calls_if t node part (if b then Err NumbersSpent else if nat_lt config.nodes node || not (is_right call) then Err BadConfig else Ok call))) [
      | true ↦ tt
      | false ↦ elim (nat_lt config.nodes node || not (is_right call)) as (λ b. AsksOnceDoneIf P (calls_if t node part (if b then Err BadConfig else Ok call))) [
        | true ↦ tt
        | false ↦ makes_call P t node part call is
      ]
    ]

asks_more : (P : Action → Type 0) (t node : ℕ) (part : TaskPart) (waits : Option Action) → part.outstanding ≡ waits → WaitsFor P part → AsksOnceDone P (asks_again t node part waits)
asks_more P t node part None e is = keeps_waiting P part is
asks_more P t node part (Some call) e is = record { calls = one_asked P t node call (is call e); waits = is }

takes_one : (P : Action → Type 0) (t : ℕ) (part : TaskPart) (number : ℕ) (reply : Reply) → WaitsFor P part → AsksOnceDone P (takes_reply t part number reply)
takes_one P t part number reply is =
    let answer : Answer = record { task = t; number = number; reply = reply } in
    let after : TaskPart = record { outstanding = None; replies = part.replies ++ answer ∷ [] } in
    elim (takes part number) as (λ b. AsksOnceDone P (if b then record (goes_on_as after) { taken = Some answer } else goes_on_as part)) [
      | true ↦ record { calls = λ u k call h. absurd h; waits = λ call e. absurd cc }
      | false ↦ keeps_waiting P part is
    ]

hears_body : (P : Action → Type 0) (t : ℕ) (part : TaskPart) (body : Body) → WaitsFor P part → AsksOnceDone P (task_hears t part body)
hears_body P t part (bodies.Reply number reply) is = takes_one P t part number reply is
hears_body P t part _ is = keeps_waiting P part is

task_asks : (P : Action → Type 0) (config : Config) (t : ℕ) (part : TaskPart) (input : TaskInput) → WaitsFor P part → TaskMay (TaskIs P) t input → AsksOnceDoneIf P (task_effect config t part input)
task_asks P config t part (tasks.Submit node object operation arg) is comes =
    submits P config t node part (next_call t part object operation arg) part.outstanding (comes (suc (length part.replies)))
task_asks P config t part (tasks.Again node) is comes =
    elim (nat_lt config.nodes node) as (λ b. AsksOnceDoneIf P (if b then Err BadConfig else Ok (asks_again t node part part.outstanding))) [
      | true ↦ tt
      | false ↦ asks_more P t node part part.outstanding refl is
    ]
task_asks P config t part (tasks.Take message) is comes = hears_body P t part message.body is

-- ---- worlds

-- It holds of all that was offered, of what each node knows, of each call that was sent and of what each task waits for.
pub record HoldsInWorld (P : Action → Type 0) (nodes : ℕ) (w : World) : Type 0 where
  pub sound : IsSoundWorld nodes w
  pub offers : OffersAre P w.sent
  pub runs : (part : NodePart) → Has part w.nodes → IfSome part.running (HoldsWhile P)
  pub calls : CallsAre P w.sent
  pub waits : (part : TaskPart) → Has part w.tasks → WaitsFor P part

-- packets of a node are no calls
both_asked : (P : Action → Type 0) (sent packets : List Message) → CallsAre P sent → CallsAre P packets → CallsAre P (sent ++ packets)
both_asked P sent packets old new t k call h = elim (has_split (asks t k call) sent packets h) [ inl before ↦ old t k call before | inr following ↦ new t k call following ]

both_call : (P : Action → Type 0) (me : ℕ) (sent packets : List Message) → CallsAre P sent → ((m : Message) → Has m packets → m.from ≡ Node me) → CallsAre P (sent ++ packets)
both_call P me sent packets old own t k call h =
    elim (has_split (asks t k call) sent packets h) [
      | inl before ↦ old t k call before
      | inr following ↦ (let from : Task t ≡ Node me = own (asks t k call) following in absurd cc)
    ]

node_holds : (P : Action → Type 0) (nodes : ℕ) (w : World) (me : ℕ) (done : Done NodePart) → HoldsInWorld P nodes w → IsSoundWorld nodes (node_done w me done).world
    → ((m : Message) → Has m done.sends → m.from ≡ Node me) → HoldsOnceDone P done → HoldsInWorld P nodes (node_done w me done).world
node_holds P nodes w me done all sound own is = record {
  sound = sound;
  calls = both_call P me w.sent done.sends all.calls own;
  waits = all.waits;
  offers = both_offer P w.sent done.sends all.offers is.offers;
  runs = λ part h. elim (part_or_new w.nodes me done.part part h) [
    | inl old ↦ all.runs part old
    | inr new ↦ subst (λ (p : NodePart). IfSome p.running (HoldsWhile P)) (sym new) is.running
  ];
}

opening_holds : (P : Action → Type 0) (nodes : ℕ) → IsSoundWorld nodes (opening_world nodes) → HoldsInWorld P nodes (opening_world nodes)
opening_holds P nodes sound = record {
  sound = sound;
  calls = λ t k call h. absurd h;
  waits = λ part h. subst (WaitsFor P) (sym (same_everywhere 8 fresh_task part h)) (λ call e. absurd cc);
  offers = no_offers P;
  runs = λ part h. subst (λ (p : NodePart). IfSome p.running (HoldsWhile P)) (sym (same_everywhere nodes fresh_node part h)) (fresh_holds P);
}

module _ {S : Type 0} (s : Setting S) (right : IsRightConfig s.config) (happened : List Event) where
  -- an action that comes was asked for or noted by one of the events
  abbrev Noted : Action → Type 0
  Noted action = IsNoted happened action

  knows : (w : World) (me : ℕ) (part : NodePart) (running : Running) → IsSoundWorld s.config.nodes w → part_at w.nodes me ≡ Some part → part.running ≡ Some running
      → IsRunning w.sent part.records running
  knows w me part running sound here is =
      let same = node_here w me part here in
      subst (λ (p : NodePart). IsRunning w.sent p.records running) same (sound.sound.runs me running (ap (λ (p : NodePart). p.running) same ∙ is))

  input_while : (w : World) (me : ℕ) (part : NodePart) (input : NodeInput) (running : Option Running) → HoldsInWorld Noted s.config.nodes w → part_at w.nodes me ≡ Some part
      → IsInput w.sent input → InputIs Noted input → part.running ≡ running → HoldsOnceDoneIf Noted (effect_while s me part input running)
  input_while w me part input None all here given comes is = tt
  input_while w me part input (Some running) all here given comes is =
      turned Noted part (running_effect s me part.records running input)
      (holds_in_turn Noted s tt (node_in w.nodes) w.sent all.sound.sound all.offers all.calls me part.records running input given comes
      (knows w me part running all.sound here is) (runs_if Noted part.running running is (all.runs part (part_has w.nodes me part here))))

  asked_once : (config : Config) (t : ℕ) (part : TaskPart) (input : TaskInput) (done : Done TaskPart) → WaitsFor Noted part → TaskMay (TaskIs Noted) t input → task_effect config t part input ≡ Ok done
      → AsksOnceDone Noted done
  asked_once config t part input done is comes resulted = subst (AsksOnceDoneIf Noted) resulted (task_asks Noted config t part input is comes)

  noted_kept : IsKeptByAll s (InputIs Noted) (TaskIs Noted) (HoldsInWorld Noted s.config.nodes)
  noted_kept =
      let sound = sound_kept s right in
      record {
        input = λ w me part input done all here given comes resulted. node_holds Noted s.config.nodes w me done all (sound.input w me part input done all.sound here given tt resulted)
            (input_done s right w me part all.sound.size all.sound.sound here input done given resulted).step.from (result_holds Noted (node_effect s me part input) done (input_while w me part input part.running all here given comes refl) resulted);
        cut = λ w me kept part input done all here given resulted. node_holds Noted s.config.nodes w me done all (sound.cut w me kept part input done all.sound here given resulted)
            (cut_done s right w me part all.sound.size all.sound.sound here kept input done given resulted).step.from (result_holds Noted (cut_effect s me part input kept) done (cut_done_holds Noted kept part (node_effect s me part input)) resulted);
        stop = λ w me part done all here resulted. node_holds Noted s.config.nodes w me done all (sound.stop w me part done all.sound here resulted)
            (stop_done s right w me part all.sound.size all.sound.sound here done resulted).step.from (result_holds Noted (stop_effect part) done (stops_hold Noted part part.running) resulted);
        restart = λ w me part all here. node_holds Noted s.config.nodes w me (restart_part part) all (sound.restart w me part all.sound here)
            (restart_done s right w me part all.sound.size all.sound.sound here).step.from (restarted Noted part part.running (all.runs part (part_has w.nodes me part here)));
        torn = λ w me kept part all here. record {
          sound = sound.torn w me kept part all.sound here;
          offers = all.offers;
          calls = all.calls;
          waits = all.waits;
          runs = λ other h. elim (part_or_new w.nodes me (untorn_part kept part) other h) [
            | inl old ↦ all.runs other old
            | inr new ↦ subst (λ (p : NodePart). IfSome p.running (HoldsWhile Noted)) (sym new) (all.runs part (part_has w.nodes me part here))
          ];
        };
        task = λ w t part input done all here given comes resulted. let asked = asked_once s.config t part input done (all.waits part (part_has w.tasks t part here)) comes resulted in record {
          sound = sound.task w t part input done all.sound here given (any_asked t input) resulted;
          calls = both_asked Noted w.sent done.sends all.calls asked.calls;
          waits = λ other h. elim (part_or_new w.tasks t done.part other h) [
            | inl old ↦ all.waits other old
            | inr new ↦ subst (WaitsFor Noted) (sym new) asked.waits
          ];
          offers = both_offer Noted w.sent done.sends all.offers
              (task_offers Noted t done.sends (if_task_done t (task_effect s.config t part input) done (task_sound s.config w.sent t part input (all.sound.waits t part here) given) resulted).calls);
          runs = all.runs;
        };
      }

  -- ---- histories

  step_noted : (step : Step) → Has (Makes step) happened → StepMay (InputIs Noted) step
  step_noted (Deliver number) h = λ message. tt
  step_noted (Lead me choice) h = tt
  step_noted (LeadRange me first count) h = tt
  step_noted (Interrupt me source occurrence) h = (me, h)
  step_noted (Tick me now) h = (me, h)
  step_noted (Report me first) h = tt
  step_noted (Ask me to) h = tt

  event_noted : (event : Event) → Has event happened → EventMay (InputIs Noted) (TaskIs Noted) event
  event_noted (Submit t node object operation arg) h = λ number. (node, h)
  event_noted (Again t node) h = tt
  event_noted (Makes step) h = step_noted step h
  event_noted (Cut step kept) h = tt
  event_noted (Stop me) h = tt
  event_noted (Restart me) h = tt

-- in the world that a history leads to each action that is decided was asked for or noted by an event of it
pub decided_noted : {S : Type 0} (s : Setting S) → IsSoundWorld s.config.nodes (opening_world s.config.nodes) → (happened : List Event) (w : World) → IsHistory s happened w
    → (i : ℕ) (v : Action) → IsDecided s.config.nodes w.sent i v → IsNoted happened v
decided_noted s opening happened w history i v decided =
    let P = Noted s history.config happened in
    let all : HoldsInWorld P s.config.nodes w = history_keeps s (InputIs P) (TaskIs P) (HoldsInWorld P s.config.nodes) (noted_kept s history.config happened) (opening_world s.config.nodes) happened w
    (opening_holds P s.config.nodes opening) history.right (event_noted s history.config happened) history.happened in
    all.offers i decided.ballot v (cast_offered all.sound.sound i decided.ballot v (decided_cast all.sound.sound i v decided))
