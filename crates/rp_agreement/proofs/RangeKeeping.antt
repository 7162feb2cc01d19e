-- Each event keeps a world's numbers within their ranges.
use Rattle.std.proofs.Common.{◌≡◌, ℕ, ◌≤◌, Bool, true, false, if◌then◌else◌, Result, Ok, Err, Option, Some, None, List, [], ◌∷◌, ◌++◌, length, inl, inr, refl, sym, ap, subst, ◌∙◌, arith}
use Rattle.std.specs.Prelude.{nat_le, nat_lt, IfSome}
use Rattle.rp_base.specs.declared.action.Action.{Action}
use Rattle.rp_base.specs.declared.action.Action.TheVariants as actions
use Rattle.rp_base.specs.declared.config.Config.{Config}
use Rattle.rp_base.specs.declared.fault.Fault.{Fault}
use Rattle.rp_base.specs.declared.record.Rec.{Rec}
use Rattle.rp_base.specs.declared.reply.Reply.{Reply}
use Rattle.rp_base.specs.Action.{IsRight}
use Rattle.rp_base.specs.Config.{IsRightConfig}
use Rattle.rp_base.specs.Number.{IsNode, IsTask}
use Rattle.rp_base.specs.Sets.{Has}
use Rattle.rp_codec.specs.Message.{Message, IsPacket, IsCallBy}
use Rattle.rp_codec.specs.Record.{IsRecord}
use Rattle.rp_codec.specs.declared.packet.Party.{Party}
use Rattle.rp_codec.specs.declared.packet.Party.TheVariants.{Node, Task}
use Rattle.rp_codec.specs.declared.packet.Body.{Body}
use Rattle.rp_codec.specs.declared.packet.Body.TheVariants as bodies
use Rattle.rp_model.specs.Parts.{Running}
use Rattle.rp_model.specs.Parts.{NodePart}
use Rattle.rp_model.specs.Parts.{TaskPart}
use Rattle.rp_model.specs.Parts.{Turn}
use Rattle.rp_model.specs.Parts.{fresh_running, fresh_node}
use Rattle.rp_model.specs.Texts.{written_for}
use Rattle.rp_model.specs.Effect.{Setting, Done, NodeInput, running_effect, turn_done_if, effect_while, node_effect, goes_on_as, stop_part, cut_part, untorn_part, stops_while, stop_effect, cut_if, cut_effect, restart_while, restart_part}
use Rattle.rp_model.specs.Tasks as tasks
use Rattle.rp_model.specs.Tasks.{TaskInput, may_call, next_call, calls_if, asks_again, takes, takes_reply, task_hears, task_effect}
use Rattle.rp_model.specs.World.{World, opening_world, part_at, node_done, task_done}
use Rattle.rp_agreement.specs.Answered.{answers_of}
use Rattle.rp_agreement.specs.Inputs.{IsInput, IsTaskInput, WaitsForOwn}
use Rattle.rp_agreement.specs.Sound.{IsCall}
use Rattle.rp_agreement.specs.Ranges.{IsRangedRunning, IsRangedPart, IsRangedWorld}
use Rattle.rp_agreement.specs.Worlds.{IsSoundWorld}
use Rattle.rp_agreement.proofs.EventWalk.{IsKeptByAll, any_input, any_task}
use Rattle.rp_agreement.proofs.PartPlaces.{part_has, part_below, put_length}
use Rattle.rp_agreement.proofs.LogKeeping.{part_or_new, same_everywhere}
use Rattle.rp_agreement.proofs.RangedParts.{AreRecords, written_ranged}
use Rattle.rp_agreement.proofs.RangedTurns.{ArePackets, AreReplies, no_packets, both_packets}
use Rattle.rp_agreement.proofs.RangedNodes.{AllRight, IsRangedIf, turn_ranged}
use Rattle.rp_agreement.proofs.TaskEffects.{IsTaskDone, task_sound, if_task_done}
use Rattle.rp_agreement.proofs.WorldKeeping.{each_task, untorn_world}

-- ---- a node's step

-- the part after and the packets are in range
abbrev pub IsRangedDone : Done NodePart → Type 0
IsRangedDone done = IsRangedPart done.part × ArePackets done.sends

abbrev IsRangedDoneIf : Result (Done NodePart) Fault → Type 0
IsRangedDoneIf (Ok done) = IsRangedDone done
IsRangedDoneIf (Err fault) = Unit {0}

turned_ranged : (part : NodePart) (turn : Result Turn Fault) → AreRecords part.records → IsRangedIf turn → IsRangedDoneIf (turn_done_if part turn)
turned_ranged part (Ok turn) all is = (record { records = written_ranged part.records turn.written all is.written; running = is.running }, is.sent)
turned_ranged part (Err fault) all is = tt

stopped_ranged : (part : NodePart) → AreRecords part.records → IsRangedPart (stop_part part)
stopped_ranged part all = record { records = all; running = tt }

cut_ranged : (kept : ℕ) (part : NodePart) (written : Option Rec) → AreRecords part.records → IfSome written IsRecord → IsRangedPart (cut_part kept part written)
cut_ranged kept part None all one = stopped_ranged part all
cut_ranged kept part (Some rec) all one =
    let whole = stop_part (record part { records = part.records ++ rec ∷ [] }) in
    let torn = stop_part (record part { torn = kept }) in
    elim (nat_le (length (written_for rec)) kept) as (λ b. let left : NodePart = if b then whole else torn in IsRangedPart left) [
      | true ↦ stopped_ranged (record part { records = part.records ++ rec ∷ [] }) (written_ranged part.records (Some rec) all one)
      | false ↦ stopped_ranged (record part { torn = kept }) all
    ]

turned_cut : (kept : ℕ) (part : NodePart) (turn : Result Turn Fault) → AreRecords part.records → IsRangedIf turn → IsRangedDoneIf (cut_if kept part (turn_done_if part turn))
turned_cut kept part (Ok turn) all is = (cut_ranged kept part turn.written all is.written, no_packets)
turned_cut kept part (Err fault) all is = tt

runs_if : (running : Option Running) (one : Running) → running ≡ Some one → IfSome running IsRangedRunning → IsRangedRunning one
runs_if None one is ranged = absurd (cc)
runs_if (Some other) one is ranged = subst (λ (o : Option Running). IfSome o IsRangedRunning) is ranged

stops_ranged : (part : NodePart) (running : Option Running) → IsRangedPart part → IsRangedDoneIf (stops_while part running)
stops_ranged part None is = tt
stops_ranged part (Some running) is = (stopped_ranged part is.records, no_packets)

fresh_ranged : IsRangedRunning fresh_running
fresh_ranged = record { proposals = λ p h. absurd h; pending = λ item h. absurd h }

restarted_ranged : (part : NodePart) (running : Option Running) → IsRangedPart part → IsRangedDone (restart_while part running)
restarted_ranged part None is = (record { records = is.records; running = fresh_ranged }, no_packets)
restarted_ranged part (Some running) is = (is, no_packets)

-- the result, if it was not refused
result_ranged : (result : Result (Done NodePart) Fault) (done : Done NodePart) → IsRangedDoneIf result → result ≡ Ok done → IsRangedDone done
result_ranged result done is resulted = subst IsRangedDoneIf resulted is

-- ---- a task's step

-- the packets go to nodes
abbrev AreForNodes : List Message → Type 0
AreForNodes packets = (m : Message) → Has m packets → (k : ℕ) × (m.to ≡ Node k) × IsNode k

abbrev AreForNodesIf : Result (Done TaskPart) Fault → Type 0
AreForNodesIf (Ok done) = AreForNodes done.sends
AreForNodesIf (Err fault) = Unit {0}

asked_nodes : (t node : ℕ) (call : Action) → IsNode node → AreForNodes (tasks.asks t node call ∷ [])
asked_nodes t node call is m h = elim h [ inl same ↦ (node, ap (λ (k : Message). k.to) same, is) | inr none ↦ absurd none ]

called_nodes : (t node : ℕ) (part : TaskPart) (call : Result Action Fault) → IsNode node → AreForNodesIf (calls_if t node part call)
called_nodes t node part (Ok call) is = asked_nodes t node call is
called_nodes t node part (Err fault) is = tt

again_nodes : (t node : ℕ) (part : TaskPart) (waiting : Option Action) → IsNode node → AreForNodes (asks_again t node part waiting).sends
again_nodes t node part None is = λ m h. absurd h
again_nodes t node part (Some call) is = asked_nodes t node call is

nodes_if : (test : Bool) (fault : Fault) (done : Done TaskPart) → AreForNodes done.sends → AreForNodesIf (if test then Err fault else Ok done)
nodes_if true fault done are = tt
nodes_if false fault done are = are

either_nodes : (test : Bool) (one other : Done TaskPart) → AreForNodes one.sends → AreForNodes other.sends → (let done : Done TaskPart = if test then one else other in AreForNodes done.sends)
either_nodes true one other left right = left
either_nodes false one other left right = right

reply_nodes : (t : ℕ) (part : TaskPart) (number : ℕ) (reply : Reply) → AreForNodes (takes_reply t part number reply).sends
reply_nodes t part number reply = either_nodes (takes part number) _ (goes_on_as part) (λ m h. absurd h) (λ m h. absurd h)

heard_nodes : (t : ℕ) (part : TaskPart) (body : Body) → AreForNodes (task_hears t part body).sends
heard_nodes t part (bodies.Reply number reply) m h = reply_nodes t part number reply m h
heard_nodes t part _ m h = absurd h

pub input_nodes : (config : Config) (sent : List Message) (t : ℕ) (part : TaskPart) (input : TaskInput) → IsTaskInput sent t input → AreForNodesIf (task_effect config t part input)
input_nodes config sent t part (tasks.Submit node object operation arg) is =
    called_nodes t node part (may_call config node part (next_call t part object operation arg) part.outstanding) is.0
input_nodes config sent t part (tasks.Again node) is =
    nodes_if (nat_lt config.nodes node) _ (asks_again t node part part.outstanding) (again_nodes t node part part.outstanding is)
input_nodes config sent t part (tasks.Take message) is = heard_nodes t part message.body

call_task : (t : ℕ) (action : Action) → IsCallBy t action → IsRight action → IsTask t
call_task t actions.Noop by right = absurd by
call_task t (actions.Call task number object operation arg) by right = subst IsTask by right.0
call_task t (actions.Interrupt source occurrence) by right = absurd by
call_task t (actions.Tick now) by right = absurd by

called_packet : (t k : ℕ) (body : Body) → IsCall t body → IsNode k → IsPacket (record { from = Task t; to = Node k; body = body })
called_packet t k (bodies.Call action) is theirs = record {
  ranges = record { from = call_task t action is.0 is.1; to = theirs; body = tt };
  rules = (tt, tt, is.0, is.1);
}
called_packet t k _ is theirs = absurd is

by_parties : (t k : ℕ) (from to : Party) (body : Body) → from ≡ Task t → to ≡ Node k → IsCall t body → IsNode k → IsPacket (record { from = from; to = to; body = body })
by_parties t k from to body sender receiver is theirs =
    subst (λ (party : Party). IsPacket (record { from = party; to = to; body = body })) (sym sender)
    (subst (λ (party : Party). IsPacket (record { from = Task t; to = party; body = body })) (sym receiver) (called_packet t k body is theirs))

pub task_packets : (t : ℕ) (done : Done TaskPart) → IsTaskDone t done → AreForNodes done.sends → ArePackets done.sends
task_packets t done is are m h =
    let receiver = are m h in
    by_parties t receiver.0 m.from m.to m.body (is.calls m h).0 receiver.1 (is.calls m h).1 receiver.2

-- ---- worlds

node_ranged : (nodes : ℕ) (w : World) (me : ℕ) (done : Done NodePart) → IsRangedWorld nodes w → IsRangedDone done → IsRangedWorld nodes (node_done w me done).world
node_ranged nodes w me done all is = record {
  size = put_length w.nodes me done.part ∙ all.size;
  parts = λ part h. elim (part_or_new w.nodes me done.part part h) [ inl old ↦ all.parts part old | inr new ↦ subst IsRangedPart (sym new) is.0 ];
  waits = all.waits;
  packets = both_packets w.sent done.sends all.packets is.1;
}

task_ranged : (nodes : ℕ) (w : World) (t : ℕ) (part : TaskPart) (done : Done TaskPart) → IsRangedWorld nodes w → part_at w.tasks t ≡ Some part → IsTaskDone t done
    → AreForNodes done.sends → IsRangedWorld nodes (task_done w t done).world
task_ranged nodes w t part done all here is are = record {
  size = all.size;
  parts = all.parts;
  waits = each_task WaitsForOwn w.tasks t part done.part here is.waits all.waits;
  packets = both_packets w.sent done.sends all.packets (task_packets t done is are);
}

pub for_nodes_if : (result : Result (Done TaskPart) Fault) (done : Done TaskPart) → AreForNodesIf result → result ≡ Ok done → AreForNodes done.sends
for_nodes_if result done are resulted = subst AreForNodesIf resulted are

module _ {S : Type 0} (s : Setting S) (right : IsRightConfig s.config) (fits : (actions : List Action) → AllRight actions → AreReplies (answers_of s actions)) where
  input_while : (me : ℕ) (part : NodePart) (sent : List Message) (input : NodeInput) (running : Option Running) → part.running ≡ running → IsNode me → IsRangedPart part → ArePackets sent
      → IsInput sent input → IsRangedDoneIf (effect_while s me part input running)
  input_while me part sent input None is mine ranged packets given = tt
  input_while me part sent input (Some running) is mine ranged packets given =
      turned_ranged part (running_effect s me part.records running input) ranged.records
      (turn_ranged s fits me part.records running sent input right mine ranged.records (runs_if part.running running is ranged.running) packets given)

  cut_while : (me kept : ℕ) (part : NodePart) (sent : List Message) (input : NodeInput) (running : Option Running) → part.running ≡ running → IsNode me → IsRangedPart part → ArePackets sent
      → IsInput sent input → IsRangedDoneIf (cut_if kept part (effect_while s me part input running))
  cut_while me kept part sent input None is mine ranged packets given = tt
  cut_while me kept part sent input (Some running) is mine ranged packets given =
      turned_cut kept part (running_effect s me part.records running input) ranged.records
      (turn_ranged s fits me part.records running sent input right mine ranged.records (runs_if part.running running is ranged.running) packets given)

  pub input_ranged : (me : ℕ) (part : NodePart) (sent : List Message) (input : NodeInput) (done : Done NodePart) → IsNode me → IsRangedPart part → ArePackets sent → IsInput sent input
      → node_effect s me part input ≡ Ok done → IsRangedDone done
  input_ranged me part sent input done mine ranged packets given resulted =
      result_ranged (node_effect s me part input) done (input_while me part sent input part.running refl mine ranged packets given) resulted

  pub cut_input_ranged : (me kept : ℕ) (part : NodePart) (sent : List Message) (input : NodeInput) (done : Done NodePart) → IsNode me → IsRangedPart part → ArePackets sent → IsInput sent input
      → cut_effect s me part input kept ≡ Ok done → IsRangedDone done
  cut_input_ranged me kept part sent input done mine ranged packets given resulted =
      result_ranged (cut_effect s me part input kept) done (cut_while me kept part sent input part.running refl mine ranged packets given) resulted

  member : (w : World) (me : ℕ) (part : NodePart) → IsRangedWorld s.config.nodes w → part_at w.nodes me ≡ Some part → IsNode me
  member w me part all here =
      let place = part_below w.nodes me part here in
      let size : length w.nodes ≡ s.config.nodes = all.size in
      let few : s.config.nodes ≤ 7 = right.nodes.1 in
      (place.0, omega (arith, place.1, size, few))

  pub ranges_kept : IsKeptByAll s any_input any_task (IsRangedWorld s.config.nodes)
  ranges_kept = record {
    input = λ w me part input done all here is _ resulted. node_ranged s.config.nodes w me done all
        (result_ranged (node_effect s me part input) done
        (input_while me part w.sent input part.running refl (member w me part all here) (all.parts part (part_has w.nodes me part here)) all.packets is) resulted);
    cut = λ w me kept part input done all here is resulted. node_ranged s.config.nodes w me done all
        (result_ranged (cut_effect s me part input kept) done
        (cut_while me kept part w.sent input part.running refl (member w me part all here) (all.parts part (part_has w.nodes me part here)) all.packets is) resulted);
    stop = λ w me part done all here resulted. node_ranged s.config.nodes w me done all
        (result_ranged (stop_effect part) done (stops_ranged part part.running (all.parts part (part_has w.nodes me part here))) resulted);
    restart = λ w me part all here. node_ranged s.config.nodes w me (restart_part part) all (restarted_ranged part part.running (all.parts part (part_has w.nodes me part here)));
    torn = λ w me kept part all here.
        let was = all.parts part (part_has w.nodes me part here) in
        untorn_world (IsRangedWorld s.config.nodes) w me kept part
        (node_ranged s.config.nodes w me (goes_on_as (untorn_part kept part)) all (record { records = was.records; running = was.running }, no_packets));
    task = λ w t part input done all here is _ resulted. task_ranged s.config.nodes w t part done all here
        (if_task_done t (task_effect s.config t part input) done (task_sound s.config w.sent t part input (all.waits t part here) is) resulted)
        (for_nodes_if (task_effect s.config t part input) done (input_nodes s.config w.sent t part input is) resulted);
  }

pub opening_ranged : (nodes : ℕ) → IsSoundWorld nodes (opening_world nodes) → IsRangedWorld nodes (opening_world nodes)
opening_ranged nodes sound = record {
  size = sound.size;
  parts = λ part h. subst IsRangedPart (sym (same_everywhere nodes fresh_node part h)) (record { records = λ rec none. absurd none; running = fresh_ranged });
  waits = sound.waits;
  packets = no_packets;
}
