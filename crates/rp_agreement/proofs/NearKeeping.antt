-- In every history offers and votes are near the first unlearned position of the node that offered.
use Rattle.std.proofs.Common.{◌≡◌, ℕ, ◌+◌, Bool, true, false, if◌then◌else◌, Result, Ok, Err, Option, Some, None, List, [], ◌∷◌, ◌++◌, length, inl, inr, refl, sym, ap, subst, ◌∙◌, arith, append-nil}
use Rattle.std.specs.Prelude.{nat_le, nat_lt, unwrap_or}
use Rattle.std.proofs.lemmas.Bool.{cases_eq, lt-leb}
use Rattle.std.proofs.lemmas.List.{length-append}
use Rattle.rp_base.specs.declared.action.Action.{Action}
use Rattle.rp_base.specs.declared.fault.Fault.{Fault}
use Rattle.rp_base.specs.declared.config.Config.{Config}
use Rattle.rp_base.specs.declared.reply.Answer.{Answer}
use Rattle.rp_base.specs.declared.reply.Reply.{Reply}
use Rattle.rp_base.specs.declared.record.Rec.{Rec}
use Rattle.rp_base.specs.Records.{applied_of, first_unlearned}
use Rattle.rp_base.specs.Sets.{Has}
use Rattle.rp_base.proofs.Members.{has_split}
use Rattle.rp_codec.specs.Message.{Message}
use Rattle.rp_codec.specs.declared.packet.Party.{Party}
use Rattle.rp_codec.specs.declared.packet.Party.TheVariants.{Node}
use Rattle.rp_codec.specs.declared.packet.Body.{Body}
use Rattle.rp_codec.specs.declared.packet.Body.TheVariants as bodies
use Rattle.rp_model.specs.Parts.{Running, NodePart, TaskPart, Turn, fresh_node, with_record}
use Rattle.rp_model.specs.Texts.{written_for}
use Rattle.rp_base.specs.Number.{window}
use Rattle.rp_model.specs.Receiving.{sender_number}
use Rattle.rp_model.specs.Tasks.{TaskInput, Submit, Again, Take, asks, next_call, may_call, calls_if, asks_again, takes, takes_reply, task_hears, task_effect}
use Rattle.rp_model.specs.Effect.{Setting, Done, goes_on_as, NodeInput, Receive, running_effect, turn_done_if, effect_while, node_effect, stop_part, cut_part, stops_while, cut_if, restart_while, untorn_part}
use Rattle.rp_model.specs.Events.{Event}
use Rattle.rp_model.specs.World.{World, opening_world, part_at, with_part, node_done}
use Rattle.rp_model.proofs.AppliedGrowing.{applied_more}
use Rattle.rp_agreement.specs.History.{IsHistory}
use Rattle.rp_agreement.specs.Inputs.{IsInput}
use Rattle.rp_agreement.specs.Ranges.{AreVotesNear}
use Rattle.rp_agreement.proofs.EventWalk.{IsKeptByAll, any_input, any_task, any_event, history_keeps}
use Rattle.rp_agreement.proofs.LogKeeping.{same_everywhere}
use Rattle.rp_agreement.proofs.NearTurns.{IsNear, AreNear, SaysNear, MayVote, MayVoteFor, IsNearIf, turn_near}
use Rattle.rp_agreement.proofs.PartPlaces.{part_has, put_there, put_beside}

-- the position is near for a node
pub record IsNodeNear (w : World) (a i : ℕ) : Type 0 where
  pub part : NodePart
  pub here : part_at w.nodes a ≡ Some part
  pub near : IsNear part.records i

-- an offer is near for the node that sent it, and a vote for the node that it was sent to
abbrev SentNear : World → Party → Party → Body → Type 0
SentNear w from to (bodies.Accept i b v) = (a : ℕ) × (from ≡ Node a) × IsNodeNear w a i
SentNear w from to (bodies.Accepted i b v) = (a : ℕ) × (to ≡ Node a) × IsNodeNear w a i
SentNear w from to _ = Unit {0}

-- a packet that is neither
abbrev IsPlain : Body → Type 0
IsPlain (bodies.Accept i b v) = ⊥
IsPlain (bodies.Accepted i b v) = ⊥
IsPlain _ = Unit {0}

pub record IsNearWorld (w : World) : Type 0 where
  pub parts : (me : ℕ) (part : NodePart) (running : Running) → part_at w.nodes me ≡ Some part → part.running ≡ Some running → AreNear part.records running.proposals
  pub sent : (m : Message) → Has m w.sent → SentNear w m.from m.to m.body

near_more : (records more : List Rec) (i : ℕ) → IsNear records i → IsNear (records ++ more) i
near_more records more i near =
    let grown = applied_more records more in
    let long : length (applied_of (records ++ more)) ≡ length (applied_of records) + length grown.0 = ap length grown.1 ∙ length-append (applied_of records) grown.0 in
    omega (arith, near, long)

some_is : {A : Type 0} (x y : A) → Some x ≡ Some y → x ≡ y
some_is x y e = ap (λ (o : Option _). unwrap_or o x) e

-- what was sent is near as long as what is near for a node stays so
sent_still : (w next : World) → ((a i : ℕ) → IsNodeNear w a i → IsNodeNear next a i) → (from to : Party) (body : Body) → SentNear w from to body → SentNear next from to body
sent_still w next stays from to (bodies.Accept i b v) is = (is.0, is.1, stays is.0 i is.2)
sent_still w next stays from to (bodies.Accepted i b v) is = (is.0, is.1, stays is.0 i is.2)
sent_still w next stays from to _ is = tt

-- ---- from one world to the next

module _ (w : World) (me : ℕ) (part after : NodePart) (here : part_at w.nodes me ≡ Some part) (more : List Rec) (grown : after.records ≡ part.records ++ more) (sends : List Message) where
  abbrev next_world : World
  next_world = record { nodes = with_part w.nodes me after; tasks = w.tasks; sent = w.sent ++ sends }

  mine_near : (i : ℕ) → IsNear part.records i → IsNodeNear next_world me i
  mine_near i near = record {
    part = after;
    here = put_there w.nodes me part after here;
    near = subst (λ (rs : List Rec). IsNear rs i) (sym grown) (near_more part.records more i near);
  }

  node_stays : (a i : ℕ) → IsNodeNear w a i → IsNodeNear next_world a i
  node_stays a i is =
      elim (cases_eq a me) [
        | inl same ↦
            let one : is.part ≡ part = some_is is.part part (sym is.here ∙ ap (part_at w.nodes) same ∙ here) in
            subst (λ (k : ℕ). IsNodeNear next_world k i) (sym same) (mine_near i (subst (λ (p : NodePart). IsNear p.records i) one is.near))
        | inr other ↦ record { part = is.part; here = put_beside w.nodes me a after other ∙ is.here; near = is.near }
      ]

  newly_sent : (from to : Party) (body : Body) → SaysNear me part.records (IsNodeNear w) from to body → SentNear next_world from to body
  newly_sent from to (bodies.Accept i b v) is = (me, is.0, mine_near i is.1)
  newly_sent from to (bodies.Accepted i b v) is = (is.0, is.1, node_stays is.0 i is.2)
  newly_sent from to _ is = tt

  near_next : IsNearWorld w → ((running : Running) → after.running ≡ Some running → AreNear after.records running.proposals)
      → ((m : Message) → Has m sends → SaysNear me part.records (IsNodeNear w) m.from m.to m.body) → IsNearWorld next_world
  near_next all runs says = record {
    parts = λ a p running at is. elim (cases_eq a me) [
      | inl same ↦
          let one : after ≡ p = some_is after p (sym (put_there w.nodes me part after here) ∙ ap (part_at next_world.nodes) (sym same) ∙ at) in
          subst (λ (q : NodePart). AreNear q.records running.proposals) one (runs running (ap (λ (q : NodePart). q.running) one ∙ is))
      | inr other ↦ all.parts a p running (sym (put_beside w.nodes me a after other) ∙ at) is
    ];
    sent = λ m h. elim (has_split m w.sent sends h) [
      | inl old ↦ sent_still w next_world node_stays m.from m.to m.body (all.sent m old)
      | inr new ↦ newly_sent m.from m.to m.body (says m new)
    ];
  }

-- ---- a node's step

-- who offered may have a vote
may_vote : (w : World) (from to : Party) (body : Body) → SentNear w from to body → MayVote (IsNodeNear w) (sender_number from) body
may_vote w from to (bodies.Accept i b v) is = subst (λ (p : Party). IsNodeNear w (sender_number p) i) (sym is.1) is.2
may_vote w from to _ is = tt

may_vote_for : (w : World) (input : NodeInput) → IsNearWorld w → IsInput w.sent input → MayVoteFor (IsNodeNear w) input
may_vote_for w (Receive message) all is = may_vote w message.from message.to message.body (all.sent message is)
may_vote_for w _ all is = tt

written_more : (records : List Rec) (written : Option Rec) → (more : List Rec) × (with_record records written ≡ records ++ more)
written_more records None = ([], sym (append-nil records))
written_more records (Some rec) = (rec ∷ [], refl)

no_sends : (me : ℕ) (records : List Rec) (Votes : ℕ → ℕ → Type 0) (m : Message) → Has m [] → SaysNear me records Votes m.from m.to m.body
no_sends me records Votes m h = absurd h

ok_is : {A : Type 0} (x y : A) → (let r : Result A Fault = Ok x in r) ≡ Ok y → x ≡ y
ok_is x y e = cc

module _ (w : World) (me : ℕ) (part : NodePart) (all : IsNearWorld w) (here : part_at w.nodes me ≡ Some part) where
  -- a part that runs no more, or not yet
  rests : (after : NodePart) (more : List Rec) → after.records ≡ part.records ++ more → ((running : Running) → after.running ≡ Some running → (p : _) → Has p running.proposals → ⊥)
      → IsNearWorld (record { nodes = with_part w.nodes me after; tasks = w.tasks; sent = w.sent ++ [] })
  rests after more grown none = near_next w me part after here more grown [] all (λ running is p h. absurd (none running is p h)) (no_sends me part.records (IsNodeNear w))

  turned_near : (running : Running) (turn : Result Turn Fault) (done : Done NodePart) → IsNearIf me part.records (IsNodeNear w) turn → turn_done_if part turn ≡ Ok done → IsNearWorld (node_done w me done).world
  turned_near running (Err fault) done near resulted = absurd (cc)
  turned_near running (Ok turn) done near resulted =
      let more = written_more part.records turn.written in
      let after : NodePart = record part { records = with_record part.records turn.written; running = Some turn.running } in
      subst (λ (d : Done NodePart). IsNearWorld (node_done w me d).world) (ok_is _ done resulted)
      (near_next w me part after here more.0 more.1 turn.sent all
      (λ running is p h.
      let known : turn.running ≡ running = some_is turn.running running is in
      subst (λ (rs : List Rec). IsNear rs p.position) (sym more.1)
      (near_more part.records more.0 p.position (near.proposals p (subst (λ (r : Running). Has p r.proposals) (sym known) h))))
      near.sent)

  cut_near : (kept : ℕ) (written : Option Rec) → IsNearWorld (record { nodes = with_part w.nodes me (cut_part kept part written); tasks = w.tasks; sent = w.sent ++ [] })
  cut_near kept None = rests (stop_part part) [] (sym (append-nil part.records)) (λ running is p h. absurd (cc))
  cut_near kept (Some rec) =
      let whole = stop_part (record part { records = part.records ++ rec ∷ [] }) in
      let torn = stop_part (record part { torn = kept }) in
      elim (nat_le (length (written_for rec)) kept) as (λ b. IsNearWorld (let left : NodePart = if b then whole else torn in record { nodes = with_part w.nodes me left; tasks = w.tasks; sent = w.sent ++ [] })) [
        | true ↦ rests whole (rec ∷ []) refl (λ running is p h. absurd (cc))
        | false ↦ rests torn [] (sym (append-nil part.records)) (λ running is p h. absurd (cc))
      ]

  cut_results : (kept : ℕ) (result : Result (Done NodePart) Fault) (done : Done NodePart) → cut_if kept part result ≡ Ok done → IsNearWorld (node_done w me done).world
  cut_results kept (Err fault) done resulted = absurd (cc)
  cut_results kept (Ok whole) done resulted = subst (λ (d : Done NodePart). IsNearWorld (node_done w me d).world) (ok_is _ done resulted) (cut_near kept whole.written)

  stop_results : (running : Option Running) (done : Done NodePart) → stops_while part running ≡ Ok done → IsNearWorld (node_done w me done).world
  stop_results None done resulted = absurd (cc)
  stop_results (Some running) done resulted =
      subst (λ (d : Done NodePart). IsNearWorld (node_done w me d).world) (ok_is _ done resulted) (rests (stop_part part) [] (sym (append-nil part.records)) (λ running is p h. absurd (cc)))

  runs_still : (running : Running) → part.running ≡ Some running → AreNear part.records running.proposals
  runs_still running is = all.parts me part running here is

  restarts : (running : Option Running) → IsNearWorld (node_done w me (restart_while part running)).world
  restarts None = rests _ [] (sym (append-nil part.records)) (λ running is p h. subst (λ (r : Running). Has p r.proposals) (sym (some_is _ running is)) h)
  restarts (Some running) = near_next w me part part here [] (sym (append-nil part.records)) [] all runs_still (no_sends me part.records (IsNodeNear w))

  same_sent : (after : NodePart) → IsNearWorld (record { nodes = with_part w.nodes me after; tasks = w.tasks; sent = w.sent ++ [] }) → IsNearWorld (record { nodes = with_part w.nodes me after; tasks = w.tasks; sent = w.sent })
  same_sent after is = subst (λ (ms : List Message). IsNearWorld (record { nodes = with_part w.nodes me after; tasks = w.tasks; sent = ms })) (append-nil w.sent) is

  module _ {S : Type 0} (s : Setting S) where
    input_results : (input : NodeInput) (running : Option Running) (done : Done NodePart) → IsInput w.sent input → part.running ≡ running → effect_while s me part input running ≡ Ok done
        → IsNearWorld (node_done w me done).world
    input_results input None done right is resulted = absurd (cc)
    input_results input (Some running) done right is resulted =
        turned_near running (running_effect s me part.records running input) done
        (turn_near s me part.records (IsNodeNear w) running input (runs_still running is) (may_vote_for w input all right)) resulted

-- ---- a task's step

module _ (w : World) (t : ℕ) (after : TaskPart) (sends : List Message) where
  abbrev later : World
  later = record { nodes = w.nodes; tasks = with_part w.tasks t after; sent = w.sent ++ sends }

  near_still : (a i : ℕ) → IsNodeNear w a i → IsNodeNear later a i
  near_still a i is = record { part = is.part; here = is.here; near = is.near }

  is_plain : (from to : Party) (body : Body) → IsPlain body → SentNear later from to body
  is_plain from to (bodies.Accept i b v) is = absurd is
  is_plain from to (bodies.Accepted i b v) is = absurd is
  is_plain from to _ is = tt

  task_sends : IsNearWorld w → ((m : Message) → Has m sends → IsPlain m.body) → IsNearWorld later
  task_sends all plain = record {
    parts = all.parts;
    sent = λ m h. elim (has_split m w.sent sends h) [
      | inl old ↦ sent_still w later near_still m.from m.to m.body (all.sent m old)
      | inr new ↦ is_plain m.from m.to m.body (plain m new)
    ];
  }

-- what a task sends is plain
abbrev SendsPlain : Done TaskPart → Type 0
SendsPlain done = (m : Message) → Has m done.sends → IsPlain m.body

abbrev SendsPlainIf : Result (Done TaskPart) Fault → Type 0
SendsPlainIf (Ok done) = SendsPlain done
SendsPlainIf (Err fault) = Unit {0}

one_call : (t node : ℕ) (call : Action) (m : Message) → Has m (asks t node call ∷ []) → IsPlain m.body
one_call t node call m h = elim h [ inl same ↦ subst (λ (k : Message). IsPlain k.body) (sym same) tt | inr none ↦ absurd none ]

called : (t node : ℕ) (part : TaskPart) (call : Result Action Fault) → SendsPlainIf (calls_if t node part call)
called t node part (Err fault) = tt
called t node part (Ok call) = one_call t node call

again : (t node : ℕ) (part : TaskPart) (waits : Option Action) → SendsPlain (asks_again t node part waits)
again t node part None = λ m h. absurd h
again t node part (Some call) = one_call t node call

taken : (t number : ℕ) (part : TaskPart) (reply : Reply) → SendsPlain (takes_reply t part number reply)
taken t number part reply =
    let answer : Answer = record { task = t; number = number; reply = reply } in
    elim (takes part number) as (λ b. SendsPlain (if b then record (goes_on_as (let after : TaskPart = record { outstanding = None; replies = part.replies ++ answer ∷ [] } in after)) { taken = Some answer } else goes_on_as part)) [
      | true ↦ λ m h. absurd h
      | false ↦ λ m h. absurd h
    ]

hears : (t : ℕ) (part : TaskPart) (body : Body) → SendsPlain (task_hears t part body)
hears t part (bodies.Reply number reply) = taken t number part reply
hears t part _ = λ m h. absurd h

plain_either : (b : Bool) (one other : Result (Done TaskPart) Fault) → SendsPlainIf one → SendsPlainIf other → SendsPlainIf (if b then one else other)
plain_either true one other left right = left
plain_either false one other left right = right

task_plain : (config : Config) (t : ℕ) (part : TaskPart) (input : TaskInput) → SendsPlainIf (task_effect config t part input)
task_plain config t part (Submit node object operation arg) = called t node part (may_call config node part (next_call t part object operation arg) part.outstanding)
task_plain config t part (Again node) = plain_either (nat_lt config.nodes node) _ _ tt (again t node part part.outstanding)
task_plain config t part (Take message) = hears t part message.body

-- ---- histories

pub near_kept : {S : Type 0} (s : Setting S) → IsKeptByAll s any_input any_task IsNearWorld
near_kept s = record {
  input = λ w me part input done all here right _ resulted. input_results w me part all here s input part.running done right refl resulted;
  cut = λ w me kept part input done all here right resulted. cut_results w me part all here kept (node_effect s me part input) done resulted;
  stop = λ w me part done all here resulted. stop_results w me part all here part.running done resulted;
  restart = λ w me part all here. restarts w me part all here part.running;
  torn = λ w me kept part all here.
      same_sent w me part all here (untorn_part kept part)
      (near_next w me part (untorn_part kept part) here [] (sym (append-nil part.records)) [] all (runs_still w me part all here) (no_sends me part.records (IsNodeNear w)));
  task = λ w t part input done all here right _ resulted. task_sends w t done.part done.sends all (subst SendsPlainIf resulted (task_plain s.config t part input));
}

opening_near : (nodes : ℕ) → IsNearWorld (opening_world nodes)
opening_near nodes = record {
  parts = λ me part running here is p h.
      let one : part ≡ fresh_node = same_everywhere nodes fresh_node part (part_has _ me part here) in
      let none : Has p [] = subst (λ (r : Running). Has p r.proposals) (sym (some_is _ running (sym (ap (λ (q : NodePart). q.running) one) ∙ is))) h in
      absurd none;
  sent = λ m h. absurd h;
}

pub votes_near : {S : Type 0} (s : Setting S) (events : List Event) (w : World) → IsHistory s events w → AreVotesNear w
votes_near s events w history from x i b v h part here =
    let all : IsNearWorld w = history_keeps s any_input any_task IsNearWorld (near_kept s) (opening_world s.config.nodes) events w (opening_near s.config.nodes) history.right (λ event _. any_event event) history.happened in
    let sent = all.sent (record { from = from; to = Node x; body = bodies.Accepted i b v }) h in
    let same : x ≡ sent.0 = cc in
    let one : sent.2.part ≡ part = some_is sent.2.part part (sym sent.2.here ∙ ap (part_at w.nodes) (sym same) ∙ here) in
    lt-leb (first_unlearned part.records + window) i (subst (λ (p : NodePart). IsNear p.records i) one sent.2.near)
