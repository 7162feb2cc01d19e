-- Moves of callers, each by what it needs.
use Rattle.std.proofs.Common.{cond, ◌≡◌, ℕ, ◌<◌, ◌≤◌, ℤ, Bool, true, false, Option, Some, None, Result, Ok, List, [], ◌∷◌, ◌++◌, length, take, drop, inl, inr, refl, sym, ap, subst, ◌∙◌, IsSome, arith}
use Rattle.std.specs.Prelude.{nat_lt, nat_le}
use Rattle.std.specs.List.{AllByRecursion, list_all}
use Rattle.std.proofs.lemmas.Bool.{leb-true, ltb-true, and_parts}
use Rattle.rp_base.specs.Sets.{Has}
use Rattle.rp_requests.specs.rp_codec.specs.Message.{Message, IsPacket}
use Rattle.rp_base.specs.Calls.{next_call}
use Rattle.rp_base.specs.declared.action.Action.{Action}
use Rattle.rp_base.specs.declared.action.Operation.{Operation}
use Rattle.rp_base.specs.declared.reply.Reply.{Reply}
use Rattle.rp_requests.specs.rp_codec.proofs.Decoded.{whole_again}
use Rattle.rp_requests.specs.rp_codec.specs.Text.{text_of, reply_text}
use Rattle.rp_machine.specs.TallyRule.{tally_next, tally_answers, tally_image}
use Rattle.rp_requests.specs.rp_model.specs.Effect.{NodeInput}
use Rattle.rp_requests.specs.rp_model.specs.Effect as inputs
use Rattle.rp_requests.specs.rp_model.specs.Parts.{Turn, fresh_running}
use Rattle.rp_requests.specs.rp_model.specs.World.{part_at, with_part}
use Rattle.rp_requests.specs.rp_model.specs.declared.effect.Dropped.TheVariants.{No}
use Rattle.rp_world.specs.rp_outbox.specs.Packets.{texts_of}
use Rattle.rp_installations.specs.Pending.{noted_by}
use Rattle.rp_world.specs.rp_replica.specs.Inputs.{effect_if_given}
use Rattle.rp_requests.specs.Texts.{step_text, FitsStep, task_request_text, FitsTaskRequest}
use Rattle.rp_requests.specs.Buffers.{IsPutInFront}
use Rattle.rp_requests.specs.TaskRequests.{TaskAsked, MakeCall, TakePacket, task_asked_of}
use Rattle.rp_requests.specs.Tasks.{TaskAnswers, task_bytes, call_packet, reply_taken, once_taken, taken_text}
use Rattle.rp_requests.specs.rp_tasks.specs.Calls.{Calls, no_calls, refusal_of, with_call, with_reply}
use Rattle.rp_requests.specs.Nodes.{NodeState, RequestAnswers, GivenAnswers, after_step, is_at_end, stored_by, step_bytes}
use Rattle.rp_requests.specs.Timing.{comes_early, comes_late}
use Rattle.rp_requests.specs.declared.not_taken.NotTaken.TheVariants.{Nothing}
use Rattle.rp_installations.proofs.NodeAnswers.{none_left_out}
use Rattle.rp_requests.specs.Requests.{Asked, Step, asked_of}
use Rattle.rp_requests.specs.declared.buffer.Lengths.{Lengths}
use Rattle.rp_requests.specs.declared.refusal.Refusal.{Refusal}
use Rattle.rp_store.specs.Disk.{empty_disk}
use Rattle.rp_store.proofs.Whole.{are_alone}
use Rattle.rp_installations.specs.Moves.{AreBytes, IsPacketIn, WasHandedOn, node_receives_byte, AsksSite, AsksTask, IsThroughNode, task_receives_byte, answer_in, call_given, reply_given, HandsOn, noted_if, is_step_made, with_step, site_answered, OpensFrom, AnswersBy, AnsweredRequest}
use Rattle.rp_installations.specs.Moves as moves
use Rattle.rp_installations.specs.Sites.{StepPackets, NodeSite, TaskSite, closed_over}
use Rattle.rp_installations.specs.Breaches.{Callers, three_node_config, one_sum, MoveOr, Keeps, Breaches, GetsForgedPacket, HandsOnUnsynced, GetsOtherDevice}

-- ---- bytes

abbrev pub are_bytes : List ℕ → Bool
are_bytes bytes = list_all (λ b. nat_lt b 256) bytes

bytes_are : (bytes : List ℕ) → are_bytes bytes ≡ true → AreBytes bytes
bytes_are [] all byte none = absurd none
bytes_are (b ∷ rest) all byte (inl is) = subst (λ (n : ℕ). n < 256) (sym is) (ltb-true b 256 (and_parts (nat_lt b 256) (are_bytes rest) all).0)
bytes_are (b ∷ rest) all byte (inr later) = bytes_are rest (and_parts (nat_lt b 256) (are_bytes rest) all).1 byte later

-- the packet of an input was handed on
abbrev pub CameFrom : List (List ℕ) → NodeInput → Type 0
CameFrom packets (inputs.NodeInput.Receive message) = Has (text_of message) packets
CameFrom packets (inputs.NodeInput.Lead choice) = Unit {0}
CameFrom packets (inputs.NodeInput.LeadRange first count) = Unit {0}
CameFrom packets (inputs.NodeInput.Interrupt source occurrence) = Unit {0}
CameFrom packets (inputs.NodeInput.Tick now) = Unit {0}
CameFrom packets (inputs.NodeInput.Report first) = Unit {0}
CameFrom packets (inputs.NodeInput.Ask to) = Unit {0}

abbrev rest_of : List ℕ → List ℕ
rest_of [] = []
rest_of (b ∷ rest) = rest

rests : {b : ℕ} {p q : List ℕ} → b ∷ p ≡ b ∷ q → p ≡ q
rests is = ap rest_of is

abbrev first_of : List ℕ → ℕ
first_of [] = 0
first_of (b ∷ rest) = b

came : (packets : List (List ℕ)) (input : NodeInput) → CameFrom packets input → WasHandedOn packets node_receives_byte (step_text input)
came packets (inputs.NodeInput.Receive message) has packet is = subst (λ (p : List ℕ). Has p packets) (ap rest_of is) has
came packets (inputs.NodeInput.Lead None) none packet is = absurd (let e : 2 ≡ 1 = ap first_of is in omega (arith, e))
came packets (inputs.NodeInput.Lead (Some position)) none packet is = absurd (let e : 2 ≡ 1 = ap first_of is in omega (arith, e))
came packets (inputs.NodeInput.LeadRange first count) none packet is = absurd (let e : 6 ≡ 1 = ap first_of is in omega (arith, e))
came packets (inputs.NodeInput.Interrupt source occurrence) none packet is = absurd (let e : 3 ≡ 1 = ap first_of is in omega (arith, e))
came packets (inputs.NodeInput.Tick now) none packet is = absurd (let e : 4 ≡ 1 = ap first_of is in omega (arith, e))
came packets (inputs.NodeInput.Report first) none packet is = absurd (let e : 5 ≡ 1 = ap first_of is in omega (arith, e))
came packets (inputs.NodeInput.Ask to) none packet is = absurd (let e : 7 ≡ 1 = ap first_of is in omega (arith, e))

-- ---- nodes

-- a node that is opened over an empty device
abbrev pub fresh : ℕ → NodeState (List ℤ)
fresh me = record {
  replica = record {
    me = me;
    config = three_node_config;
    begin = one_sum;
    records = [];
    running = fresh_running;
    disk = record empty_disk { syncs = 1; reads = 1 };
    failed = false;
  };
  stored = [];
  packets = [];
  ends = [];
  not_taken = Nothing;
  had_early = false;
}

fresh_opens : (me : ℕ) → OpensFrom tally_next tally_answers tally_image three_node_config one_sum me [] (fresh me) 0 0
fresh_opens me = record {
  start = one_sum;
  alike = record { answer = record { kept = λ log. refl; given = λ log. refl }; shown = λ log. refl };
  opens = record {
    disk = empty_disk;
    holds = refl;
    cut_bytes = 0;
    opens = record {
      all = [];
      opened = record {
        found = ([], are_alone [] [] refl tt, refl);
        contents = refl;
        kept = are_alone [] [] refl tt;
        stable = refl;
        failures = refl;
        appends = refl;
        syncs = refl;
        reads = refl;
        cuts = refl;
      };
      starts = refl;
      counted = refl;
    };
    kept_is = refl;
    no_step = (refl, refl, refl, refl, refl);
  };
}

abbrev pub with_node : Callers → ℕ → NodeSite (List ℤ) → Callers
with_node i me site = record { nodes = with_part i.nodes me site; tasks = i.tasks; handed_on = i.handed_on ++ [] }

abbrev pub with_packet : Callers → List ℕ → Callers
with_packet i packet = record { nodes = i.nodes; tasks = i.tasks; handed_on = i.handed_on ++ packet ∷ [] }

abbrev pub handed : Callers → ℕ → NodeSite (List ℤ) → List ℕ → Callers
handed i me site packet = record { nodes = with_part i.nodes me site; tasks = i.tasks; handed_on = i.handed_on ++ packet ∷ [] }

abbrev pub on_device : Callers → ℕ → NodeSite (List ℤ) → NodeSite (List ℤ) → Callers
on_device i me site its = record { nodes = with_part i.nodes me (closed_over its.synced site.noted); tasks = i.tasks; handed_on = i.handed_on }

-- all that was given is appended and synced
abbrev pub appended_site : NodeSite (List ℤ) → NodeSite (List ℤ)
appended_site site = record {
  node = site.node;
  synced = site.synced;
  appended = site.appended ++ take (length site.given) site.given;
  given = drop (length site.given) site.given;
  step_packets = site.step_packets;
  noted = site.noted;
}

abbrev pub synced_site : NodeSite (List ℤ) → NodeSite (List ℤ)
synced_site site = record {
  node = site.node;
  synced = site.synced ++ site.appended;
  appended = [];
  given = site.given;
  step_packets = site.step_packets;
  noted = site.noted;
}

-- a node after it made a step
abbrev pub stepped : NodeState (List ℤ) → NodeInput → Turn → NodeState (List ℤ)
stepped node input turn = after_step node (comes_late tally_next tally_answers node.replica (Ok input)) turn

-- ---- moves

module _ (Breaks : Callers → Callers → Type 0) where
  pub opens : (i : Callers) (me : ℕ) (noted : List Action) → part_at i.nodes me ≡ Some (closed_over [] noted) → MoveOr Breaks i (with_node i me (record (closed_over [] noted) { node = Some (fresh me) }))
  opens i me noted here =
      let after : NodeSite (List ℤ) = record (closed_over [] noted) { node = Some (fresh me) } in
      Keeps (moves.Move.OfNode me (closed_over [] noted) after [] here (moves.NodeMove.Opened (record { closed = refl; node = fresh me; records = 0; kept = 0; opens = fresh_opens me; goes = refl }) refl) refl)

  module _ (buffer : List ℕ) (room : step_bytes ≤ length buffer) (reads : (input : NodeInput) → FitsStep input → asked_of (step_text input) ≡ Some (Step (Ok input))) where
    pub steps : (i : Callers) (me : ℕ) (site : NodeSite (List ℤ)) (node : NodeState (List ℤ)) (input : NodeInput) (turn : Turn) → part_at i.nodes me ≡ Some site → site.node ≡ Some node → FitsStep input → are_bytes (step_text input) ≡ true
        → CameFrom i.handed_on input → effect_if_given tally_next tally_answers node.replica (Ok input) ≡ Ok turn → comes_early tally_next tally_answers node.replica (Ok input) ≡ false
        → MoveOr Breaks i (with_node i me (with_step site (stepped node input turn) (noted_by input)))
    steps i me site node input turn here opened fits bytes has effect timely =
        let front = stored_by turn.written ++ texts_of turn.sent in
        let lengths : Lengths = record { stored = length (stored_by turn.written); used = length front } in
        let result : Result Lengths Refusal = Ok lengths in
        let exchange : AnsweredRequest = record { request = step_text input; before = buffer; after = front ++ drop (length front) buffer; result = result } in
        let read = reads input fits in
        let answer : RequestAnswers tally_next tally_answers tally_image (Some (Step (Ok input))) node (stepped node input turn) buffer exchange.after result =
        subst (λ (early : Bool). GivenAnswers early (effect_if_given tally_next tally_answers node.replica (Ok input)) (is_at_end node.replica (Ok input)) (comes_late tally_next tally_answers node.replica (Ok input)) node (stepped node input turn) buffer exchange.after result) (sym timely) (record { room = room; turn = turn; takes = effect; goes = refl; put = record { front = refl; stored_is = refl; used_is = refl } }) in
        let asks : AsksSite 3 (OpensFrom tally_next tally_answers tally_image three_node_config one_sum) (AnswersBy tally_next tally_answers tally_image) i.handed_on site (with_step site (stepped node input turn) (noted_by input)) = record {
          exchange = exchange;
          old = node;
          new = stepped node input turn;
          opened = opened;
          bytes = bytes_are (step_text input) bytes;
          arrived = came i.handed_on input has;
          answers = subst (λ (a : Option Asked). RequestAnswers tally_next tally_answers tally_image a node (stepped node input turn) buffer exchange.after result) (sym read) answer;
          goes = sym (ap (λ (a : Option Asked). site_answered site (stepped node input turn) (noted_if a) (is_step_made a result (stepped node input turn).not_taken)) read ∙ ap (site_answered site (stepped node input turn) (noted_by input)) (none_left_out (comes_late tally_next tally_answers node.replica (Ok input)) turn.dropped));
        } in
        Keeps (moves.Move.OfNode me site (with_step site (stepped node input turn) (noted_by input)) [] here (moves.NodeMove.Requested asks refl) refl)

  pub appends : (i : Callers) (me : ℕ) (site : NodeSite (List ℤ)) → part_at i.nodes me ≡ Some site → IsSome site.node → MoveOr Breaks i (with_node i me (appended_site site))
  appends i me site here opened = Keeps (moves.Move.OfNode me site (appended_site site) [] here (moves.NodeMove.Appended (record { opened = opened; count = length site.given; goes = refl }) refl) refl)

  pub syncs : (i : Callers) (me : ℕ) (site : NodeSite (List ℤ)) → part_at i.nodes me ≡ Some site → IsSome site.node → MoveOr Breaks i (with_node i me (synced_site site))
  syncs i me site here opened = Keeps (moves.Move.OfNode me site (synced_site site) [] here (moves.NodeMove.Synced (record { opened = opened; goes = refl }) refl) refl)

  pub hands : (i : Callers) (me : ℕ) (site : NodeSite (List ℤ)) (step : StepPackets) (messages : List Message) (m : Message) → part_at i.nodes me ≡ Some site → Has step site.step_packets → nat_le step.end (length site.synced) ≡ true
      → step.texts ≡ texts_of messages → AllByRecursion IsPacket messages → Has m messages → MoveOr Breaks i (handed i me site (text_of m))
  hands i me site step messages m here made synced texts each one =
      let packet : IsPacketIn (text_of m) step.texts = record { messages = messages; each = each; texts = texts; message = m; one = one; text = refl } in
      let h : HandsOn site (text_of m) = record { step = step; made = made; synced = leb-true step.end (length site.synced) synced; one = packet } in
      Keeps (moves.Move.OfNode me site site (text_of m ∷ []) here (moves.NodeMove.HandedOn (text_of m) h refl refl) refl)

  pub closes : (i : Callers) (me : ℕ) (site : NodeSite (List ℤ)) → part_at i.nodes me ≡ Some site → IsSome site.node → MoveOr Breaks i (with_node i me (closed_over (site.synced ++ []) site.noted))
  closes i me site here opened = Keeps (moves.Move.OfNode me site (closed_over (site.synced ++ []) site.noted) [] here (moves.NodeMove.Closed (record { opened = opened; kept = 0; goes = refl }) refl) refl)

-- ---- tasks

front_of : (front rest : List ℕ) → take (length front) (front ++ rest) ≡ front
front_of [] rest = refl
front_of (x ∷ front) rest = ap (λ (l : List ℕ). x ∷ l) (front_of front rest)

abbrev pub with_task : Callers → ℕ → TaskSite → List (List ℕ) → Callers
with_task i t site given = record { nodes = i.nodes; tasks = with_part i.tasks t site; handed_on = i.handed_on ++ given }

-- the answer that has a text
abbrev answered : List ℕ → List ℕ → List ℕ → AnsweredRequest
answered request text buffer = record {
  request = request;
  before = buffer;
  after = text ++ drop (length text) buffer;
  result = Ok (record { stored = 0; used = length text });
}

answer_is : (request text buffer : List ℕ) → nat_lt 0 (length text) ≡ true → answer_in (answered request text buffer) (answered request text buffer).result ≡ text ∷ []
answer_is request text buffer some =
    ap (λ (b : Bool). cond {A = List (List ℕ)} b (take (length text) (text ++ drop (length text) buffer) ∷ []) []) some
    ∙ ap (λ (l : List ℕ). l ∷ []) (front_of text (drop (length text) buffer))

-- a request that brings no packet
no_arrival : (packets : List (List ℕ)) (kind : ℕ) (operands : List ℕ) → ¬ (kind ≡ 3) → WasHandedOn packets task_receives_byte (kind ∷ operands)
no_arrival packets kind operands other packet is = absurd (other (ap first_of is))

module _ (Breaks : Callers → Callers → Type 0) where
  pub opens_task : (i : Callers) (t : ℕ) (site : TaskSite) → part_at i.tasks t ≡ Some site → site.task ≡ None → MoveOr Breaks i (with_task i t (record site { task = Some (no_calls t) }) [])
  opens_task i t site here once = Keeps (moves.Move.OfTask t site (record site { task = Some (no_calls t) }) [] here (moves.TaskMove.Opened (record { once = once; goes = refl }) refl) refl)

  module _ (buffer : List ℕ) (room : step_bytes ≤ length buffer) (reads : (request : TaskAsked) → FitsTaskRequest request → task_asked_of (task_request_text request) ≡ Some request) where
    room_for : task_bytes ≤ length buffer
    room_for = omega (arith, room)

    pub calls : (i : Callers) (t : ℕ) (site : TaskSite) (old : Calls) (node object : ℕ) (operation : Operation) (arg : ℤ) → part_at i.tasks t ≡ Some site → site.task ≡ Some old → FitsTaskRequest (MakeCall node object operation arg)
        → are_bytes (task_request_text (MakeCall node object operation arg)) ≡ true → node ≤ 3 → refusal_of old ≡ None
        → nat_lt 0 (length (text_of (call_packet old.task node (next_call old.task old.made object operation arg)))) ≡ true
        → MoveOr Breaks i (with_task i t (record { task = Some (with_call old (next_call old.task old.made object operation arg)); replies = site.replies ++ [] }) (text_of (call_packet old.task node (next_call old.task old.made object operation arg)) ∷ []))
    calls i t site old node object operation arg here opened fits bytes through free some =
        let call = next_call old.task old.made object operation arg in
        let text = text_of (call_packet old.task node call) in
        let request = task_request_text (MakeCall node object operation arg) in
        let exchange = answered request text buffer in
        let new = with_call old call in
        let changed : TaskSite = record { task = Some new; replies = site.replies ++ [] } in
        let read = reads (MakeCall node object operation arg) fits in
        let answer : TaskAnswers (Some (MakeCall node object operation arg)) old new buffer exchange.after exchange.result =
        inr (room_for, record { may = free; goes = refl; put = record { front = refl; stored_is = refl; used_is = refl } }) in
        let asks : AsksTask 3 i.handed_on site changed (text ∷ []) = record {
          exchange = exchange;
          old = old;
          new = new;
          opened = opened;
          bytes = bytes_are request bytes;
          arrived = no_arrival i.handed_on 1 (rest_of request) (λ is. omega (arith, is));
          through = subst (IsThroughNode 3) (sym read) through;
          answers = subst (λ (a : Option TaskAsked). TaskAnswers a old new buffer exchange.after exchange.result) (sym read) answer;
          goes = ap (λ (a : Option TaskAsked). (let s : TaskSite = record { task = Some new; replies = site.replies ++ reply_given exchange a } in s)) (sym read);
          gives = sym (ap (call_given exchange) read ∙ answer_is request text buffer some);
        } in
        Keeps (moves.Move.OfTask t site changed (text ∷ []) here (moves.TaskMove.Called asks) refl)

    pub takes : (i : Callers) (t : ℕ) (site : TaskSite) (old : Calls) (message : Message) (reply : Reply) → part_at i.tasks t ≡ Some site → site.task ≡ Some old → IsPacket message → are_bytes (task_request_text (TakePacket (text_of message))) ≡ true
        → Has (text_of message) i.handed_on → reply_taken old message ≡ Some reply → nat_lt 0 (length (reply_text reply)) ≡ true
        → MoveOr Breaks i (with_task i t (record { task = Some (with_reply old); replies = site.replies ++ reply_text reply ∷ [] }) [])
    takes i t site old message reply here opened packet bytes has taken some =
        let text = reply_text reply in
        let request = task_request_text (TakePacket (text_of message)) in
        let exchange = answered request text buffer in
        let new = with_reply old in
        let changed : TaskSite = record { task = Some new; replies = site.replies ++ text ∷ [] } in
        let read = reads (TakePacket (text_of message)) tt in
        let answer : TaskAnswers (Some (TakePacket (text_of message))) old new buffer exchange.after exchange.result =
        inr (
          room_for,
          record {
            packet = message;
            is = whole_again message packet;
            goes = ap (once_taken old) (sym taken);
            put = subst (λ (o : Option Reply). IsPutInFront [] (taken_text o) buffer exchange.after (record { stored = 0; used = length text })) (sym taken) (record { front = refl; stored_is = refl; used_is = refl });
          },
        ) in
        let asks : AsksTask 3 i.handed_on site changed [] = record {
          exchange = exchange;
          old = old;
          new = new;
          opened = opened;
          bytes = bytes_are request bytes;
          arrived = λ other is. subst (λ (p : List ℕ). Has p i.handed_on) (brought is) has;
          through = subst (IsThroughNode 3) (sym read) tt;
          answers = subst (λ (a : Option TaskAsked). TaskAnswers a old new buffer exchange.after exchange.result) (sym read) answer;
          goes = ap (λ (l : List (List ℕ)). (let s : TaskSite = record { task = Some new; replies = site.replies ++ l } in s)) (sym (answer_is request text buffer some) ∙ ap (reply_given exchange) (sym read));
          gives = ap (call_given exchange) (sym read);
        } in
        Keeps (moves.Move.OfTask t site changed [] here (moves.TaskMove.Called asks) refl)
      where
        brought : {p q : List ℕ} → 3 ∷ p ≡ 3 ∷ q → p ≡ q
        brought is = rests is

-- ---- moves that break a rule

-- a packet that nobody gave
pub forges : (i : Callers) (packet : List ℕ) → MoveOr GetsForgedPacket i (with_packet i packet)
forges i packet = Breaches (record { packet = packet; goes = refl })

-- a packet whose step is not synced
pub hands_early : (i : Callers) (me : ℕ) (site : NodeSite (List ℤ)) (step : StepPackets) (messages : List Message) (m : Message) → part_at i.nodes me ≡ Some site → Has step site.step_packets → step.texts ≡ texts_of messages
    → AllByRecursion IsPacket messages → Has m messages → MoveOr HandsOnUnsynced i (with_packet i (text_of m))
hands_early i me site step messages m here made texts each one =
    let packet : IsPacketIn (text_of m) step.texts = record { messages = messages; each = each; texts = texts; message = m; one = one; text = refl } in
    Breaches (record { me = me; site = site; here = here; step = step; made = made; packet = text_of m; one = packet; goes = refl })

-- another node's device
pub gets_device : (i : Callers) (me other : ℕ) (site its : NodeSite (List ℤ)) → part_at i.nodes me ≡ Some site → site.node ≡ None → part_at i.nodes other ≡ Some its → MoveOr GetsOtherDevice i (on_device i me site its)
gets_device i me other site its here closed there = Breaches (record { me = me; site = site; here = here; closed = closed; other = other; its = its; there = there; goes = refl })
