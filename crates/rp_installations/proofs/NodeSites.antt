-- Each move of a node, over its part in a world.
use Rattle.std.proofs.Common.{Bool, ◌≡◌, ℕ, ◌+◌, ◌≤◌, Option, Some, None, Ok, List, [], ◌∷◌, ◌++◌, length, take, drop, inl, inr, refl, sym, ap, subst, ◌∙◌, append_assoc, length-append, arith}
use Rattle.std.specs.Prelude.{IsSome, unwrap_or}
use Rattle.std.proofs.lemmas.List.{append-nil, append_cancel_left}
use Rattle.rp_base.specs.Sets.{Has}
use Rattle.rp_base.proofs.Members.{has_split, has_left, has_right}
use Rattle.rp_base.specs.declared.record.Rec.{Rec}
use Rattle.rp_model.specs.rp_codec.specs.Message.{Message, IsPacket}
use Rattle.rp_model.specs.rp_codec.specs.Text.{text_of}
use Rattle.rp_world.specs.rp_store.specs.Records.{AreTextsOf, AreRecordsOf}
use Rattle.rp_world.specs.rp_store.proofs.Whole.{same_reading, alone}
use Rattle.rp_model.specs.Effect.{Setting, NodeInput, stops_while, stop_part, restart_part, goes_on_as, turn_done, node_effect}
use Rattle.rp_model.specs.Events.{Event, Stop, Restart}
use Rattle.rp_model.specs.Parts.{NodePart, Running, Turn, fresh_running, is_in_log, records_in_log}
use Rattle.rp_model.specs.World.{World, part_at, stops, restarts, node_done_if}
use Rattle.rp_agreement.specs.History.{IsHistory}
use Rattle.rp_agreement.specs.Order.{AllSent}
use Rattle.rp_agreement.specs.Ranges.{IsRangedWorld}
use Rattle.rp_agreement.proofs.LogKeeping.{history_in_log}
use Rattle.rp_agreement.proofs.PartPlaces.{part_has}
use Rattle.rp_world.specs.rp_outbox.specs.Packets.{texts_of}
use Rattle.rp_world.specs.rp_replica.specs.State.{ReplicaState, part_of}
use Rattle.rp_requests.specs.Nodes.{NodeState, after_step}
use Rattle.rp_installations.specs.Pending.{noted_by, noted_in, PendingStep, MayCome, AreSteps, after_steps, bytes_of, bytes_written}
use Rattle.rp_base.specs.declared.action.Action.{Action}
use Rattle.rp_installations.specs.Making.{AreAmong, GoesOnTo}
use Rattle.rp_installations.proofs.Stepping.{steps_stay, one_more, leads_on, stands_still, made, node_here, noted_append}
use Rattle.rp_installations.proofs.Stopping.{fronts, taken_front, texts_after, torn_after, stopped}
use Rattle.rp_installations.specs.Sites.{StepPackets, NodeSite}
use Rattle.rp_installations.specs.Moves.{IsPacketIn, all_given, with_step, Appends, Syncs, Closes, HandsOn, OpensSite, OpensFrom, AnswersBy}
use Rattle.rp_installations.specs.Starts.{AnswerAlike}
use Rattle.rp_installations.specs.Behind.{AreTextsSent, IsSetUp, IsOpenOver, IsClosedOver, IsNodeOver, IsOpen, IsClosed, packets_of}
use Rattle.rp_installations.proofs.Pieces.{steps_more, after_append, bytes_append, packets_append, found_step, packets_sent, sent_later, same_messages, each_packet, taken_drop, all_pass}

-- ---- a site over its part, whatever others send

pub over_later : {S : Type 0} (s : Setting S) (sent later : List Message) (me : ℕ) (part : NodePart) (site : NodeSite S) → AllSent sent later → IsNodeOver s sent me part site → IsNodeOver s later me part site
over_later s sent later me part site all (IsClosed c) = IsClosed c
over_later s sent later me part site all (IsOpen o) = IsOpen (record {
  node = o.node;
  kept = o.kept;
  set_up = o.set_up;
  untorn = o.untorn;
  bytes = o.bytes;
  records = o.records;
  rest = o.rest;
  synced = o.synced;
  steps = o.steps;
  made = steps_stay s sent later me part o.steps all o.made;
  reached = o.reached;
  given = o.given;
  settled = o.settled;
  packets = o.packets;
  are_sent = λ p has. sent_later sent later p.texts all (o.are_sent p has);
  noted = o.noted;
})

-- an open site
pub open_over : {S : Type 0} (s : Setting S) (sent : List Message) (me : ℕ) (part : NodePart) (site : NodeSite S) → IsSome site.node → IsNodeOver s sent me part site → IsOpenOver s sent me part site
open_over s sent me part site opened (IsOpen o) = o
open_over s sent me part site opened (IsClosed c) = let none : site.node ≡ None = ap (λ (x : NodeSite _). x.node) c.closed in absurd (cc)

-- and one that hands on a packet
pub open_handed : {S : Type 0} (s : Setting S) (sent : List Message) (me : ℕ) (part : NodePart) (site : NodeSite S) (packet : List ℕ) → HandsOn site packet → IsNodeOver s sent me part site → IsOpenOver s sent me part site
open_handed s sent me part site packet h (IsOpen o) = o
open_handed s sent me part site packet h (IsClosed c) = absurd (subst (λ (x : NodeSite _). Has h.step x.step_packets) c.closed h.made)

-- ---- what is given for the device

module _ {S : Type 0} (s : Setting S) (sent : List Message) (me : ℕ) (part : NodePart) (before : NodeSite S) (o : IsOpenOver s sent me part before) where
  -- some of it is appended
  pub appends_over : (after : NodeSite S) → Appends before after → IsOpenOver s sent me part after
  appends_over after a =
      let site : NodeSite S = record before { appended = before.appended ++ take a.count before.given; given = drop a.count before.given } in
      let same : all_given site ≡ all_given before =
      ap (λ (l : List ℕ). l ++ drop a.count before.given) (sym (append_assoc before.synced before.appended (take a.count before.given)))
      ∙ append_assoc (before.synced ++ before.appended) (take a.count before.given) (drop a.count before.given)
      ∙ ap (λ (l : List ℕ). (before.synced ++ before.appended) ++ l) (taken_drop a.count before.given) in
      subst (IsOpenOver s sent me part) (sym a.goes) (record {
        node = o.node;
        kept = o.kept;
        set_up = o.set_up;
        untorn = o.untorn;
        bytes = o.bytes;
        records = o.records;
        rest = o.rest;
        synced = o.synced;
        steps = o.steps;
        made = o.made;
        reached = o.reached;
        given = same ∙ o.given;
        settled = o.settled;
        packets = o.packets;
        are_sent = o.are_sent;
        noted = o.noted;
      })

  -- what was appended is synced
  pub syncs_over : (after : NodeSite S) → Syncs before after → IsOpenOver s sent me part after
  syncs_over after a = subst (IsOpenOver s sent me part) (sym a.goes) (record {
    node = o.node;
    kept = o.kept;
    set_up = o.set_up;
    untorn = o.untorn;
    bytes = o.bytes;
    records = o.records;
    rest = o.rest ++ before.appended;
    synced = ap (λ (l : List ℕ). l ++ before.appended) o.synced ∙ append_assoc o.bytes o.rest before.appended;
    steps = o.steps;
    made = o.made;
    reached = o.reached;
    given = ap (λ (l : List ℕ). l ++ before.given) (append-nil (before.synced ++ before.appended)) ∙ o.given;
    settled = o.settled;
    packets = o.packets;
    are_sent = o.are_sent;
    noted = o.noted;
  })

  -- ---- a step

  pub step_over : (old : NodeState S) (input : NodeInput) (stale : Bool) (turn : Turn) (seen : before.node ≡ Some old) → MayCome sent input → node_effect s me (part_of old.replica) input ≡ Ok (turn_done (part_of old.replica) turn)
      → IsOpenOver s sent me part (with_step before (after_step old stale turn) (noted_by input))
  step_over old input stale turn seen may effect =
      let same : o.node ≡ old = ap (λ (x : Option (NodeState S)). unwrap_or x old) (sym o.kept ∙ seen) in
      let step : PendingStep = record { input = input; turn = turn } in
      let stored = bytes_written turn.written in
      let at : part_of old.replica ≡ after_steps part o.steps = ap (λ (n : NodeState S). part_of n.replica) (sym same) ∙ o.reached in
      let end : length (all_given before ++ stored) ≡ (length o.bytes + length (bytes_of o.steps)) + length stored =
      length-append (all_given before) stored ∙ ap (λ (n : ℕ). n + length stored) (ap (λ (l : List ℕ). length l) o.given ∙ length-append o.bytes (bytes_of o.steps)) in
      let item : ℕ → StepPackets = λ n. record { texts = texts_of turn.sent; end = n } in
      record {
        node = after_step old stale turn;
        kept = refl;
        set_up = subst (λ (n : NodeState S). IsSetUp s me (after_step n stale turn)) same (record { me_is = o.set_up.me_is; config = o.set_up.config; begin = o.set_up.begin });
        untorn = o.untorn;
        bytes = o.bytes;
        records = o.records;
        rest = o.rest;
        synced = o.synced;
        steps = o.steps ++ step ∷ [];
        made = steps_more s sent me part o.steps step o.made may (subst (λ (p : NodePart). node_effect s me p input ≡ Ok (turn_done p turn)) at effect);
        reached = ap (λ (p : NodePart). (turn_done p turn).part) at ∙ sym (after_append part o.steps (step ∷ []));
        given = sym (append_assoc (before.synced ++ before.appended) before.given stored)
            ∙ ap (λ (l : List ℕ). l ++ stored) o.given ∙ append_assoc o.bytes (bytes_of o.steps) stored
            ∙ ap (λ (l : List ℕ). o.bytes ++ (bytes_of o.steps ++ l)) (sym (append-nil stored)) ∙ ap (λ (l : List ℕ). o.bytes ++ l) (sym (bytes_append o.steps (step ∷ [])));
        settled = o.settled;
        packets = ap (λ (l : List StepPackets). l ++ item (length (all_given before ++ stored)) ∷ []) o.packets
            ∙ ap (λ (n : ℕ). (o.settled ++ packets_of (length o.bytes) o.steps) ++ item n ∷ []) end
            ∙ append_assoc o.settled (packets_of (length o.bytes) o.steps) (item ((length o.bytes + length (bytes_of o.steps)) + length stored) ∷ [])
            ∙ ap (λ (l : List StepPackets). o.settled ++ l) (sym (packets_append (length o.bytes) o.steps (step ∷ [])));
        are_sent = o.are_sent;
        noted = λ v has. elim (has_split v (noted_in o.steps) (noted_in (step ∷ [])) (subst (λ (l : List Action). Has v l) (noted_append o.steps (step ∷ [])) has)) [
          | inl old ↦ has_left v before.noted (noted_by input) (o.noted v old)
          | inr new ↦ has_right v before.noted (noted_by input) (subst (λ (l : List Action). Has v l) (append-nil (noted_by input)) new)
        ];
      }

  -- nothing changed but what the handle's node was asked, or that it left a call out
  pub same_over : (old new : NodeState S) → before.node ≡ Some old → new.replica ≡ old.replica → IsOpenOver s sent me part (record before { node = Some new })
  same_over old new seen same = record {
    node = new;
    kept = refl;
    set_up = record {
      me_is = ap (λ (r : ReplicaState S). r.me) (is old new seen same) ∙ o.set_up.me_is;
      config = ap (λ (r : ReplicaState S). r.config) (is old new seen same) ∙ o.set_up.config;
      begin = subst (λ (r : ReplicaState S). AnswerAlike s.next s.answers r.begin s.begin) (sym (is old new seen same)) o.set_up.begin;
    };
    untorn = o.untorn;
    bytes = o.bytes;
    records = o.records;
    rest = o.rest;
    synced = o.synced;
    steps = o.steps;
    made = o.made;
    reached = ap (λ (r : ReplicaState S). part_of r) (is old new seen same) ∙ o.reached;
    given = o.given;
    settled = o.settled;
    packets = o.packets;
    are_sent = o.are_sent;
    noted = o.noted;
  }
    where
      is : (old new : NodeState S) → before.node ≡ Some old → new.replica ≡ old.replica → new.replica ≡ o.node.replica
      is old new seen same = same ∙ ap (λ (x : Option (NodeState S)). (unwrap_or x old).replica) (sym seen ∙ o.kept)

-- ---- the first pending steps are made

pub record Settled {S : Type 0} (s : Setting S) (events : List Event) (w : World) (me : ℕ) (part : NodePart) (site : NodeSite S) (front back : List PendingStep) (n : ℕ) : Type 0 where
  pub leads : GoesOnTo s events w me (after_steps part front)
  pub over : IsOpenOver s leads.world.sent me (after_steps part front) site
  pub left : over.steps ≡ back
  pub noted : AreAmong leads.noted site.noted
  pub sent : (p : StepPackets) → Has p (packets_of n front) → AreTextsSent leads.world.sent p.texts

module _ {S : Type 0} (s : Setting S) (ranged : (events : List Event) (w : World) → IsHistory s events w → IsRangedWorld s.config.nodes w) (events : List Event) (w : World) (history : IsHistory s events w)
    (me : ℕ) (part : NodePart) (here : part_at w.nodes me ≡ Some part) (site : NodeSite S) where
  pub settle : (o : IsOpenOver s w.sent me part site) (front back : List PendingStep) → o.steps ≡ front ++ back → length o.bytes + length (bytes_of front) ≤ length site.synced
      → Settled s events w me part site front back (length o.bytes)
  settle o front back parts fits =
      let m = made s ranged front back events w me part history here (subst (AreSteps s w.sent me part) parts o.made) in
      let bytes = o.bytes ++ bytes_of front in
      let whole : all_given site ≡ bytes ++ bytes_of back =
      o.given ∙ ap (λ (l : List PendingStep). o.bytes ++ bytes_of l) parts ∙ ap (λ (l : List ℕ). o.bytes ++ l) (bytes_append front back) ∙ sym (append_assoc o.bytes (bytes_of front) (bytes_of back)) in
      let f = fronts bytes (bytes_of back) site.synced (site.appended ++ site.given) (sym whole ∙ append_assoc site.synced site.appended site.given) (omega (arith, fits, length-append o.bytes (bytes_of front))) in
      let n = length o.bytes in
      let sent = packets_sent m.leads.world.sent n front m.packets in
      let noted_parts : noted_in o.steps ≡ noted_in front ++ noted_in back = ap noted_in parts ∙ noted_append front back in
      record {
        leads = m.leads;
        over = record {
          node = o.node;
          kept = o.kept;
          set_up = o.set_up;
          untorn = torn_after part front ∙ o.untorn;
          bytes = bytes;
          records = texts_after part front o.bytes o.records;
          rest = f.more;
          synced = f.longer;
          steps = back;
          made = m.pending;
          reached = o.reached ∙ ap (after_steps part) parts ∙ after_append part front back;
          given = whole;
          settled = o.settled ++ packets_of n front;
          packets = o.packets ∙ ap (λ (l : List PendingStep). o.settled ++ packets_of n l) parts ∙ ap (λ (l : List StepPackets). o.settled ++ l) (packets_append n front back)
              ∙ sym (append_assoc o.settled (packets_of n front) (packets_of (n + length (bytes_of front)) back))
              ∙ ap (λ (k : ℕ). (o.settled ++ packets_of n front) ++ packets_of k back) (sym (length-append o.bytes (bytes_of front)));
          are_sent = λ p has. elim (has_split p o.settled (packets_of n front) has) [
            | inl old ↦ sent_later w.sent m.leads.world.sent p.texts m.leads.sent (o.are_sent p old)
            | inr new ↦ sent p new
          ];
          noted = λ v has. o.noted v (subst (λ (l : List Action). Has v l) (sym noted_parts) (has_right v (noted_in front) (noted_in back) has));
        };
        left = refl;
        noted = λ v has. o.noted v (subst (λ (l : List Action). Has v l) (sym noted_parts) (has_left v (noted_in front) (noted_in back) (m.noted v has)));
        sent = sent;
      }

  -- ---- a packet is handed on

  -- one of the packets that were sent
  pub handed : (texts packet : List ℕ) (sent : List Message) → ((m : Message) → Has m sent → IsPacket m) → AreTextsSent sent texts → IsPacketIn packet texts → (m : Message) × Has m sent × (packet ≡ text_of m)
  handed texts packet sent packets are one =
      let same : one.messages ≡ are.messages = same_messages one.messages are.messages one.each (each_packet are.messages (λ m has. packets m (are.all m has))) (sym one.texts ∙ are.joined) in
      (one.message, are.all one.message (subst (λ (ms : List Message). Has one.message ms) same one.one), one.text)

  pub record HandedOn (packet : List ℕ) : Type 0 where
    pub reached : NodePart
    pub leads : GoesOnTo s events w me reached
    pub over : IsOpenOver s leads.world.sent me reached site
    pub sent : (m : Message) × Has m leads.world.sent × (packet ≡ text_of m)
    pub noted : AreAmong leads.noted site.noted

  pub hands_on : (o : IsOpenOver s w.sent me part site) (packet : List ℕ) → HandsOn site packet → HandedOn packet
  hands_on o packet h =
      elim (has_split h.step o.settled (packets_of (length o.bytes) o.steps) (subst (λ (l : List StepPackets). Has h.step l) o.packets h.made)) [
        | inl old ↦ record {
          reached = part;
          leads = stands_still s events w me part part history here refl;
          over = o;
          sent = handed h.step.texts packet w.sent (ranged events w history).packets (o.are_sent h.step old) h.one;
          noted = λ v none. absurd none;
        }
        | inr new ↦
            let f = found_step (length o.bytes) o.steps h.step new in
            let front = f.front ++ f.step ∷ [] in
            let d = settle o front f.back f.parts (omega (arith, f.end_is, h.synced)) in
            record {
              reached = after_steps part front;
              leads = d.leads;
              over = d.over;
              noted = d.noted;
              sent = handed h.step.texts packet d.leads.world.sent (ranged (events ++ d.leads.more) d.leads.world d.leads.history).packets (d.sent h.step f.here) h.one;
            }
      ]

  -- ---- a node is closed

  pub record ClosedAfter (after : NodeSite S) : Type 0 where
    pub reached : NodePart
    pub leads : GoesOnTo s events w me reached
    pub over : IsClosedOver reached after
    pub noted : AreAmong leads.noted site.noted

  pub closes : (o : IsOpenOver s w.sent me part site) (after : NodeSite S) → Closes site after → ClosedAfter after
  closes o after c =
      let kept = take c.kept site.appended in
      let lost = drop c.kept site.appended in
      let left = o.rest ++ kept in
      let parts : o.bytes ++ bytes_of o.steps ≡ o.bytes ++ (left ++ (lost ++ site.given)) =
      sym o.given ∙ ap (λ (l : List ℕ). (l ++ site.appended) ++ site.given) o.synced
      ∙ ap (λ (l : List ℕ). ((o.bytes ++ o.rest) ++ l) ++ site.given) (sym (taken_drop c.kept site.appended))
      ∙ regroup o.bytes o.rest kept lost site.given in
      let at : o.bytes ++ left ≡ site.synced ++ kept = sym (append_assoc o.bytes o.rest kept) ∙ ap (λ (l : List ℕ). l ++ kept) (sym o.synced) in
      let stop = stopped s ranged events w me part o.steps o.bytes left (lost ++ site.given) history here o.untorn o.records o.made (append_cancel_left o.bytes (bytes_of o.steps) (left ++ (lost ++ site.given)) parts) in
      record {
        reached = stop.reached;
        leads = stop.leads;
        over = subst (IsClosedOver stop.reached) (sym c.goes) (record {
          closed = refl;
          torn = stop.torn;
          records = subst (λ (l : List ℕ). AreRecordsOf l stop.reached.records stop.torn) at stop.records;
          torn_is = stop.length_is;
        });
        noted = λ v has. o.noted v (stop.noted v has);
      }
    where
      regroup : (a b c d e : List ℕ) → ((a ++ b) ++ (c ++ d)) ++ e ≡ a ++ ((b ++ c) ++ (d ++ e))
      regroup a b c d e = simp append_assoc

  -- ---- a node is opened

  -- it is stopped first, if it runs in the world
  abbrev stops_first : (running : Option Running) → part.running ≡ running → GoesOnTo s events w me (stop_part part)
  stops_first None is = stands_still s events w me part (stop_part part) history here (ap (λ (r : Option Running). let p : NodePart = record { records = part.records; torn = part.torn; running = r } in p) (sym is))
  stops_first (Some known) is =
      one_more s events w me part (goes_on_as (stop_part part)) (Stop me) history here (node_here s ranged events w me part history here)
      (ap (stops w me) here ∙ ap (λ (r : Option Running). node_done_if w me (stops_while part r)) is)

  stops_noted : (running : Option Running) (is : part.running ≡ running) → AreAmong (stops_first running is).noted []
  stops_noted None is = λ v none. none
  stops_noted (Some known) is = λ v none. none

  abbrev restarts_then : (first : GoesOnTo s events w me (stop_part part)) → GoesOnTo s events w me (restart_part (stop_part part)).part
  restarts_then first =
      leads_on s events w me (stop_part part) (restart_part (stop_part part)).part first
      (one_more s (events ++ first.more) first.world me (stop_part part) (restart_part (stop_part part)) (Restart me) first.history first.here
      (node_here s ranged events w me part history here) (ap (restarts first.world me) first.here))

  pub record OpenedAfter (after : NodeSite S) : Type 0 where
    pub reached : NodePart
    pub leads : GoesOnTo s events w me reached
    pub over : IsOpenOver s leads.world.sent me reached after
    pub noted : AreAmong leads.noted []

  pub opens : (image : S → List ℕ) (c : IsClosedOver part site) (after : NodeSite S) → OpensSite s.config.nodes (OpensFrom s.next s.answers image s.config s.begin) (AnswersBy s.next s.answers image) me site after → OpenedAfter after
  opens image c after h =
      let node = h.node in
      let from = h.opens.opens in
      let o = from.opens in
      let found = o.opened.found in
      let same = same_reading from.disk.contents c.torn found.0 part.records o.all (subst (λ (l : List ℕ). AreRecordsOf l part.records c.torn) (sym from.holds) c.records) found.1 in
      let in_log : records_in_log s.config.max_positions part.records ≡ part.records =
      all_pass (is_in_log s.config.max_positions) part.records (history_in_log s events w history part (part_has w.nodes me part here)) in
      let bytes = node.replica.disk.contents in
      let records : node.replica.records ≡ part.records = ap (λ (r : ReplicaState S). r.records) o.starts ∙ ap (records_in_log s.config.max_positions) (sym same.0) ∙ in_log in
      let running : node.replica.running ≡ fresh_running = ap (λ (r : ReplicaState S). r.running) o.starts in
      let leads = restarts_then (stops_first part.running refl) in
      let front : take h.kept site.synced ≡ bytes = ap (λ (n : ℕ). take n site.synced) from.kept_is ∙ ap (λ (l : List ℕ). take (length bytes) l) (sym from.holds ∙ o.opened.contents) ∙ taken_front bytes found.0 in
      record {
        reached = (restart_part (stop_part part)).part;
        leads = leads;
        noted = λ v has. elim (has_split v (stops_first part.running refl).noted [] has) [ inl old ↦ stops_noted part.running refl v old | inr none ↦ none ];
        over = subst (IsOpenOver s leads.world.sent me (restart_part (stop_part part)).part) (sym h.goes) (record {
          node = node;
          kept = refl;
          set_up = record { me_is = ap (λ (r : ReplicaState S). r.me) o.starts; config = ap (λ (r : ReplicaState S). r.config) o.starts; begin = subst (λ (b : S). AnswerAlike s.next s.answers b s.begin) (sym (ap (λ (r : ReplicaState S). r.begin) o.starts)) h.opens.alike.answer };
          untorn = refl;
          bytes = bytes;
          records = subst (λ (rs : List Rec). AreTextsOf rs bytes) (sym same.0) (alone bytes o.all o.opened.kept);
          rest = [];
          synced = front ∙ sym (append-nil bytes);
          steps = [];
          made = tt;
          reached = λ i. (let p : NodePart = record { records = records i; torn = 0; running = Some (running i) } in p);
          given = append-nil (take h.kept site.synced ++ []) ∙ append-nil (take h.kept site.synced) ∙ front ∙ sym (append-nil bytes);
          settled = [];
          packets = refl;
          are_sent = λ p none. absurd none;
          noted = λ v none. absurd none;
        });
      }
