-- What a node's caller does for one event: a step is asked for, appended, synced and handed on; the node is closed; it is opened.
use Rattle.std.proofs.Common.{◌≡◌, ℕ, ◌+◌, Bool, false, Option, Some, Result, Ok, List, [], ◌∷◌, ◌++◌, length, map, take, drop, inl, inr, refl, sym, ap, subst, ◌∙◌, length-append, length-drop, arith}
use Rattle.std.specs.Prelude.{IsSome, nat_lt, replicate, if◌then◌else◌}
use Rattle.std.specs.List.{AllByRecursion}
use Rattle.std.proofs.lemmas.List.{append-nil, length-replicate}
use Rattle.rp_base.specs.Sets.{Has}
use Rattle.rp_base.specs.declared.action.Action.{Action}
use Rattle.rp_base.specs.declared.config.Config.{Config}
use Rattle.rp_base.specs.declared.record.Rec.{Rec}
use Rattle.rp_base.specs.declared.reply.Answer.{Answer}
use Rattle.rp_codec.specs.Message.{Message, IsPacket}
use Rattle.rp_codec.specs.Text.{text_of}
use Rattle.rp_model.specs.Effect.{NodeInput}
use Rattle.rp_model.specs.Parts.{Turn, fresh_running, records_in_log}
use Rattle.rp_model.specs.World.{part_at}
use Rattle.rp_world.specs.rp_outbox.specs.Packets.{texts_of}
use Rattle.rp_world.specs.rp_replica.specs.Inputs.{effect_if_given}
use Rattle.rp_world.specs.rp_store.specs.Disk.{Disk, empty_disk}
use Rattle.rp_world.specs.rp_store.specs.Records.{AreRecordsOf}
use Rattle.rp_world.specs.rp_store.proofs.Whole.{are_alone}
use Rattle.rp_installations.specs.Pending.{noted_by}
use Rattle.rp_requests.specs.Texts.{step_text, FitsStep}
use Rattle.rp_requests.specs.Nodes.{NodeState, RequestAnswers, GivenAnswers, after_step, is_at_end, stored_by, step_bytes}
use Rattle.rp_requests.specs.Timing.{comes_early, comes_late}
use Rattle.rp_requests.specs.declared.not_taken.NotTaken.TheVariants.{Nothing}
use Rattle.rp_requests.specs.Requests.{Asked, Step, asked_of}
use Rattle.rp_requests.specs.declared.buffer.Lengths.{Lengths}
use Rattle.rp_requests.specs.declared.refusal.Refusal.{Refusal}
use Rattle.rp_installations.specs.Moves.{AreBytes, IsPacketIn, WasHandedOn, node_receives_byte, AsksSite, HandsOn, noted_if, is_step_made, with_step, site_answered, OpensFrom, AnswersBy, AnsweredRequest, all_given}
use Rattle.rp_installations.specs.Moves as moves
use Rattle.rp_installations.proofs.NodeAnswers.{none_left_out}
use Rattle.rp_installations.specs.Sites.{StepPackets, NodeSite, Installation, closed_over}
use Rattle.rp_progress_by_handle.specs.ByHandle.{AnswersInPlace}
use Rattle.rp_progress_by_handle.proofs.Reaching.{NodeReaches, stays, moves_node, node_then}

-- ---- lists

pub take_whole : (xs rest : List ℕ) → take (length xs) (xs ++ rest) ≡ xs
take_whole [] rest = refl
take_whole (x ∷ xs) rest = ap (λ (l : List ℕ). x ∷ l) (take_whole xs rest)

take_all : (xs : List ℕ) → take (length xs) xs ≡ xs
take_all [] = refl
take_all (x ∷ xs) = ap (λ (l : List ℕ). x ∷ l) (take_all xs)

drop_all : (xs : List ℕ) → drop (length xs) xs ≡ []
drop_all [] = refl
drop_all (x ∷ xs) = drop_all xs

-- an open node of which all is synced
abbrev pub open_site : {S : Type 0} → NodeState S → List ℕ → List StepPackets → List Action → NodeSite S
open_site node synced packets noted = record { node = Some node; synced = synced; appended = []; given = []; step_packets = packets; noted = noted }

-- a node that was opened over these records, with these bytes, and n torn ones after them
abbrev opened_disk : List ℕ → ℕ → Disk
opened_disk texts torn = record { contents = texts; stable = length texts; failures = 0; appends = 0; syncs = 1; reads = 1; cuts = if nat_lt 0 torn then 1 else 0 }

abbrev pub opened_node : {S : Type 0} → Config → S → ℕ → List Rec → List ℕ → ℕ → NodeState S
opened_node config begin me records texts torn = record {
  replica = record {
    me = me;
    config = config;
    begin = begin;
    records = records_in_log config.max_positions records;
    running = fresh_running;
    disk = opened_disk texts torn;
    failed = false;
  };
  stored = [];
  packets = [];
  ends = [];
  not_taken = Nothing;
  had_early = false;
}

module _ {S : Type 0} (next : S → Action → S) (answers : S → Action → List Answer) (image : S → List ℕ) (config : Config) (begin : S) (quorum : List ℕ) (t : ℕ) where
  abbrev Reaches : Installation S → ℕ → NodeSite S → List (List ℕ) → Type 0
  Reaches i me site given = NodeReaches next answers image config begin quorum t i me site given

  -- ---- a node is closed

  pub closes_on : (i : Installation S) (me : ℕ) (site : NodeSite S) → Has me quorum → part_at i.nodes me ≡ Some site → IsSome site.node → Reaches i me (closed_over site.synced site.noted) []
  closes_on i me site has here opened =
      subst (λ (bytes : List ℕ). Reaches i me (closed_over bytes site.noted) []) (append-nil site.synced)
      (moves_node next answers image config begin quorum t i me site (closed_over (site.synced ++ []) site.noted) [] has here (moves.NodeMove.Closed (record { opened = opened; kept = 0; goes = refl }) refl))

  -- ---- a node is opened

  pub opens_on : (i : Installation S) (me : ℕ) (synced : List ℕ) (noted : List Action) (records : List Rec) (torn : List ℕ) → Has me quorum → part_at i.nodes me ≡ Some (closed_over synced noted)
      → (are : AreRecordsOf synced records torn) → Reaches i me (open_site (opened_node config begin me records are.texts (length torn)) are.texts [] noted) []
  opens_on i me synced noted records torn has here are =
      let node = opened_node config begin me records are.texts (length torn) in
      let opens : OpensFrom next answers image config begin me synced node (length records) (length are.texts) = record {
        start = begin;
        alike = record { answer = record { kept = λ log. refl; given = λ log. refl }; shown = λ log. refl };
        opens = record {
          disk = record empty_disk { contents = synced };
          holds = refl;
          cut_bytes = length torn;
          opens = record {
            all = records;
            opened = record {
              found = (torn, are, refl);
              contents = are.whole;
              kept = are_alone are.texts records are.are are.each;
              stable = refl;
              failures = refl;
              appends = refl;
              syncs = refl;
              reads = refl;
              cuts = refl;
            };
            starts = refl;
            counted = refl;
          };
          kept_is = refl;
          no_step = (refl, refl, refl, refl, refl);
        };
      } in
      subst (λ (bytes : List ℕ). Reaches i me (open_site node bytes [] noted) []) (ap (take (length are.texts)) are.whole ∙ take_whole are.texts torn)
      (moves_node next answers image config begin quorum t i me (closed_over synced noted) (open_site node (take (length are.texts) synced) [] noted) [] has here
      (moves.NodeMove.Opened (record { closed = refl; node = node; records = length records; kept = length are.texts; opens = opens; goes = refl }) refl))

  -- ---- a step

  module _ (reads : (input : NodeInput) → FitsStep input → asked_of (step_text input) ≡ Some (Step (Ok input))) where
    module _ (me : ℕ) (has : Has me quorum) (node : NodeState S) (synced : List ℕ) (packets : List StepPackets) (noted : List Action) (input : NodeInput) (turn : Turn)
        (fits : FitsStep input) (bytes : AreBytes (step_text input)) (effect : effect_if_given next answers node.replica (Ok input) ≡ Ok turn) (early : comes_early next answers node.replica (Ok input) ≡ false) (each : AllByRecursion IsPacket turn.sent) where
      abbrev pub site : NodeSite S
      site = open_site node synced packets noted

      abbrev stale : Bool
      stale = comes_late next answers node.replica (Ok input)

      abbrev pub new : NodeState S
      new = after_step node stale turn

      abbrev stored : List ℕ
      stored = stored_by turn.written

      abbrev asked_site : NodeSite S
      asked_site = with_step site new (noted_by input)

      -- it is asked for
      asks : (i : Installation S) → part_at i.nodes me ≡ Some site → WasHandedOn i.handed_on node_receives_byte (step_text input) → Reaches i me asked_site []
      asks i here came =
          let front = stored ++ texts_of turn.sent in
          let buffer = replicate (step_bytes + length front) 0 in
          let long : length buffer ≡ step_bytes + length front = length-replicate {A = ℕ} (step_bytes + length front) 0 in
          let lengths : Lengths = record { stored = length stored; used = length front } in
          let result : Result Lengths Refusal = Ok lengths in
          let exchange : AnsweredRequest = record { request = step_text input; before = buffer; after = front ++ drop (length front) buffer; result = result } in
          let read = reads input fits in
          let answer : RequestAnswers next answers image (Some (Step (Ok input))) node new buffer exchange.after result =
          subst (λ (b : Bool). GivenAnswers b (effect_if_given next answers node.replica (Ok input)) (is_at_end node.replica (Ok input)) stale node new buffer exchange.after result) (sym early)
          (record { room = omega (arith, long); turn = turn; takes = effect; goes = refl; put = record { front = refl; stored_is = refl; used_is = refl } }) in
          let asks : AsksSite config.nodes (OpensFrom next answers image config begin) (AnswersInPlace next answers image config begin) i.handed_on site asked_site = record {
            exchange = exchange;
            old = node;
            new = new;
            opened = refl;
            bytes = bytes;
            arrived = came;
            answers = (
              subst (λ (a : Option Asked). RequestAnswers next answers image a node new buffer exchange.after result) (sym read) answer,
              omega (arith, long, length-append front (drop (length front) buffer), length-drop (length front) buffer),
            );
            goes = sym (ap (λ (a : Option Asked). site_answered site new (noted_if a) (is_step_made a result new.not_taken)) read ∙ ap (site_answered site new (noted_by input)) (none_left_out stale turn.dropped));
          } in
          moves_node next answers image config begin quorum t i me site asked_site [] has here (moves.NodeMove.Requested asks refl)

      abbrev appended_site : NodeSite S
      appended_site = record asked_site { appended = [] ++ take (length stored) stored; given = drop (length stored) stored }

      abbrev synced_site : NodeSite S
      synced_site = record appended_site { synced = synced ++ appended_site.appended; appended = [] }

      -- what it gave is appended and synced
      keeps : (i : Installation S) → part_at i.nodes me ≡ Some site → WasHandedOn i.handed_on node_receives_byte (step_text input) → Reaches i me synced_site []
      keeps i here came =
          let asked = asks i here came in
          let appends = moves_node next answers image config begin quorum t asked.later me asked_site appended_site [] has asked.there (moves.NodeMove.Appended (record { opened = refl; count = length stored; goes = refl }) refl) in
          let first = node_then next answers image config begin quorum t i me asked_site appended_site [] [] asked appends in
          node_then next answers image config begin quorum t i me appended_site synced_site [] [] first
          (moves_node next answers image config begin quorum t first.later me appended_site synced_site [] has first.there (moves.NodeMove.Synced (record { opened = refl; goes = refl }) refl))

      abbrev made : StepPackets
      made = record { texts = texts_of turn.sent; end = length (all_given site ++ stored) }

      abbrev pub done_site : NodeSite S
      done_site = open_site new (synced ++ stored) (packets ++ made ∷ []) (noted ++ noted_by input)

      site_is : synced_site ≡ done_site
      site_is = λ n. (let s : NodeSite S = record { node = Some new; synced = synced ++ take_all stored n; appended = []; given = drop_all stored n; step_packets = packets ++ made ∷ []; noted = noted ++ noted_by input } in s)

      -- its packets are handed on
      hands_all : (ms : List Message) → ((m : Message) → Has m ms → Has m turn.sent) → (i : Installation S) → part_at i.nodes me ≡ Some done_site → Reaches i me done_site (map text_of ms)
      hands_all [] among i here = stays next answers image config begin quorum t i me done_site here
      hands_all (m ∷ ms) among i here =
          let packet : IsPacketIn (text_of m) made.texts = record { messages = turn.sent; each = each; texts = refl; message = m; one = among m (inl refl); text = refl } in
          let hands : HandsOn done_site (text_of m) = record {
            step = made;
            made = last packets;
            synced = omega (arith, length-append (all_given site) stored, length-append (synced ++ []) [], length-append synced [], length-append synced stored);
            one = packet;
          } in
          let one = moves_node next answers image config begin quorum t i me done_site done_site (text_of m ∷ []) has here (moves.NodeMove.HandedOn (text_of m) hands refl refl) in
          node_then next answers image config begin quorum t i me done_site done_site (text_of m ∷ []) (map text_of ms) one (hands_all ms (λ n later. among n (inr later)) one.later one.there)
        where
          last : (l : List StepPackets) → Has made (l ++ made ∷ [])
          last [] = inl refl
          last (p ∷ l) = inr (last l)

      pub steps_on : (i : Installation S) → part_at i.nodes me ≡ Some site → WasHandedOn i.handed_on node_receives_byte (step_text input) → Reaches i me done_site (map text_of turn.sent)
      steps_on i here came =
          let kept = subst (λ (x : NodeSite S). Reaches i me x []) site_is (keeps i here came) in
          node_then next answers image config begin quorum t i me done_site done_site [] (map text_of turn.sent) kept (hands_all turn.sent (λ m h. h) kept.later kept.there)
