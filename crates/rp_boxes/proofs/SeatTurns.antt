-- What a turn of a replica is for the seat of its node.
use Rattle.std.specs.Prelude.{IsOk}
use Rattle.std.proofs.Common.{◌≡◌, ◌⊎◌, ℕ, ◌<◌, true, false, Option, Some, None, Result, Ok, Err, List, [], inl, inr, refl, sym, ap, subst, ◌∙◌}
use Rattle.rp_base.specs.declared.fault.Fault.{Fault}
use Rattle.rp_base.specs.declared.fault.Fault.TheVariants.{OutOfMemory, Device, Failed, NotRunning}
use Rattle.rp_base.specs.declared.record.Rec.{Rec}
use Rattle.rp_codec.specs.Message.{Message, IsPacket}
use Rattle.rp_codec.specs.Reading.{all_of}
use Rattle.rp_codec.specs.Text.{text_of}
use Rattle.rp_actors.specs.rp_store.specs.Disk.{Disk}
use Rattle.rp_model.specs.Effect as nodes
use Rattle.rp_model.specs.Effect.{Setting, Done, NodeInput, effect_while, node_effect, cut_effect, cut_if, cut_part, turn_done, turn_done_if, goes_on_as}
use Rattle.rp_model.specs.Parts.{NodePart, Running, Turn}
use Rattle.rp_model.specs.rp_machine.specs.declared.machine.Machine.{Ghosts}
use Rattle.rp_agreement.specs.Inputs.{IsInput}
use Rattle.rp_actors.specs.rp_replica.specs.State.{ReplicaState, with_text}
use Rattle.rp_actors.specs.rp_replica.specs.Inputs.{effect_if_given, input_effect, replica_effect}
use Rattle.rp_actors.specs.rp_rules.specs.Inputs.{IsLong, IsRightInput, packet_given, given_by}
use Rattle.rp_actors.specs.rp_replica.specs.Turning.{TurnsIf, FailsAt, IsCertain, Stops, StopsIf}
use Rattle.rp_actors.specs.rp_rules.specs.declared.input.Input.{Input}
use Rattle.rp_actors.specs.rp_rules.specs.declared.input.Input.TheVariants.{Receive, Lead, LeadRange, Interrupt, Tick, Report, Ask}
use Rattle.rp_actors.specs.rp_replica.specs.declared.sent.Sent.{Sent}
use Rattle.rp_actors.specs.Nodes.{Member, member_of, RunsAs, RepresentsWhile, IsLight}
use Rattle.rp_actors.proofs.Light.{light_turn}
use Rattle.rp_actors.proofs.Represented.{represents, represents_failed, as_running, as_resting}
use Rattle.rp_actors.proofs.Turning.{same_effect, is_cut, taken, false_true}
use Rattle.rp_board.specs.Parts.{Part, OfNode, part_after}
use Rattle.rp_board.specs.Rule.{HasOwnPackets}
use Rattle.rp_board.specs.Seats.{SeatSetup, SeatState, IsNoted, setting_at}
use Rattle.rp_board.specs.Steps.{IsEvent, HasEvent}
use Rattle.rp_board.proofs.SeatBoxes.{seat_with, with_failures}
use Rattle.rp_boxes.specs.NodeSeats.{IsNodeAt, HasInputRanges, IsGot, IsReason, IsTurn, IsCutTurn, IsLightTurn, IsNoTurn}
use Rattle.rp_boxes.specs.CountedTurns.{HasStepped, HasStopped}

-- a record that is written is no failure
written_failures : (written : Option Rec) (disk : Disk) → (with_text disk written).failures ≡ disk.failures
written_failures None disk = refl
written_failures (Some rec) disk = refl

-- ---- what the node is given

-- the texts of packets are packets
abbrev pub TextsArePackets : Type 0
TextsArePackets = (m : Message) → IsPacket m → packet_given (all_of (text_of m)) ≡ Ok (nodes.Receive m)

pub record IsGiven (part : Part) (input : Input) : Type 0 where
  pub given : NodeInput
  pub gives : given_by input ≡ Ok given
  pub is : IsInput part.got given

pub input_given : TextsArePackets → (k : ℕ) (part : Part) (input : Input) → HasOwnPackets k part → IsRightInput input → HasInputRanges input → IsGot part input → IsGiven part input
input_given texts k part (Receive bytes) own right ranges got = record {
  given = nodes.Receive got.0;
  gives = ap (λ (text : List ℕ). packet_given (all_of text)) got.2 ∙ texts got.0 (own.got got.0 got.1).0;
  is = got.1;
}
input_given texts k part (Lead choice) own right ranges got = record { given = nodes.Lead choice; gives = refl; is = ranges }
input_given texts k part (LeadRange range) own right ranges got = record { given = nodes.LeadRange range.first range.count; gives = refl; is = ranges.first }
input_given texts k part (Interrupt source occurrence) own right ranges got = record { given = nodes.Interrupt source occurrence; gives = refl; is = right }
input_given texts k part (Tick now) own right ranges got = record { given = nodes.Tick now; gives = refl; is = ranges }
input_given texts k part (Report first) own right ranges got = record { given = nodes.Report first; gives = refl; is = ranges }
input_given texts k part (Ask to) own right ranges got = record { given = nodes.Ask to; gives = refl; is = ranges }

-- ---- the result

-- A step of a node's seat: the replica and its seat at the table, what is so of them, and the input with what the node
-- is given.
pub record NodeStep {M P : Type 0} (machine : Ghosts M P) : Type 0 where
  pub replica : ReplicaState M
  pub seated : SeatState P
  pub sits : IsNodeAt machine.begin replica seated.setup seated.part.role
  pub input : Input
  pub is : IsGiven seated.part input

module _ {M P : Type 0} {machine : Ghosts M P} (at : NodeStep machine) where
  abbrev input : Input
  input = at.input

  abbrev is : IsGiven at.seated.part at.input
  is = at.is

  abbrev setup : SeatSetup P
  setup = at.seated.setup

  abbrev before : Part
  before = at.seated.part

  abbrev old : ReplicaState M
  old = at.replica

  abbrev sits : IsNodeAt machine.begin old setup before.role
  sits = at.sits

  abbrev number : ℕ
  number = setup.number

  -- what the nodes share at the table of a seat
  abbrev setting : SeatState P → Setting M
  setting seat = setting_at machine.next machine.answers machine.begin seat

  abbrev s : Setting M
  s = setting at.seated

  abbrev member : Member M
  member = member_of number setup.config (machine.begin setup.program)

  -- the result of the input at the replica, and how its turn ends
  abbrev effect_here : Result Turn Fault
  effect_here = replica_effect machine.next machine.answers old is.given

  abbrev Turned : ReplicaState M → Sent → Type 0
  Turned new sent = TurnsIf (input_effect machine.next machine.answers old input) old new sent

  abbrev Ended : ReplicaState M → Fault → Type 0
  Ended new fault = StopsIf (input_effect machine.next machine.answers old input) old new fault

  same_input : input_effect machine.next machine.answers old input ≡ replica_effect machine.next machine.answers old is.given
  same_input = ap (effect_if_given machine.next machine.answers old) is.gives

  -- what is known once the turn is counted, of the seat as a call finds it
  abbrev Stepped : ReplicaState M → Sent → SeatState P → Part → Type 0
  Stepped new sent seat = HasStepped (setting seat) seat.setup.number seat.part input new sent

  abbrev Stopped : ReplicaState M → SeatState P → Part → Type 0
  Stopped new seat = HasStopped (setting seat) seat.setup.number seat.part input new

  abbrev Happens : (SeatState P → Part → Type 0) → SeatState P → Type 0
  Happens knows seat = HasEvent (setting seat) seat.setup.number seat.part (knows seat)

  -- the seat as a contract sees it
  abbrev seat : SeatState P
  seat = with_failures old.disk.failures at.seated

  -- the step of its node
  abbrev step : Result (Done NodePart) Fault
  step = node_effect s number sits.node is.given

  -- the node's device had failed
  pub was_stopped : old.failed ≡ true → IsNoTurn machine.next machine.answers machine.begin seat input seat Failed
  was_stopped failed = record {
    unchanged = refl;
    given = is.given;
    gives = is.gives;
    node = sits.node;
    was = sits.is;
    why = subst (λ (running : Option Running). IsReason running step Failed) (sym (as_resting member old sits.node failed sits.represents).stopped) refl;
  }

  -- ---- a turn that takes no memory

  module _ (t : IsLightTurn machine.next machine.answers machine.begin seat input) where
    -- it is the turn of the seat's node
    light_step : IsLight sits.node step
    light_step =
        let roles = sym t.was ∙ sits.is in
        let same_node : t.node ≡ sits.node = cc in
        let inputs = sym t.gives ∙ is.gives in
        let same_given : t.given ≡ is.given = cc in
        subst (λ (p : NodePart). IsLight p (node_effect s number p is.given)) same_node
        (subst (λ (i : NodeInput). IsLight t.node (node_effect s number t.node i)) same_given t.light)

    -- which runs
    pub light_runs : old.failed ≡ true → ⊥
    light_runs failed =
        let refused : step ≡ Err NotRunning = ap (effect_while s number sits.node is.given) (as_resting member old sits.node failed sits.represents).stopped in
        let resulted : step ≡ Ok light_step.done = light_step.resulted in
        cc

    -- and takes it
    pub light_made : {T : Type 0} (r : Result T Fault) → old.failed ≡ false → ((¬ IsLong input) → IsCertain (input_effect machine.next machine.answers old input) old r) → IsOk r
    light_made r working certain =
        let turn = light_turn machine.next machine.answers member old sits.node (as_running member old sits.node working sits.represents) is.given light_step in
        certain t.short turn.turn (same_input ∙ turn.resulted) turn.free working

  module _ (working : old.failed ≡ false) (new : ReplicaState M) where
    runs : RunsAs member old sits.node
    runs = as_running member old sits.node working sits.represents

    results_so : (turn : Turn) → effect_here ≡ Ok turn → step ≡ Ok (turn_done sits.node turn)
    results_so turn resulted = same_effect machine.next machine.answers member old sits.node runs is.given ∙ ap (turn_done_if sits.node) resulted

    -- the turn took effect
    pub has_stepped : (sent : Sent) → Turned new sent → (here : SeatState P) → here ≡ at.seated → Happens (Stepped new sent) here
    has_stepped sent turns here same =
        let t = taken machine.next machine.answers member old sits.node runs is.given new sent effect_here refl
        (subst (λ (r : Result Turn Fault). TurnsIf r old new sent) same_input turns) in
        subst (Happens (Stepped new sent)) (sym same) (
          part_after before (OfNode t.0.part) t.0.sends,
          inl (record { member = sits.member; part = sits.node; was = sits.is; input = is.given; given = is.is; done = t.0; results = inl t.1; is = refl }),
          record { given = is.given; gives = is.gives; node = sits.node; was = sits.is; done = t.0; results = t.1; represents = represents member new t.0.part t.2; describes = t.3; is = refl },
        )

    -- no call of the device failed then
    failures_stay : (effect : Result Turn Fault) (sent : Sent) → TurnsIf effect old new sent → new.disk.failures ≡ old.disk.failures
    failures_stay (Ok turn) sent turns = ap (λ (h : ReplicaState M). h.disk.failures) turns.0.goes ∙ written_failures turn.written old.disk
    failures_stay (Err refusal) sent turns = absurd turns

    -- the device failed
    abbrev HasStoppedSo : Fault → Type 0
    HasStoppedSo fault = (fault ≡ Device) × (old.disk.failures < new.disk.failures) × (after : Part) × IsEvent s number before after × HasStopped s number before input new after

    stopped_by : (turn : Turn) → effect_here ≡ Ok turn → FailsAt turn.written old new → HasStoppedSo Device
    stopped_by turn resulted fails =
        let kept = fails.holds.0 in
        let left = cut_part kept sits.node turn.written in
        let cut : cut_effect s number sits.node is.given kept ≡ Ok (goes_on_as left) = ap (cut_if kept sits.node) (results_so turn resulted) in (
          refl,
          fails.disk.cause,
          part_after before (OfNode left) [],
          inl (record { member = sits.member; part = sits.node; was = sits.is; input = is.given; given = is.is; done = goes_on_as left; results = inr (kept, cut); is = refl }),
          record {
            given = is.given;
            gives = is.gives;
            node = sits.node;
            was = sits.is;
            done = goes_on_as left;
            cut = record {
              whole = turn_done sits.node turn;
              step = results_so turn resulted;
              written = fails.rec;
              writes = fails.is;
              kept = kept;
              results = cut;
            };
            represents = represents_failed member new left (ap (λ (h : ReplicaState M). h.failed) fails.goes) (is_cut machine.next machine.answers member old sits.node runs kept turn.written new.disk fails.holds.1);
            is = refl;
          },
        )

    -- no event
    abbrev IsWhy : Fault → Type 0
    IsWhy fault = IsReason sits.node.running step fault

    -- since the node runs, its step gives the reason
    by_step : (effect : Result (Done NodePart) Fault) (fault : Fault) → step ≡ effect → IsReason (Some old.running) effect fault → IsWhy fault
    by_step effect fault resulted why =
        subst (λ (running : Option Running). IsReason running step fault) (sym (ap (λ (p : NodePart). p.running) runs.known))
        (subst (λ (e : Result (Done NodePart) Fault). IsReason (Some old.running) e fault) (sym resulted) why)

    -- the device failed within the step, or nothing happened
    abbrev Outcome : Fault → Type 0
    Outcome fault = ((new.failed ≡ true) × HasStoppedSo fault) ⊎ ((new ≡ old) × IsWhy fault)

    by_turn : (turn : Turn) → effect_here ≡ Ok turn → (fault : Fault) → Stops turn.written old new fault → Outcome fault
    by_turn turn resulted OutOfMemory stops = inr (stops.0, by_step (Ok (turn_done sits.node turn)) OutOfMemory (results_so turn resulted) refl)
    by_turn turn resulted Device stops = inl (ap (λ (h : ReplicaState M). h.failed) stops.0.goes, stopped_by turn resulted stops.0)
    by_turn turn resulted Failed stops = absurd (false_true working stops.1)
    by_turn turn resulted _ stops = absurd stops

    by_effect : (effect : Result Turn Fault) → effect_here ≡ effect → (fault : Fault) → StopsIf effect old new fault → Outcome fault
    by_effect (Ok turn) resulted fault stops = by_turn turn resulted fault stops
    by_effect (Err refusal) resulted fault stops = inr (
      stops.0,
      elim stops.1 [
        | inl stated ↦ by_step (Err refusal) fault (same_effect machine.next machine.answers member old sits.node runs is.given ∙ ap (turn_done_if sits.node) resulted) stated.0
        | inr gone ↦ absurd (false_true working gone.1)
      ],
    )

    outcome : (fault : Fault) → Ended new fault → Outcome fault
    outcome fault stops = by_effect effect_here refl fault (subst (λ (r : Result Turn Fault). StopsIf r old new fault) same_input stops)

    has_stopped : (fault : Fault) → Ended new fault → new.failed ≡ true → HasStoppedSo fault
    has_stopped fault stops failed = elim (outcome fault stops) [
      | inl stopped ↦ stopped.1
      | inr same ↦ absurd (false_true (ap (λ (h : ReplicaState M). h.failed) same.0 ∙ working) failed)
    ]

    no_turn : (fault : Fault) → Ended new fault → new.failed ≡ false → (new ≡ old) × IsWhy fault
    no_turn fault stops works = elim (outcome fault stops) [ inl stopped ↦ absurd (false_true works stopped.0) | inr same ↦ same ]

    pub stopped_event : (fault : Fault) → Ended new fault → new.failed ≡ true → (here : SeatState P) → here ≡ at.seated → Happens (Stopped new) here
    stopped_event fault stops failed here same = let h = has_stopped fault stops failed in subst (Happens (Stopped new)) (sym same) (h.2, h.3, h.4)

  -- ---- the seat once a turn is counted

  module _ (here : SeatState P) (same : here ≡ at.seated) (new : ReplicaState M) (now : SeatState P) where
    abbrev IsSeatedNow : Type 0
    IsSeatedNow = IsNodeAt machine.begin new now.setup now.part.role

    -- what is known of the part that the seat now knows
    abbrev IsKnown : (SeatState P → Part → Type 0) → SeatState P → Type 0
    IsKnown knows seat = IsNoted (knows seat) seat now

    -- the seat after an event
    is_now : (q : Part) → now ≡ seat_with now.part at.seated → now.part ≡ q → now ≡ seat_with q at.seated
    is_now q after part = after ∙ ap (λ (p : Part). seat_with p at.seated) part

    -- the node of the part after it
    after_event : (part : NodePart) (sends : List Message) → now ≡ seat_with now.part at.seated → now.part ≡ part_after before (OfNode part) sends → RepresentsWhile member new part new.failed → IsSeatedNow
    after_event part sends after is_part represents =
        let sits_then : IsNodeAt machine.begin new setup (OfNode part) = record { member = sits.member; node = part; is = refl; represents = represents } in
        subst (λ (z : SeatState P). IsNodeAt machine.begin new z.setup z.part.role) (sym (is_now (part_after before (OfNode part) sends) after is_part)) sits_then

    module _ (sent : Sent) (noted : IsKnown (Stepped new sent) here) where
      t : IsKnown (Stepped new sent) at.seated
      t = subst (IsKnown (Stepped new sent)) same noted

      pub stepped_seat : IsSeatedNow
      stepped_seat = after_event t.picked.done.part t.picked.done.sends t.after t.picked.is t.picked.represents

      pub stepped_state : old.failed ≡ false → Turned new sent → IsTurn machine.next machine.answers machine.begin seat input (with_failures new.disk.failures now) sent
      stepped_state working turns = record {
        given = t.picked.given;
        gives = t.picked.gives;
        node = t.picked.node;
        was = t.picked.was;
        done = t.picked.done;
        results = t.picked.results;
        after = λ i. with_failures (failures_stay working new (input_effect machine.next machine.answers old input) sent turns i) (is_now _ t.after t.picked.is i);
        describes = t.picked.describes;
      }

    module _ (noted : IsKnown (Stopped new) here) where
      cut : IsKnown (Stopped new) at.seated
      cut = subst (IsKnown (Stopped new)) same noted

      pub stopped_seat : IsSeatedNow
      stopped_seat = after_event cut.picked.done.part cut.picked.done.sends cut.after cut.picked.is cut.picked.represents

      pub stopped_state : (working : old.failed ≡ false) (fault : Fault) → Ended new fault → new.failed ≡ true
          → IsCutTurn machine.next machine.answers machine.begin seat input (with_failures new.disk.failures now) fault
      stopped_state working fault stops failed = record {
        device = (has_stopped working new fault stops failed).0;
        failed = (has_stopped working new fault stops failed).1;
        given = cut.picked.given;
        gives = cut.picked.gives;
        node = cut.picked.node;
        was = cut.picked.was;
        done = cut.picked.done;
        cut = cut.picked.cut;
        after = ap (with_failures new.disk.failures) (is_now _ cut.after cut.picked.is);
      }

  -- ---- the seat where nothing happened

  pub unstepped_state : (working : old.failed ≡ false) (new : ReplicaState M) (fault : Fault) → Ended new fault → new.failed ≡ false
      → IsNoTurn machine.next machine.answers machine.begin seat input (with_failures new.disk.failures at.seated) fault
  unstepped_state working new fault stops works = record {
    unchanged = ap (λ (h : ReplicaState M). with_failures h.disk.failures at.seated) (no_turn working new fault stops works).0;
    given = is.given;
    gives = is.gives;
    node = sits.node;
    was = sits.is;
    why = (no_turn working new fault stops works).1;
  }
