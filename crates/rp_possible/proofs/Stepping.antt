-- A step of a node of the quorum: it leads, or gets a packet.
use Rattle.std.proofs.Common.{◌≡◌, ◌≢◌, ℕ, ◌<◌, ◌≤◌, nat_eq, Option, Some, Result, Ok, List, [], ◌∷◌, ◌++◌, length, if◌then◌else◌, ◌⊎◌, inl, inr, refl, sym, ap, subst, ◌∙◌, arith, length-append}
use Rattle.std.proofs.lemmas.Bool.{cases_eq, eq-eqb, ne_eqb, cond-true, cond-false}
use Rattle.rp_base.specs.Number.{IsNode, IsPosition}
use Rattle.rp_base.specs.Sets.{Has}
use Rattle.rp_base.specs.declared.fault.Fault.{Fault}
use Rattle.rp_base.specs.declared.record.Rec.{Rec}
use Rattle.rp_model.specs.rp_codec.specs.Message.{Message}
use Rattle.rp_model.specs.rp_codec.specs.declared.packet.Party.{Party}
use Rattle.rp_model.specs.rp_codec.specs.declared.packet.Party.TheVariants.{Node}
use Rattle.rp_model.specs.Effect as nodes
use Rattle.rp_model.specs.Effect.{Setting, NodeInput, running_effect, turn_done, turn_done_if}
use Rattle.rp_model.specs.Events.{Event, Makes, Deliver, Lead, IsRightEvent}
use Rattle.rp_model.specs.Parts.{NodePart, Running, Turn, fresh_running, with_record}
use Rattle.rp_model.specs.World.{World, Transition, part_at, event_effect, node_done, node_done_if, chosen_effect, delivers, commanded, reaches, reaches_number}
use Rattle.rp_possible.specs.Rounds.{GoesOnBy, IsTheirs, IsOneOf, ComesInTime, AreRunning}
use Rattle.rp_possible.proofs.Parts.{put_there, put_beside}

-- the node that wrote these records runs and knows this
abbrev pub part_of : List Rec → Running → NodePart
part_of records running = record { records = records; torn = 0; running = Some running }

-- what the node y knows: the leader x knows this
abbrev pub known : ℕ → ℕ → Running → Running
known x y running = if nat_eq y x then running else fresh_running

pub known_self : (x : ℕ) (running : Running) → known x x running ≡ running
known_self x running = cond-true (nat_eq x x) running fresh_running (eq-eqb x x refl)

known_other : (x y : ℕ) (running : Running) → y ≢ x → known x y running ≡ fresh_running
known_other x y running other = cond-false (nat_eq y x) running fresh_running (ne_eqb y x other)

-- the records, with what the node y wrote
abbrev pub with_written : (ℕ → List Rec) → ℕ → Option Rec → ℕ → List Rec
with_written now y written z = if nat_eq z y then with_record (now z) written else now z

pub written_self : (now : ℕ → List Rec) (y : ℕ) (written : Option Rec) → with_written now y written y ≡ with_record (now y) written
written_self now y written = cond-true (nat_eq y y) (with_record (now y) written) (now y) (eq-eqb y y refl)

pub written_other : (now : ℕ → List Rec) (y : ℕ) (written : Option Rec) (z : ℕ) → z ≢ y → with_written now y written z ≡ now z
written_other now y written z other = cond-false (nat_eq z y) (with_record (now z) written) (now z) (ne_eqb z y other)

-- ---- the effect

module _ {S : Type 0} (s : Setting S) (w : World) (y : ℕ) (records : List Rec) (running : Running) (turn : Turn) (here : part_at w.nodes y ≡ Some (part_of records running)) where
  pub gets : (number : ℕ) (m : Message) → part_at w.sent number ≡ Some m → m.to ≡ Node y → running_effect s y records running (nodes.Receive m) ≡ Ok turn
      → event_effect s w (Makes (Deliver number)) ≡ Ok (node_done w y (turn_done (part_of records running) turn))
  gets number m sent to result =
      ap (λ (o : Option Message). chosen_effect s w (delivers w o)) sent
      ∙ ap (λ (p : Party). chosen_effect s w (reaches w m p)) to
      ∙ ap (λ (o : Option NodePart). chosen_effect s w (reaches_number y m o)) here
      ∙ ap (λ (r : Result Turn Fault). node_done_if w y (turn_done_if (part_of records running) r)) result

  leads : (choice : Option ℕ) → running_effect s y records running (nodes.Lead choice) ≡ Ok turn
      → event_effect s w (Makes (Lead y choice)) ≡ Ok (node_done w y (turn_done (part_of records running) turn))
  leads choice result =
      ap (λ (o : Option NodePart). chosen_effect s w (commanded y (nodes.Lead choice) o)) here
      ∙ ap (λ (r : Result Turn Fault). node_done_if w y (turn_done_if (part_of records running) r)) result

-- ---- what the nodes wrote and know afterwards

-- The input gives this turn at the node y, after which the leader x knows this.
pub record Turns {S : Type 0} (s : Setting S) (x y : ℕ) (now : ℕ → List Rec) (before after : Running) (input : NodeInput) (turn : Turn) : Type 0 where
  pub result : running_effect s y (now y) (known x y before) input ≡ Ok turn
  pub becomes : turn.running ≡ known x y after
  pub others : (y ≡ x) ⊎ (after ≡ before)

module _ {S : Type 0} (s : Setting S) (quorum : List ℕ) (x y : ℕ) (now : ℕ → List Rec) (before after : Running) (input : NodeInput) (turn : Turn) (turns : Turns s x y now before after input turn) where
  same_known : (z : ℕ) → z ≢ y → known x z before ≡ known x z after
  same_known z other =
      elim turns.others [
        | inl leader ↦
            let apart : z ≢ x = λ e. other (e ∙ sym leader) in
            known_other x z before apart ∙ sym (known_other x z after apart)
        | inr same ↦ ap (known x z) (sym same)
      ]

  are_after : (w : World) → Has y quorum → AreRunning w quorum x now before
      → AreRunning (node_done w y (turn_done (part_of (now y) (known x y before)) turn)).world quorum x (with_written now y turn.written) after
  are_after w has are =
      let part = part_of (now y) (known x y before) in
      let done = turn_done part turn in
      record {
        each = λ z h. elim (cases_eq z y) [
          | inl same ↦
              subst (λ (k : ℕ). part_at (node_done w y done).world.nodes k ≡ Some (part_of (with_written now y turn.written k) (known x k after))) (sym same)
              (put_there w.nodes y part done.part (are.each y has)
              ∙ ap (λ (r : List Rec). Some (part_of r turn.running)) (sym (written_self now y turn.written))
              ∙ ap (λ (r : Running). Some (part_of (with_written now y turn.written y) r)) turns.becomes)
          | inr other ↦
              put_beside w.nodes y z done.part other ∙ are.each z h
              ∙ ap (λ (r : List Rec). Some (part_of r (known x z before))) (sym (written_other now y turn.written z other))
              ∙ ap (λ (r : Running). Some (part_of (with_written now y turn.written z) r)) (same_known z other)
        ];
      }

-- ---- one event more

module _ {S : Type 0} (s : Setting S) (quorum : List ℕ) (t first x : ℕ) (from : World) where
  -- Some events of the quorum led from a world to this one, in which the nodes wrote and know this.
  pub record IsOn (w : World) (now : ℕ → List Rec) (running : Running) : Type 0 where
    pub events : List Event
    pub goes_on : GoesOnBy s quorum t first from events w
    pub tasks : w.tasks ≡ from.tasks
    pub are : AreRunning w quorum x now running
    pub grows : length from.sent ≤ length w.sent

  -- the same after a step that sends these packets
  pub record IsMoved (w : World) (packets : List Message) (now : ℕ → List Rec) (running : Running) : Type 0 where
    pub after : World
    pub on : IsOn after now running
    pub sent : after.sent ≡ w.sent ++ packets

  goes_further : (events : List Event) (start w : World) (event : Event) (transition : Transition) → GoesOnBy s quorum t first start events w
      → event_effect s w event ≡ Ok transition → IsRightEvent event → IsTheirs quorum t first w event → GoesOnBy s quorum t first start (events ++ event ∷ []) transition.world
  goes_further [] start w event transition goes is right theirs =
      subst (λ (v : World). GoesOnBy s quorum t first v (event ∷ []) transition.world) goes (transition, is, right, theirs, refl)
  goes_further (one ∷ rest) start w event transition goes is right theirs =
      (goes.0, goes.1, goes.2, goes.3, goes_further rest goes.0.world w event transition goes.4 is right theirs)

  module _ (w : World) (now : ℕ → List Rec) (before after : Running) (y : ℕ) (input : NodeInput) (turn : Turn) (on : IsOn w now before) (has : Has y quorum) (turns : Turns s x y now before after input turn) where
    moves : (event : Event) → event_effect s w event ≡ Ok (node_done w y (turn_done (part_of (now y) (known x y before)) turn)) → IsRightEvent event → IsTheirs quorum t first w event
        → IsMoved w turn.sent (with_written now y turn.written) after
    moves event is right theirs = record {
      after = (node_done w y (turn_done (part_of (now y) (known x y before)) turn)).world;
      on = record {
        events = on.events ++ event ∷ [];
        goes_on = goes_further on.events from w event (node_done w y (turn_done (part_of (now y) (known x y before)) turn)) on.goes_on is right theirs;
        tasks = on.tasks;
        are = are_after s quorum x y now before after input turn turns w has on.are;
        grows = omega (arith, on.grows, length-append w.sent turn.sent);
      };
      sent = refl;
    }

  -- a packet is delivered
  pub delivered : (w : World) (now : ℕ → List Rec) (before after : Running) (y number : ℕ) (m : Message) (turn : Turn) → IsOn w now before → Has y quorum
      → first < number → part_at w.sent number ≡ Some m → m.to ≡ Node y → ComesInTime w m.to m.body → Turns s x y now before after (nodes.Receive m) turn
      → IsMoved w turn.sent (with_written now y turn.written) after
  delivered w now before after y number m turn on has new sent to in_time turns =
      moves w now before after y (nodes.Receive m) turn on has turns (Makes (Deliver number))
      (gets s w y (now y) (known x y before) turn (on.are.each y has) number m sent to turns.result) tt
      (new, (m, sent, subst (IsOneOf quorum t) (sym to) has, in_time))

  -- the leader leads at a position
  pub led : (w : World) (now : ℕ → List Rec) (before after : Running) (p : ℕ) (turn : Turn) → IsOn w now before → Has x quorum → IsNode x → IsPosition p
      → Turns s x x now before after (nodes.Lead (Some p)) turn → IsMoved w turn.sent (with_written now x turn.written) after
  led w now before after p turn on has node position turns =
      moves w now before after x (nodes.Lead (Some p)) turn on has turns (Makes (Lead x (Some p)))
      (leads s w x (now x) (known x x before) turn (on.are.each x has) (Some p) turns.result) (node, position) has
