-- Pending steps stay steps whatever others send, and the first ones become events.
use Rattle.std.proofs.Common.{◌≡◌, ℕ, zero, suc, Bool, true, false, Option, Some, None, Ok, List, [], ◌∷◌, ◌++◌, length, inl, inr, refl, sym, ap, subst, ◌∙◌, append_assoc, arith}
use Rattle.std.specs.Prelude.{slice_get, slice_set, unwrap_or}
use Rattle.std.proofs.lemmas.Bool.{cases_Bool, eqb-true}
use Rattle.std.proofs.lemmas.List.{append-nil}
use Rattle.rp_store.specs.rp_base.specs.Number.{IsNode}
use Rattle.rp_store.specs.rp_base.specs.Sets.{Has}
use Rattle.rp_store.specs.rp_base.proofs.Members.{has_split, has_left, has_right}
use Rattle.rp_store.specs.rp_codec.specs.Message.{Message}
use Rattle.rp_store.specs.rp_codec.specs.declared.packet.Party.{Party}
use Rattle.rp_store.specs.rp_codec.specs.declared.packet.Party.TheVariants as parties
use Rattle.rp_agreement.specs.rp_model.specs.Effect as nodes
use Rattle.rp_agreement.specs.rp_model.specs.Effect.{Setting, Done, NodeInput, node_effect, effect_while, running_effect, turn_done, turn_done_if}
use Rattle.rp_agreement.specs.rp_model.specs.Events.{Event, Step, Deliver, Lead, LeadRange, Interrupt, Tick, Report, Ask, Makes, IsRightEvent, IsRightStep}
use Rattle.rp_agreement.specs.rp_model.specs.Parts.{NodePart, Running, Turn}
use Rattle.rp_agreement.specs.rp_model.specs.Receiving.{is_node, is_for_node, receives}
use Rattle.rp_agreement.specs.rp_model.specs.Node.{running_node}
use Rattle.rp_agreement.specs.rp_model.specs.Plans.{turn_of}
use Rattle.rp_agreement.specs.rp_model.specs.declared.effect.Dropped.TheVariants.{Foreign}
use Rattle.rp_agreement.specs.rp_model.specs.declared.plan.Plan.{Plan}
use Rattle.rp_agreement.specs.rp_model.specs.declared.plan.Plan.TheVariants as plans
use Rattle.rp_agreement.specs.rp_model.specs.World.{World, Transition, part_at, opening_world, event_effect, node_done, node_done_if, delivers, NodeTakes, commanded, reaches_node, reaches_number, reaches, chosen, chosen_effect}
use Rattle.rp_agreement.specs.History.{IsHistory}
use Rattle.rp_agreement.specs.Order.{AllSent}
use Rattle.rp_agreement.proofs.Lists.{has_get}
use Rattle.rp_agreement.proofs.PartPlaces.{part_below, put_there, put_beside}
use Rattle.rp_agreement.proofs.Playing.{happen_on}
use Rattle.rp_agreement.specs.Ranges.{IsRangedWorld}
use Rattle.rp_installations.specs.Pending.{PendingStep, MayCome, AreSteps, after_steps, noted_by, noted_in}
use Rattle.rp_installations.specs.Making.{notes_of, AreAmong, GoesOnTo, Made}
use Rattle.rp_store.specs.rp_base.specs.declared.action.Action.{Action}

-- ---- what others send

comes_later : (sent later : List Message) (input : NodeInput) → AllSent sent later → MayCome sent input → MayCome later input
comes_later sent later (nodes.Receive message) all may = all message may
comes_later sent later _ all may = may

pub steps_stay : {S : Type 0} (s : Setting S) (sent later : List Message) (me : ℕ) (part : NodePart) (steps : List PendingStep) → AllSent sent later → AreSteps s sent me part steps → AreSteps s later me part steps
steps_stay s sent later me part [] all are = tt
steps_stay s sent later me part (step ∷ rest) all are =
    (comes_later sent later step.input all are.0, are.1, steps_stay s sent later me (turn_done part step.turn).part rest all are.2)

-- ---- a part that is put where it was

set_same : {A : Type 0} (xs : List A) (i : ℕ) (a : A) → slice_get xs i ≡ Some a → slice_set xs i a ≡ xs
set_same [] i a e = refl
set_same {A} (x ∷ xs) zero a e =
    let same : x ≡ a = ap (λ (o : Option A). unwrap_or o x) e in
    ap (λ (y : A). y ∷ xs) (sym same)
set_same {A} (x ∷ xs) (suc i) a e = ap (λ (ys : List A). x ∷ ys) (set_same xs i a e)

-- ---- events after a history

module _ {S : Type 0} (s : Setting S) (events : List Event) (w : World) (history : IsHistory s events w) where
  pub goes_on : (event : Event) (transition : Transition) → IsRightEvent event → event_effect s w event ≡ Ok transition → IsHistory s (events ++ event ∷ []) transition.world
  goes_on event transition right effect = record {
    config = history.config;
    right = λ other has. elim (has_split other events (event ∷ []) has) [
      | inl before ↦ history.right other before
      | inr now ↦ elim now [ inl same ↦ subst IsRightEvent (sym same) right | inr none ↦ absurd none ]
    ];
    happened = happen_on s events (event ∷ []) (opening_world s.config.nodes) w transition.world history.happened (transition, effect, refl);
  }

-- nothing more happens
abbrev pub stands_still : {S : Type 0} (s : Setting S) (events : List Event) (w : World) (me : ℕ) (part reached : NodePart) → IsHistory s events w → part_at w.nodes me ≡ Some part → reached ≡ part → GoesOnTo s events w me reached
stands_still s events w me part reached history here same = record {
  more = [];
  world = w;
  history = subst (λ (es : List Event). IsHistory s es w) (sym (append-nil events)) history;
  here = here ∙ ap (λ (p : NodePart). Some p) (sym same);
  others = λ k other. refl;
  tasks = refl;
  sent = λ m has. has;
  noted = [];
  notes = λ event none. absurd none;
}

-- one event of the node more
abbrev pub one_more : {S : Type 0} (s : Setting S) (events : List Event) (w : World) (me : ℕ) (part : NodePart) (done : Done NodePart) (event : Event) → IsHistory s events w → part_at w.nodes me ≡ Some part
    → IsRightEvent event → event_effect s w event ≡ Ok (node_done w me done) → GoesOnTo s events w me done.part
one_more s events w me part done event history here right effect = record {
  more = event ∷ [];
  world = (node_done w me done).world;
  history = goes_on s events w history event (node_done w me done) right effect;
  here = put_there w.nodes me part done.part here;
  others = λ k other. put_beside w.nodes me k done.part other;
  tasks = refl;
  sent = λ m has. has_left m w.sent done.sends has;
  noted = notes_of event;
  notes = λ other has v there. elim has [ inl same ↦ subst (λ (e : Event). Has v (notes_of e)) same there | inr none ↦ absurd none ];
}

-- and then others
abbrev pub leads_on : {S : Type 0} (s : Setting S) (events : List Event) (w : World) (me : ℕ) (middle reached : NodePart) (first : GoesOnTo s events w me middle) → GoesOnTo s (events ++ first.more) first.world me reached → GoesOnTo s events w me reached
leads_on s events w me middle reached first second = record {
  more = first.more ++ second.more;
  world = second.world;
  history = subst (λ (es : List Event). IsHistory s es second.world) (append_assoc events first.more second.more) second.history;
  here = second.here;
  others = λ k other. second.others k other ∙ first.others k other;
  tasks = second.tasks ∙ first.tasks;
  sent = λ m has. second.sent m (first.sent m has);
  noted = first.noted ++ second.noted;
  notes = λ event has v there. elim (has_split event first.more second.more has) [
    | inl old ↦ has_left v first.noted second.noted (first.notes event old v there)
    | inr new ↦ has_right v first.noted second.noted (second.notes event new v there)
  ];
}

-- what two lists have among the others, both have joined
pub joined_among : (some more others : List Action) → AreAmong some others → AreAmong more others → AreAmong (some ++ more) others
joined_among some more others first second = λ v has. elim (has_split v some more has) [ inl old ↦ first v old | inr new ↦ second v new ]

pub noted_append : (xs ys : List PendingStep) → noted_in (xs ++ ys) ≡ noted_in xs ++ noted_in ys
noted_append [] ys = refl
noted_append (x ∷ xs) ys = ap (λ (l : List Action). noted_by x.input ++ l) (noted_append xs ys) ∙ sym (append_assoc (noted_by x.input) (noted_in xs) (noted_in ys))

-- ---- the event of a step

-- its step, where the packet has this number
abbrev pub step_for : ℕ → ℕ → NodeInput → Step
step_for me number (nodes.Receive message) = Deliver number
step_for me number (nodes.Lead choice) = Lead me choice
step_for me number (nodes.LeadRange first count) = LeadRange me first count
step_for me number (nodes.Interrupt source occurrence) = Interrupt me source occurrence
step_for me number (nodes.Tick now) = Tick me now
step_for me number (nodes.Report first) = Report me first
step_for me number (nodes.Ask to) = Ask me to

-- its event notes what the input does
notes_same : (me number : ℕ) (input : NodeInput) → notes_of (Makes (step_for me number input)) ≡ noted_by input
notes_same me number (nodes.Receive message) = refl
notes_same me number (nodes.Lead choice) = refl
notes_same me number (nodes.LeadRange first count) = refl
notes_same me number (nodes.Interrupt source occurrence) = refl
notes_same me number (nodes.Tick now) = refl
notes_same me number (nodes.Report first) = refl
notes_same me number (nodes.Ask to) = refl

-- a node that has an effect runs
runs_if : {S : Type 0} (s : Setting S) (me : ℕ) (part : NodePart) (input : NodeInput) (done : Done NodePart) (running : Option Running) → part.running ≡ running → effect_while s me part input running ≡ Ok done → (known : Running) × (part.running ≡ Some known)
runs_if s me part input done None is effect = absurd (cc)
runs_if s me part input done (Some known) is effect = (known, is)

-- whether the packet is for this node
abbrev pub IsFor : ℕ → NodeInput → Bool → Type 0
IsFor me (nodes.Receive message) b = is_node me message.to ≡ b
IsFor me _ b = Unit {0}

pub party_is : (me : ℕ) (party : Party) → is_node me party ≡ true → party ≡ parties.Node me
party_is me (parties.Node k) e = ap (λ (n : ℕ). parties.Node n) (eqb-true k me e)
party_is me (parties.Task t) e = absurd (cc)
party_is me parties.Audit e = absurd (cc)

module _ {S : Type 0} (s : Setting S) (w : World) (me : ℕ) (part : NodePart) (here : part_at w.nodes me ≡ Some part) where
  -- a step that is for the node, which runs, is that node's
  pub its_step : (input : NodeInput) (known : Running) → MayCome w.sent input → IsFor me input true → part.running ≡ Some known
      → (number : ℕ) × (chosen w (step_for me number input) ≡ NodeTakes me part input)
  its_step (nodes.Receive message) known may is runs =
      let found = has_get w.sent message may in (
        suc found.0,
        ap (delivers w) found.1
            ∙ ap (reaches w message) (party_is me message.to is)
            ∙ ap (reaches_number me message) here
            ∙ ap (reaches_node me message part) runs,
      )
  its_step (nodes.Lead choice) known may is runs = (0, ap (commanded me (nodes.Lead choice)) here)
  its_step (nodes.LeadRange first count) known may is runs = (0, ap (commanded me (nodes.LeadRange first count)) here)
  its_step (nodes.Interrupt source occurrence) known may is runs = (0, ap (commanded me (nodes.Interrupt source occurrence)) here)
  its_step (nodes.Tick now) known may is runs = (0, ap (commanded me (nodes.Tick now)) here)
  its_step (nodes.Report first) known may is runs = (0, ap (commanded me (nodes.Report first)) here)
  its_step (nodes.Ask to) known may is runs = (0, ap (commanded me (nodes.Ask to)) here)

  -- the event of a step that is for the node
  event_is : (input : NodeInput) (done : Done NodePart) → MayCome w.sent input → IsFor me input true → node_effect s me part input ≡ Ok done
      → (number : ℕ) × (event_effect s w (Makes (step_for me number input)) ≡ Ok (node_done w me done))
  event_is input done may is effect =
      let runs = runs_if s me part input done part.running refl effect in
      let chose = its_step input runs.0 may is runs.1 in
      (chose.0, ap (chosen_effect s w) chose.1 ∙ ap (node_done_if w me) effect)

pub right_step : (sent : List Message) (me number : ℕ) (input : NodeInput) → IsNode me → MayCome sent input → IsRightStep (step_for me number input)
right_step sent me number (nodes.Receive message) node may = tt
right_step sent me number (nodes.Lead choice) node may = (node, may)
right_step sent me number (nodes.LeadRange first count) node may = (node, may.0, may.1)
right_step sent me number (nodes.Interrupt source occurrence) node may = (node, may.0, may.1)
right_step sent me number (nodes.Tick now) node may = (node, may)
right_step sent me number (nodes.Report first) node may = (node, may)
right_step sent me number (nodes.Ask to) node may = (node, may)

-- ---- a packet that is for another

-- an input that is not for the node changes nothing
pub record IsLost (part : NodePart) (turn : Turn) : Type 0 where
  pub part_is : (turn_done part turn).part ≡ part
  pub written : turn.written ≡ None
  pub sent : turn.sent ≡ []

not_for : {S : Type 0} (s : Setting S) (me : ℕ) (part : NodePart) (known : Running) (message : Message) → is_node me message.to ≡ false
    → receives (running_node s me part.records known) message ≡ plans.Pass Foreign
not_for s me part known message e = let h : is_for_node s.config me message ≡ false = rw e in rw h

pub lost : {S : Type 0} (s : Setting S) (me : ℕ) (part : NodePart) (turn : Turn) (message : Message) → is_node me message.to ≡ false → node_effect s me part (nodes.Receive message) ≡ Ok (turn_done part turn) → IsLost part turn
lost s me part turn message e effect =
    let runs = runs_if s me part (nodes.Receive message) (turn_done part turn) part.running refl effect in
    let known = runs.0 in
    let node = running_node s me part.records known in
    let done : effect_while s me part (nodes.Receive message) (Some known) ≡ Ok (turn_done part turn) = sym (ap (effect_while s me part (nodes.Receive message)) runs.1) ∙ effect in
    let foreign : Turn = turn_of node (plans.Pass Foreign) in
    let dropped : turn_done_if part (Ok foreign) ≡ Ok (turn_done part turn) = sym (ap (λ (p : Plan). turn_done_if part (Ok (turn_of node p))) (not_for s me part known message e)) ∙ done in
    let same : turn_done part foreign ≡ turn_done part turn = cc in
    record {
      part_is = sym (ap (λ (d : Done NodePart). d.part) same) ∙ ap (λ (o : Option Running). let p : NodePart = record { records = part.records; torn = part.torn; running = o } in p) (sym runs.1);
      written = sym (ap (λ (d : Done NodePart). d.written) same);
      sent = sym (ap (λ (d : Done NodePart). d.sends) same);
    }

-- ---- one step, and the first of several

module _ {S : Type 0} (s : Setting S) (ranged : (events : List Event) (w : World) → IsHistory s events w → IsRangedWorld s.config.nodes w) where
  pub node_here : (events : List Event) (w : World) (me : ℕ) (part : NodePart) → IsHistory s events w → part_at w.nodes me ≡ Some part → IsNode me
  node_here events w me part history here =
      let place = part_below w.nodes me part here in
      let size : length w.nodes ≡ s.config.nodes = (ranged events w history).size in
      (place.0, omega (arith, place.1, size, history.config.nodes.1))

  -- a step is an event, or is lost
  pub record OneMade (events : List Event) (w : World) (me : ℕ) (part : NodePart) (input : NodeInput) (turn : Turn) : Type 0 where
    pub leads : GoesOnTo s events w me (turn_done part turn).part
    pub noted : AreAmong leads.noted (noted_by input)
    pub sends : (m : Message) → Has m turn.sent → Has m leads.world.sent

  module _ (events : List Event) (w : World) (me : ℕ) (part : NodePart) (history : IsHistory s events w) (here : part_at w.nodes me ≡ Some part) where
    happens : (input : NodeInput) (turn : Turn) → MayCome w.sent input → IsFor me input true → node_effect s me part input ≡ Ok (turn_done part turn) → OneMade events w me part input turn
    happens input turn may is effect =
        let event = event_is s w me part here input (turn_done part turn) may is effect in
        record {
          leads = one_more s events w me part (turn_done part turn) (Makes (step_for me event.0 input)) history here (right_step w.sent me event.0 input (node_here events w me part history here) may) event.1;
          noted = λ v has. subst (λ (l : List Action). Has v l) (notes_same me event.0 input) has;
          sends = λ m has. has_right m w.sent turn.sent has;
        }

    loses : (input : NodeInput) (turn : Turn) → IsLost part turn → OneMade events w me part input turn
    loses input turn is = record {
      noted = λ v none. absurd none;
      leads = stands_still s events w me part (turn_done part turn).part history here is.part_is;
      sends = λ m has. absurd (subst (λ (ms : List Message). Has m ms) is.sent has);
    }

    pub one_made : (input : NodeInput) (turn : Turn) → MayCome w.sent input → node_effect s me part input ≡ Ok (turn_done part turn) → OneMade events w me part input turn
    one_made (nodes.Receive message) turn may effect =
        elim (cases_Bool (is_node me message.to)) [
          | inl own ↦ happens (nodes.Receive message) turn may own effect
          | inr foreign ↦ loses (nodes.Receive message) turn (lost s me part turn message foreign effect)
        ]
    one_made (nodes.Lead choice) turn may effect = happens (nodes.Lead choice) turn may tt effect
    one_made (nodes.LeadRange first count) turn may effect = happens (nodes.LeadRange first count) turn may tt effect
    one_made (nodes.Interrupt source occurrence) turn may effect = happens (nodes.Interrupt source occurrence) turn may tt effect
    one_made (nodes.Tick now) turn may effect = happens (nodes.Tick now) turn may tt effect
    one_made (nodes.Report first) turn may effect = happens (nodes.Report first) turn may tt effect
    one_made (nodes.Ask to) turn may effect = happens (nodes.Ask to) turn may tt effect

  pub made : (front back : List PendingStep) (events : List Event) (w : World) (me : ℕ) (part : NodePart) → IsHistory s events w → part_at w.nodes me ≡ Some part → AreSteps s w.sent me part (front ++ back) → Made s events w me part front back
  made [] back events w me part history here are = record {
    leads = stands_still s events w me part part history here refl;
    pending = are;
    packets = λ step none. absurd none;
    noted = λ v none. absurd none;
  }
  made (step ∷ front) back events w me part history here are =
      let one = one_made events w me part history here step.input step.turn are.0 are.1 in
      let later = steps_stay s w.sent one.leads.world.sent me (turn_done part step.turn).part (front ++ back) one.leads.sent are.2 in
      let rest = made front back (events ++ one.leads.more) one.leads.world me (turn_done part step.turn).part one.leads.history one.leads.here later in
      record {
        leads = leads_on s events w me (turn_done part step.turn).part (after_steps (turn_done part step.turn).part front) one.leads rest.leads;
        pending = rest.pending;
        packets = λ other has. elim has [
          | inl same ↦ λ m there. rest.leads.sent m (one.sends m (subst (λ (st : PendingStep). Has m st.turn.sent) same there))
          | inr later_one ↦ rest.packets other later_one
        ];
        noted = joined_among one.leads.noted rest.leads.noted (noted_in (step ∷ front)) (λ v has. has_left v (noted_by step.input) (noted_in front) (one.noted v has)) (λ v has. has_right v (noted_by step.input) (noted_in front) (rest.noted v has));
      }
