-- Events one after another, and what they lead to, as a computation.
use Rattle.std.proofs.Common.{◌≡◌, ℕ, Option, Some, None, Result, Ok, Err, List, [], ◌∷◌, ◌++◌, map, inl, inr, refl, sym, ap, subst}
use Rattle.std.specs.Prelude.{unwrap_or}
use Rattle.rp_base.specs.Records.{applied_of}
use Rattle.rp_base.specs.Sets.{Has}
use Rattle.rp_base.specs.declared.action.Action.{Action}
use Rattle.rp_base.specs.declared.fault.Fault.{Fault}
use Rattle.rp_base.specs.declared.reply.Answer.{Answer}
use Rattle.rp_model.specs.Answers.{Happen}
use Rattle.rp_model.specs.Effect.{Setting}
use Rattle.rp_model.specs.Events.{Event, IsRightEvent, Makes, Deliver}
use Rattle.rp_model.specs.Parts.{NodePart, TaskPart}
use Rattle.rp_model.specs.World.{World, Transition, event_effect, part_at}
use Rattle.rp_possible.specs.Possible.{HasReplies, HasAppliedAll}

some_same : {A : Type 0} {x y : A} → Some x ≡ Some y → x ≡ y
some_same {A} {x} {y} e = ap (λ (o : Option A). unwrap_or o x) e

-- ---- what events lead to

-- the world after an event, unless it was refused
abbrev pub world_of : Result Transition Fault → Option World
world_of (Ok transition) = Some transition.world
world_of (Err fault) = None

-- the transition that leads to it
leads : (r : Result Transition Fault) (after : World) → world_of r ≡ Some after → (t : Transition) × (r ≡ Ok t) × (t.world ≡ after)
leads (Ok t) after is = (t, refl, some_same is)
leads (Err fault) after is = absurd (cc)

module _ {S : Type 0} (s : Setting S) where
  -- the world that an event leads to from one, if there is one
  abbrev pub then_world : Option World → Event → Option World
  then_world None event = None
  then_world (Some w) event = world_of (event_effect s w event)

  -- the world that these events lead to from one, unless one is refused
  abbrev pub played : Option World → List Event → Option World
  played o [] = o
  played o (event ∷ rest) = played (then_world o event) rest

  first_leads : (o : Option World) (event : Event) (rest : List Event) (middle after : World) → then_world o event ≡ Some middle → Happen s middle rest after
      → (w : World) × (o ≡ Some w) × Happen s w (event ∷ rest) after
  first_leads None event rest middle after is on = absurd (cc)
  first_leads (Some w) event rest middle after is on =
      let first = leads (event_effect s w event) middle is in
      (w, refl, (first.0, first.1, subst (λ (v : World). Happen s v rest after) (sym first.2) on))

  happens_from : (o : Option World) (events : List Event) (after : World) → played o events ≡ Some after → (w : World) × (o ≡ Some w) × Happen s w events after
  happens_from o [] after is = (after, is, refl)
  happens_from o (event ∷ rest) after is =
      let more = happens_from (then_world o event) rest after is in
      first_leads o event rest more.0 after more.1 more.2

  pub happens : (w : World) (events : List Event) (after : World) → played (Some w) events ≡ Some after → Happen s w events after
  happens w events after is =
      let from = happens_from (Some w) events after is in
      subst (λ (v : World). Happen s v events after) (sym (some_same from.1)) from.2

-- ---- the replies of a task

abbrev pub replies_of : Option TaskPart → Option (List Answer)
replies_of None = None
replies_of (Some part) = Some part.replies

abbrev pub replies_in : Option World → ℕ → Option (List Answer)
replies_in None task = None
replies_in (Some w) task = replies_of (part_at w.tasks task)

has_part : (o : Option TaskPart) (answers : List Answer) → replies_of o ≡ Some answers → (part : TaskPart) × (o ≡ Some part) × (part.replies ≡ answers)
has_part None answers is = absurd (cc)
has_part (Some part) answers is = (part, refl, some_same is)

-- in the world that was led to the task has these replies
pub has_replies : (o : Option World) (task : ℕ) (answers : List Answer) → replies_in o task ≡ Some answers → (w : World) × (o ≡ Some w) × HasReplies w task answers
has_replies None task answers is = absurd (cc)
has_replies (Some w) task answers is = (w, refl, has_part (part_at w.tasks task) answers is)

-- ---- what a node has applied

abbrev pub applied_by : Option NodePart → Option (List Action)
applied_by None = None
applied_by (Some part) = Some (applied_of part.records)

abbrev pub applied_in : Option World → ℕ → Option (List Action)
applied_in None node = None
applied_in (Some w) node = applied_by (part_at w.nodes node)

has_node : (o : Option NodePart) (actions : List Action) → applied_by o ≡ Some actions → (part : NodePart) × (o ≡ Some part) × (applied_of part.records ≡ actions)
has_node None actions is = absurd (cc)
has_node (Some part) actions is = (part, refl, some_same is)

pub has_applied : (o : Option World) (node : ℕ) (actions : List Action) → applied_in o node ≡ Some actions → (w : World) × (o ≡ Some w) × HasAppliedAll w node actions
has_applied None node actions is = absurd (cc)
has_applied (Some w) node actions is = (w, refl, has_node (part_at w.nodes node) actions is)

-- ---- right events

-- each of some events that are all right is right
abbrev pub AllRight : List Event → Type 0
AllRight [] = Unit {0}
AllRight (event ∷ rest) = IsRightEvent event × AllRight rest

pub each_right : (events : List Event) → AllRight events → (event : Event) → Has event events → IsRightEvent event
each_right [] all event there = absurd there
each_right (first ∷ rest) all event there = elim there [ inl same ↦ subst IsRightEvent (sym same) all.0 | inr later ↦ each_right rest all.1 event later ]

pub right_on : (events more : List Event) → AllRight events → AllRight more → AllRight (events ++ more)
right_on [] more all on = on
right_on (event ∷ rest) more all on = (all.0, right_on rest more all.1 on)

-- the deliveries of packets of these numbers
abbrev pub deliveries : List ℕ → List Event
deliveries numbers = map (λ number. Makes (Deliver number)) numbers

pub right_deliveries : (numbers : List ℕ) → AllRight (deliveries numbers)
right_deliveries [] = tt
right_deliveries (number ∷ rest) = (tt, right_deliveries rest)
