-- How a history goes on by events of some nodes and one task alone, and what a round of a leader is
-- that way.
use Rattle.std.specs.Prelude.{◌≡◌, ◌≢◌, ℕ, suc, ◌<◌, ◌≤◌, nat_eq, Some, None, Ok, List, [], ◌∷◌}
use Rattle.std.specs.Prelude.{◌++◌, length, filter, drop, if◌then◌else◌}
use Rattle.rp_base.specs.Ballot.{round_of}
use Rattle.rp_base.specs.Majority.{AreNodes, majority_of}
use Rattle.rp_base.specs.Records.{applied_of, first_unlearned, last_vote_at}
use Rattle.rp_base.specs.Sets.{Has}
use Rattle.rp_base.specs.declared.action.Action.{Action}
use Rattle.rp_base.specs.declared.record.Rec.{Rec}
use Rattle.rp_base.specs.declared.record.Rec.TheVariants.{Started, Promised, Voted, Learned}
use Rattle.rp_base.specs.declared.record.Rec.TheVariants.{PromisedRange}
use Rattle.rp_base.specs.declared.reply.Answer.{Answer}
use Rattle.rp_model.specs.rp_codec.specs.Message.{Message}
use Rattle.rp_model.specs.rp_codec.specs.declared.packet.Party.{Party}
use Rattle.rp_model.specs.rp_codec.specs.declared.packet.Party.TheVariants.{Node, Task, Audit}
use Rattle.rp_model.specs.rp_codec.specs.declared.packet.Body.{Body}
use Rattle.rp_model.specs.rp_codec.specs.declared.packet.Body.TheVariants.{Call}
use Rattle.rp_model.specs.rp_machine.specs.Replay.{counted_of, replay_answers}
use Rattle.rp_model.specs.Effect.{Setting}
use Rattle.rp_model.specs.Events.{Step, Deliver, Lead, LeadRange, Interrupt, Tick, Report, Ask}
use Rattle.rp_model.specs.Events.{Event, Submit, Again, Makes, Cut, Stop, Restart, IsRightEvent}
use Rattle.rp_model.specs.Facts.{IsDecided}
use Rattle.rp_model.specs.Parts.{NodePart, Running, fresh_running}
use Rattle.rp_model.specs.Pending.{own_action, stays, replies_to}
use Rattle.rp_model.specs.World.{World, Transition, event_effect, part_at}

-- the party is one of these nodes, or this task
abbrev pub IsOneOf : List ℕ → ℕ → Party → Type 0
IsOneOf quorum t (Node k) = Has k quorum
IsOneOf quorum t (Task u) = u ≡ t
IsOneOf quorum t Audit = ⊥

-- the node has learned all that is decided: nothing is at the first position that it has not learned
abbrev pub HasLearnedAll : World → ℕ → Type 0
HasLearnedAll w k =
    (part : NodePart) → part_at w.nodes k ≡ Some part → (v : Action)
    → ¬ IsDecided (length w.nodes) w.sent (first_unlearned part.records) v

-- so has the party, if it is a node
abbrev pub IsUpToDate : World → Party → Type 0
IsUpToDate w (Node k) = HasLearnedAll w k
IsUpToDate w (Task u) = Unit {0}
IsUpToDate w Audit = Unit {0}

-- what is said to this party is no call, or the party has learned all that is decided
abbrev pub ComesInTime : World → Party → Body → Type 0
ComesInTime w to (Call action) = IsUpToDate w to
ComesInTime w to body = Unit {0}

-- The packet of this number is one sent after the first ones, to one of these nodes or this task;
-- and it comes in time.
abbrev pub DeliversNew : List ℕ → ℕ → ℕ → World → ℕ → Type 0
DeliversNew quorum t first w number =
    (first < number)
    × ((m : Message) × (part_at w.sent number ≡ Some m) × IsOneOf quorum t m.to
    × ComesInTime w m.to m.body)

-- one of these nodes leads, or gets a packet that is sent after the first ones
abbrev pub IsTheirStep : List ℕ → ℕ → ℕ → World → Step → Type 0
IsTheirStep quorum t first w (Deliver number) = DeliversNew quorum t first w number
IsTheirStep quorum t first w (Lead me choice) = Has me quorum
IsTheirStep quorum t first w (LeadRange me position count) = ⊥
IsTheirStep quorum t first w (Interrupt me source occurrence) = ⊥
IsTheirStep quorum t first w (Tick me now) = ⊥
IsTheirStep quorum t first w (Report me position) = ⊥
IsTheirStep quorum t first w (Ask me to) = ⊥

-- The event is one of these nodes or of this task: it asks or asks again, a node stops, starts
-- again, leads or gets a packet. Of packets only those are delivered that were sent after the first
-- ones, and a call only to a node that has learned all that is decided.
abbrev pub IsTheirs : List ℕ → ℕ → ℕ → World → Event → Type 0
IsTheirs quorum t first w (Submit task node object operation arg) = (task ≡ t) × Has node quorum
IsTheirs quorum t first w (Again task node) = (task ≡ t) × Has node quorum
IsTheirs quorum t first w (Makes step) = IsTheirStep quorum t first w step
IsTheirs quorum t first w (Cut step kept) = ⊥
IsTheirs quorum t first w (Stop me) = Has me quorum
IsTheirs quorum t first w (Restart me) = Has me quorum

-- Right events of these nodes and this task lead from one world to another.
abbrev pub GoesOnBy : {S : Type 0} → Setting S → List ℕ → ℕ → ℕ → World → List Event → World
    → Type 0
GoesOnBy s quorum t first w [] after = after ≡ w
GoesOnBy s quorum t first w (event ∷ rest) after =
    (transition : Transition) × (event_effect s w event ≡ Ok transition) × IsRightEvent event
    × IsTheirs quorum t first w event × GoesOnBy s quorum t first transition.world rest after

-- the round of the ballot on a record, 0 where there is none
abbrev pub round_on : Rec → ℕ
round_on (Started ballot) = round_of ballot
round_on (Promised position ballot) = round_of ballot
round_on (Voted position ballot action) = round_of ballot
round_on (Learned position action) = 0
round_on (PromisedRange range ballot) = round_of ballot

-- no ballot on the records is of a round above this one
abbrev pub AreWithinRound : ℕ → List Rec → Type 0
AreWithinRound round records = (rec : Rec) → Has rec records → round_on rec ≤ round

-- ---- a round

-- What the nodes of a quorum wrote, and what they know: the leader x knows this, each other node
-- nothing but its records, as after a restart.
pub record AreRunning (w : World) (quorum : List ℕ) (x : ℕ) (records : ℕ → List Rec)
    (running : Running) : Type 0 where
  pub each : (y : ℕ) → Has y quorum
      → part_at w.nodes y ≡ Some (record {
        records = records y;
        torn = 0;
        running = Some (if nat_eq y x then running else fresh_running);
      })

-- these items are pending, and nothing else is known
abbrev pub only_pending : List Action → Running
only_pending pending = record fresh_running { pending = pending }

module _ {S : Type 0} (s : Setting S) where
  -- the actions that count of what the records have applied
  abbrev pub kept_after : List Rec → List Action
  kept_after records = counted_of s.next s.answers s.begin (applied_of records)

  -- the answers to what the records have applied
  abbrev pub answers_after : List Rec → List Answer
  answers_after records = replay_answers s.next s.answers s.begin (applied_of records)

  -- the items that stay pending once the records grew
  abbrev pub left_pending : List Action → List Rec → List Rec → List Action
  left_pending pending before after =
      let newly = drop (length (applied_of before)) (applied_of after) in
      filter (stays (kept_after after) (answers_after after) newly) pending

  -- the replies to what is pending, once the records grew
  abbrev pub new_replies : ℕ → List Action → List Rec → List Rec → List Message
  new_replies x pending before after =
      replies_to x pending (drop (length (answers_after before)) (answers_after after))

  -- A bare majority of the nodes, of which the leader is one.
  pub record IsBareQuorum (quorum : List ℕ) (x : ℕ) : Type 0 where
    pub nodes : AreNodes s.config.nodes quorum
    pub bare : length quorum ≡ majority_of s.config.nodes
    pub leader : Has x quorum

  -- A round of the leader x: by some events of the quorum it has learned an action at its first
  -- unlearned position, and knows nothing but what is still pending. Nobody voted at another
  -- position, and no ballot was used that is of a round more than one above those before. Where
  -- nobody had voted at the position, the action is the leader's own. The last packets that were
  -- sent are the replies to what was pending and is answered now.
  pub record IsRound (quorum : List ℕ) (t first : ℕ) (w : World) (x : ℕ)
      (records : ℕ → List Rec) (pending : List Action) (round : ℕ) : Type 0 where
    pub events : List Event
    pub after : World
    pub goes_on : GoesOnBy s quorum t first w events after
    pub tasks : after.tasks ≡ w.tasks
    pub v : Action
    pub before : List Rec
    pub applied : applied_of before ≡ applied_of (records x)
    pub later : ℕ → List Rec
    pub learns : later x ≡ before ++ Learned (first_unlearned (records x)) v ∷ []
    pub running : AreRunning after quorum x later
        (only_pending (left_pending pending before (later x)))
    pub votes : (y j : ℕ) → Has y quorum → j ≢ first_unlearned (records x)
        → last_vote_at (later y) j ≡ last_vote_at (records y) j
    pub rounds : (y : ℕ) → Has y quorum → AreWithinRound (suc round) (later y)
    pub own : ((y : ℕ) → Has y quorum
        → last_vote_at (records y) (first_unlearned (records x)) ≡ None)
        → v ≡ own_action (kept_after (records x)) [] pending
    pub sends : List Message
    pub sent : after.sent ≡ sends ++ new_replies x pending before (later x)
    pub grows : length w.sent ≤ length sends
