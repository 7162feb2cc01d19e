-- The seats of a run.
use Rattle.std.specs.Prelude.{◌≡◌, ◌≢◌, ◌⊎◌, ◌≤◌, ◌<◌, ◌+◌, ℕ, zero, suc, min, Bool}
use Rattle.std.specs.Prelude.{None, IfSome, List, [], length}
use Rattle.std.specs.Prelude.{slice_get}
use Rattle.rp_threads.specs.rp_base.specs.Action.{IsIndex, IsCount}
use Rattle.rp_threads.specs.rp_base.specs.declared.action.Action.{Action}
use Rattle.rp_threads.specs.rp_base.specs.declared.reply.Answer.{Answer}
use Rattle.rp_threads.specs.rp_codec.specs.declared.packet.Party.TheVariants.{Node}
use Rattle.rp_board.specs.Seats.{SeatState}
use Rattle.rp_boxes.specs.Audits.{known_of}
use Rattle.rp_boxes.specs.NodeSeats.{HasApplied, IsReport}
use Rattle.rp_boxes.specs.rp_rules.specs.declared.input.Input.{Input}
use Rattle.rp_boxes.specs.rp_rules.specs.declared.input.Input.TheVariants.{Receive, Lead, LeadRange}
use Rattle.rp_boxes.specs.rp_rules.specs.declared.input.Input.TheVariants.{Interrupt}
use Rattle.rp_boxes.specs.rp_rules.specs.declared.input.Input.TheVariants.{Tick, Report, Ask}
use Rattle.rp_threads.specs.rp_replica.specs.declared.sent.Sent.{Sent}
use Rattle.rp_threads.specs.Rounds.{IsNodeFault, Runs}
use Rattle.rp_threads.specs.Turns.{IsOfferedToBox}
use Rattle.rp_threads.specs.declared.loops.NodeEnd.{NodeEnd}

-- an interrupt or a tick, within its ranges
abbrev pub IsNote : Input → Type 0
IsNote (Receive bytes) = ⊥
IsNote (Lead choice) = ⊥
IsNote (LeadRange range) = ⊥
IsNote (Interrupt source occurrence) = IsIndex source × IsCount occurrence
IsNote (Tick now) = Unit {0}
IsNote (Report first) = ⊥
IsNote (Ask to) = ⊥

-- the end of a node's loop that began at a node that ran
abbrev pub HasRunFrom : {M D P : Type 0} → SeatState P → NodeEnd M D P → Type 0
HasRunFrom first end = Runs first.part × IfSome end.fault (IsNodeFault first end.seat)

abbrev pub IsEndOfRun : {M D P : Type 0} → NodeEnd M D P → Type 0
IsEndOfRun {P = P} end = (first : SeatState P) × HasRunFrom first end

-- the node of the loop still runs, where that ended without a fault
abbrev pub StillRuns : {M D P : Type 0} → NodeEnd M D P → Type 0
StillRuns end = end.fault ≡ None → Runs end.seat.part

-- The same seat, whose node made reports alone since: what it is has not changed.
pub record HasOnlyReported {P : Type 0} (old new : SeatState P) : Type 0 where
  pub same : new.setup ≡ old.setup
  pub role : new.part.role ≡ old.part.role

-- the same of the seat at the end of a loop
abbrev pub HasReportedSince : {M D P : Type 0} → NodeEnd M D P → SeatState P → Type 0
HasReportedSince end seat = HasOnlyReported end.seat seat

-- the node at this seat has applied n actions
abbrev pub HasAppliedAt : {P : Type 0} → SeatState P → ℕ → Type 0
HasAppliedAt seat count = HasApplied seat.part count

-- ---- how the log of a node is read

module _ {S P : Type 0} (next : S → Action → S) (answers : S → Action → List Answer)
    (begin : P → S) where
  -- The node makes one report, of what it has applied from a position on; this goes into its box,
  -- or is lost since that is in use.
  pub record Reports (first : ℕ) (old new : SeatState P) : Type 0 where
    pub stepped : SeatState P
    pub sent : Sent
    pub report : IsReport first old stepped sent
    pub is_lost : Bool
    pub offered : IsOfferedToBox next answers begin (Node stepped.setup.number) sent.bytes.items
        stepped new is_lost

  -- a node of which `start` actions were known made n reports, and now more are known: each report
  -- was from the position after those that were known before it, and after it more were known
  abbrev pub AreReports : ℕ → SeatState P → ℕ → ℕ → SeatState P → Type 0
  AreReports start first zero known now = (known ≡ start) × (now ≡ first)
  AreReports start first (suc n) known now =
      (before : ℕ) × (between : SeatState P) × AreReports start first n before between
      × Reports (before + 1) between now × (before < known)

  -- The log of a node of which `start` actions were known was read by such reports, until all that
  -- it has applied was known (or 65,535 actions of that), or until one report more, asked for in
  -- the same way, made nothing more known.
  pub record IsRead (start : ℕ) (first now : SeatState P) (known : ℕ) : Type 0 where
    pub applied : ℕ
    pub has : HasApplied now.part applied
    pub reports : ℕ
    pub read : (AreReports start first reports known now × (min applied 65535 ≤ known))
        ⊎ ((between : SeatState P) × AreReports start first reports known between
        × Reports (known + 1) between now)

  -- the log of the node of which nothing was known at this end of its loop was read
  abbrev pub IsReadFrom : {M D : Type 0} → List (List Action) → NodeEnd M D P → SeatState P → Type 0
  IsReadFrom known end seat = IsRead 0 end.seat seat (length (known_of known seat.setup.number))

-- of each node as many actions are known as before, or more
abbrev pub KnowsMore : List (List Action) → List (List Action) → Type 0
KnowsMore old new = (node : ℕ) → length (known_of old node) ≤ length (known_of new node)

-- of all other nodes the same is known
abbrev pub KnowsSameBut : ℕ → List (List Action) → List (List Action) → Type 0
KnowsSameBut number old new = (node : ℕ) → node ≢ number → known_of new node ≡ known_of old node

-- of nodes of higher numbers nothing is known
abbrev pub KnowsNothingAbove : ℕ → List (List Action) → Type 0
KnowsNothingAbove number known = (node : ℕ) → number < node → known_of known node ≡ []

-- the ends are those of the nodes after this number, in order
abbrev pub AreNumbered : {M D P : Type 0} → ℕ → List (NodeEnd M D P) → Type 0
AreNumbered number ends =
    (place : ℕ) → IfSome (slice_get ends place) (λ end. end.seat.setup.number ≡ number + place + 1)
