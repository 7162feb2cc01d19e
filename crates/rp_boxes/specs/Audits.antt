-- What the audit knows of each node from the reports that it got.
use Rattle.std.specs.Prelude.{◌≡◌, ℕ, ◌+◌, ◌-◌, ◌^◌, ◌<◌, ◌≤◌, nat_lt, Some, unwrap_or, List, []}
use Rattle.std.specs.Prelude.{◌++◌, length, take}
use Rattle.std.specs.Prelude.{slice_get, if◌then◌else◌}
use Rattle.rp_base.specs.Sets.{Has}
use Rattle.rp_base.specs.declared.action.Action.{Action}
use Rattle.rp_codec.specs.Message.{Message, IsPacket}
use Rattle.rp_codec.specs.Text.{text_of}
use Rattle.rp_codec.specs.declared.packet.Body.TheVariants.{Report}
use Rattle.rp_codec.specs.declared.packet.Party.TheVariants.{Node, Audit}
use Rattle.rp_model.specs.World.{part_at, with_part}
use Rattle.rp_board.specs.Parts.{Part}
use Rattle.rp_board.specs.Seats.{SeatState}
use Rattle.rp_boxes.specs.declared.audit.Added.{Added}
use Rattle.rp_boxes.specs.declared.audit.Added.TheVariants as added

-- The audit's seat, and for each of the nodes 1 to 7 the actions that are known of it.
pub record Audited (P : Type 0) : Type 0 where
  pub seat : SeatState P
  pub known : List (List Action)

-- what is known of a node
abbrev pub known_of : List (List Action) → ℕ → List Action
known_of known node = unwrap_or (part_at known node) []

-- a report of a node to the audit
abbrev pub report : ℕ → ℕ → ℕ → List Action → Message
report node first applied actions =
    record { from = Node node; to = Audit; body = Report first applied actions }

-- Among these packets there is a report of the node that has this action at position n + 1.
pub record ReportSays (packets : List Message) (node before : ℕ) (action : Action) : Type 0 where
  pub first : ℕ
  pub applied : ℕ
  pub actions : List Action
  pub among : Has (report node first applied actions) packets
  pub at : ℕ
  pub place : before ≡ first - 1 + at
  pub describes : slice_get actions at ≡ Some action

-- Each known action is in a report that the actor got.
pub record AreAllReported (part : Part) (known : List (List Action)) : Type 0 where
  pub seven : length known ≡ 7
  pub stated : (node before : ℕ) (action : Action)
      → slice_get (known_of known node) before ≡ Some action
      → ReportSays part.got node before action
  pub few : (node : ℕ) → length (known_of known node) < 2 ^ 16

-- ---- a report is added

-- the longer of two lists, the first if they are equally long
abbrev pub longer_of : List Action → List Action → List Action
longer_of old new = if nat_lt (length old) (length new) then new else old

-- the list with its actions from a position on replaced by these, if that makes it longer
abbrev pub with_reported : List Action → ℕ → List Action → List Action
with_reported known first actions = longer_of known (take (first - 1) known ++ actions)

-- the bytes are the text of a report that the actor got
abbrev pub IsGotReport : Part → List ℕ → Type 0
IsGotReport part bytes =
    (node : ℕ) × (first : ℕ) × (applied : ℕ) × (actions : List Action)
    × Has (report node first applied actions) part.got
    × (bytes ≡ text_of (report node first applied actions))

-- nothing changes, since there is a gap after the known actions of the node
abbrev pub LeavesAGap : {P : Type 0} → Audited P → ℕ → Audited P → Added → Type 0
LeavesAGap old node new outcome =
    (new ≡ old) × (outcome ≡ added.Gap node (length (known_of old.known node)))

-- these become the known actions of the node
abbrev pub BecomeKnown : {P : Type 0} → Audited P → ℕ → List Action → Audited P → Added → Type 0
BecomeKnown old node actions new outcome =
    (new ≡ record old { known = with_part old.known node actions })
    × (outcome ≡ added.Added node (length actions))

-- The result of adding the actions that a node reports, from this position on. If they leave a gap
-- after the known actions of the node, nothing changes. Otherwise the known actions become the
-- longer of two lists: those so far, and those with the reported actions put in.
pub record IsJoined {P : Type 0} (old : Audited P) (node first : ℕ) (actions : List Action)
    (new : Audited P) (outcome : Added) : Type 0 where
  pub gap : length (known_of old.known node) + 1 < first → LeavesAGap old node new outcome
  pub joined : first ≤ length (known_of old.known node) + 1
      → BecomeKnown old node (with_reported (known_of old.known node) first actions) new outcome

-- the result of adding the report with this text, which is a valid packet
pub record IsAdded {P : Type 0} (old : Audited P) (bytes : List ℕ) (new : Audited P)
    (outcome : Added) : Type 0 where
  pub node : ℕ
  pub first : ℕ
  pub applied : ℕ
  pub actions : List Action
  pub right : IsPacket (report node first applied actions)
  pub text : bytes ≡ text_of (report node first applied actions)
  pub joined : IsJoined old node first actions new outcome
