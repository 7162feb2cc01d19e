-- What a step of a node is to the invariant: what others see of it, and its obligations.
use Rattle.std.specs.Prelude.{◌≡◌, ◌≢◌, ◌↔◌, ◌⊎◌, ℕ, ◌<◌, ◌≤◌, Option, Some, None, List}
use Rattle.rp_base.specs.Ballot.{owner_of}
use Rattle.rp_base.specs.Sets.{Has}
use Rattle.rp_base.specs.Proposals.{Proposal}
use Rattle.rp_base.specs.Records.{started_of, bound_at}
use Rattle.rp_base.specs.declared.action.Action.{Action}
use Rattle.rp_base.specs.declared.proposal.Phase.TheVariants.{Preparing}
use Rattle.rp_base.specs.declared.record.Rec.{Rec}
use Rattle.rp_base.specs.declared.record.Rec.TheVariants.{Started, Promised, Voted, Learned}
use Rattle.rp_base.specs.declared.record.Rec.TheVariants.{PromisedRange}
use Rattle.rp_codec.specs.Message.{Message}
use Rattle.rp_codec.specs.declared.packet.Party.TheVariants.{Node, Task}
use Rattle.rp_model.specs.Facts.{IsOffered, IsDecided}
use Rattle.rp_model.specs.Parts.{with_record}
use Rattle.rp_model.specs.Parts.{Running}
use Rattle.rp_model.specs.Parts.{NodePart}
use Rattle.rp_agreement.specs.Sound.{IsSo, IsCall, IsRunning}

-- afterwards these packets are sent too, and no others
abbrev pub SentToo : List Message → List Message → List Message → Type 0
SentToo packets sent sent' = (m : Message) → Has m sent' ↔ (Has m sent ⊎ Has m packets)

-- The node x writes a record or none, goes on with a running part or none, and sends these packets;
-- every other node stays as it was.
pub record Happens (x : ℕ) (written : Option Rec) (running : Option Running)
    (packets : List Message)
    (node : ℕ → NodePart) (sent : List Message) (node' : ℕ → NodePart) (sent' : List Message)
    : Type 0 where
  pub records : (node' x).records ≡ with_record (node x).records written
  pub part : (node' x).running ≡ running
  pub others : (k : ℕ) → k ≢ x → node' k ≡ node k
  pub sends : SentToo packets sent sent'

-- The task t sends these packets, its own right calls; every node stays as it was.
pub record TaskHappens (t : ℕ) (packets : List Message) (node : ℕ → NodePart) (sent : List Message)
    (node' : ℕ → NodePart) (sent' : List Message) : Type 0 where
  pub calls : (m : Message) → Has m packets → (m.from ≡ Task t) × IsCall t m.body
  pub stays : (k : ℕ) → node' k ≡ node k
  pub sends : SentToo packets sent sent'

-- When a node may write a record: a ballot of its own above all that it started, a vote for what is
-- offered and not below its bound, an action that is decided.
abbrev pub MayWrite : ℕ → List Message → ℕ → List Rec → Option Rec → Type 0
MayWrite nodes sent x records None = Unit {0}
MayWrite nodes sent x records (Some (Started b)) = (owner_of b ≡ x) × (started_of records < b)
MayWrite nodes sent x records (Some (Promised i b)) = Unit {0}
MayWrite nodes sent x records (Some (Voted i b v)) = IsOffered sent i b v × (bound_at records i ≤ b)
MayWrite nodes sent x records (Some (Learned i v)) = IsDecided nodes sent i v
MayWrite nodes sent x records (Some (PromisedRange range b)) = Unit {0}

-- The obligations of a node's step, by its own records and the packets sent before. (What it sends
-- itself justifies no offer yet, counts in no proposal, and is no vote that it heard.)
pub record IsSoundStep (nodes x : ℕ) (records : List Rec) (sent : List Message)
    (written : Option Rec)
    (running : Option Running) (packets : List Message) : Type 0 where
  pub writes : MayWrite nodes sent x records written
  pub from : (m : Message) → Has m packets → m.from ≡ Node x
  pub says : (m : Message) → Has m packets → IsSo nodes sent (with_record records written) m.body
  pub unoffered : (i b : ℕ) (v w : Action) → IsOffered packets i b v → ¬ IsOffered sent i b w
  pub one_offer : (i b : ℕ) (v w : Action) → IsOffered packets i b v → IsOffered packets i b w
      → v ≡ w
  pub runs : (after : Running) → running ≡ Some after
      → IsRunning sent (with_record records written) after
  pub waits : (after : Running) → running ≡ Some after → (p : Proposal) → Has p after.proposals
      → p.phase ≡ Preparing
      → (v : Action) → ¬ IsOffered packets p.position p.ballot v
