-- The invariant: what every packet says is so, by the records of who sent it; what a node wrote and
-- what it knows while it runs is justified by packets that were sent. Each fact speaks of a
-- position and a ballot. Lamport, "Paxos Made Simple", section 2; the list of facts is ours.
use Rattle.std.specs.Prelude.{◌≡◌, ℕ, ◌-◌, ◌≤◌, true, Option, Some, IfSome, List, length, map, take}
use Rattle.std.specs.Prelude.{drop}
use Rattle.rp_base.specs.Action.{IsRight}
use Rattle.rp_base.specs.Ballot.{owner_of}
use Rattle.rp_base.specs.Sets.{Has, IsSet}
use Rattle.rp_base.specs.Proposals.{Proposal}
use Rattle.rp_base.specs.Records.{applied_of}
use Rattle.rp_base.specs.Ranges.{is_covered}
use Rattle.rp_base.specs.PlacedVotes.{placed_at}
use Rattle.rp_base.specs.declared.action.Action.{Action}
use Rattle.rp_base.specs.declared.proposal.Phase.TheVariants.{Preparing}
use Rattle.rp_base.specs.declared.record.Vote.{Vote}
use Rattle.rp_base.specs.declared.record.Rec.{Rec}
use Rattle.rp_base.specs.declared.record.Rec.TheVariants.{Started, Promised, Voted, Learned}
use Rattle.rp_base.specs.declared.record.Rec.TheVariants.{PromisedRange}
use Rattle.rp_codec.specs.Message.{Message, IsCallBy, report_len}
use Rattle.rp_codec.specs.declared.packet.Party.{Party}
use Rattle.rp_codec.specs.declared.packet.Party.TheVariants.{Node, Task, Audit}
use Rattle.rp_codec.specs.declared.packet.Body.{Body}
use Rattle.rp_codec.specs.declared.packet.Body.TheVariants.{Call, Prepare, Promise, Accept}
use Rattle.rp_codec.specs.declared.packet.Body.TheVariants.{Accepted, Decided}
use Rattle.rp_codec.specs.declared.packet.Body.TheVariants.{Report, PrepareRange, PromiseRange}
use Rattle.rp_model.specs.Facts.{HasPromised, HasVoted, IsOffered, IsDecided}
use Rattle.rp_model.specs.Parts.{Running}
use Rattle.rp_model.specs.Parts.{NodePart}
use Rattle.rp_agreement.specs.Asked.{IsAsked}
use Rattle.rp_agreement.specs.Justified.{Reports, IsJustified}

-- x is one of the nodes 1 to n
abbrev pub IsMember : ℕ → ℕ → Type 0
IsMember nodes x = (1 ≤ x) × (x ≤ nodes)

-- n actions were applied, and these are the ones from a position on, as many as a report has
abbrev pub IsReported : List Action → ℕ → ℕ → List Action → Type 0
IsReported all first applied actions =
    (applied ≤ length all)
    × (actions ≡ take (report_len first applied) (drop (first - 1) (take applied all)))

-- what a node's packet says is so, by the node's records and the packets sent; a question, a
-- refusal and a reply claim nothing
abbrev pub IsSo : ℕ → List Message → List Rec → Body → Type 0
IsSo nodes sent records (Call action) = ⊥
IsSo nodes sent records (Prepare i b) = Has (Started b) records
IsSo nodes sent records (Promise i b last) = Has (Promised i b) records × Reports records i b last
IsSo nodes sent records (Accept i b v) =
    Has (Started b) records × IsJustified nodes sent i b v × IsAsked sent v
IsSo nodes sent records (Accepted i b v) = Has (Voted i b v) records
IsSo nodes sent records (Decided i v) = Has (Learned i v) records
IsSo nodes sent records (Report first applied actions) =
    IsReported (applied_of records) first applied actions
IsSo nodes sent records (PrepareRange range b) = Has (Started b) records
IsSo nodes sent records (PromiseRange range b votes) =
    Has (PromisedRange range b) records
    × ((i : ℕ) → is_covered range i ≡ true → Reports records i b (placed_at votes i))
IsSo nodes sent records _ = Unit {0}

-- a task says nothing but calls of its own, which are right
abbrev pub IsCall : ℕ → Body → Type 0
IsCall t (Call action) = IsCallBy t action × IsRight action
IsCall t _ = ⊥

-- what a packet says is so, by who sent it
abbrev pub SaysSo : ℕ → (ℕ → NodePart) → List Message → Party → Body → Type 0
SaysSo nodes node sent (Node x) body = IsMember nodes x × IsSo nodes sent (node x).records body
SaysSo nodes node sent (Task t) body = IsCall t body
SaysSo nodes node sent Audit body = ⊥

-- A running proposal: its ballot is started, its promises were sent, what it would offer was asked
-- for, and while it waits for promises nothing is offered in its ballot at its position.
pub record IsProposal (sent : List Message) (records : List Rec) (p : Proposal) : Type 0 where
  pub started : Has (Started p.ballot) records
  pub promised : (a : ℕ) (last : Option Vote) → Has (a, last) p.promises
      → HasPromised sent a p.position p.ballot last
  pub asked : IfSome p.own (IsAsked sent)
  pub unoffered : p.phase ≡ Preparing → (v : Action) → ¬ IsOffered sent p.position p.ballot v

-- what a node knows while it runs
pub record IsRunning (sent : List Message) (records : List Rec) (running : Running) : Type 0 where
  pub proposals : (p : Proposal) → Has p running.proposals → IsProposal sent records p
  pub apart : IsSet (map (λ p. p.position) running.proposals)
  pub pending : (action : Action) → Has action running.pending → IsAsked sent action
  pub heard : (a i : ℕ) (w : Vote) → Has (a, i, w) running.heard
      → HasVoted sent a i w.ballot w.action

-- The invariant, over the parts of the nodes 1 to n and the packets ever sent.
pub record IsSound (nodes : ℕ) (node : ℕ → NodePart) (sent : List Message) : Type 0 where
  pub says : (m : Message) → Has m sent → SaysSo nodes node sent m.from m.body
  pub one_offer : (i b : ℕ) (v w : Action) → IsOffered sent i b v → IsOffered sent i b w → v ≡ w
  pub started : (x b : ℕ) → Has (Started b) (node x).records → owner_of b ≡ x
  pub voted : (x i b : ℕ) (v : Action) → Has (Voted i b v) (node x).records → IsOffered sent i b v
  pub learned : (x i : ℕ) (v : Action) → Has (Learned i v) (node x).records
      → IsDecided nodes sent i v
  pub runs : (x : ℕ) (running : Running) → (node x).running ≡ Some running
      → IsRunning sent (node x).records running
