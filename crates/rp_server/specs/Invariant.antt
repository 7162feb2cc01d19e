-- How the parts of a server are related.
use Rattle.std.specs.Prelude.{◌≡◌, ℕ, suc, ◌+◌, ◌<◌, ◌≤◌, true, is_some, nat_le, None, IfSome, List}
use Rattle.std.specs.Prelude.{length, map, filter}
use Rattle.std.specs.List.{AllByRecursion}
use Rattle.rp_base.specs.declared.config.Config.{Config}
use Rattle.rp_base.specs.declared.placed.PlacedVote.{PlacedVote}
use Rattle.rp_base.specs.declared.record.Rec.{Rec}
use Rattle.rp_base.specs.declared.record.Rec.TheVariants.{Started, Promised, Voted, Learned}
use Rattle.rp_base.specs.declared.record.Rec.TheVariants.{PromisedRange}
use Rattle.rp_base.specs.Action.{IsRight}
use Rattle.rp_base.specs.Config.{IsRightConfig}
use Rattle.rp_base.specs.Right.{IsRightVote, IsRightRecord}
use Rattle.rp_base.specs.Sets.{Has, SameMembers}
use Rattle.rp_base.specs.Records.{started_of, learned_at}
use Rattle.rp_base.specs.Promises.{Promise, HeardVote}
use Rattle.rp_base.specs.Proposals.{Proposal}
use Rattle.rp_proposer.specs.Proposing.{ProposerPart, AreInWindow}
use Rattle.rp_learner.specs.Learning.{Learning}
use Rattle.rp_base.specs.Number.{window}
use Rattle.rp_learner.specs.Status.{is_settled}
use Rattle.rp_log.specs.Contents.{Contents, action_at, next_to_take, IsTakenInOrder}
use Rattle.rp_log.specs.Recorded.{LearnedAlike}
use Rattle.rp_machine.specs.Numbered.{Applied}
use Rattle.rp_model.specs.Parts.{is_in_log}

-- a promise that reports a right vote, or none
abbrev pub IsRightPromise : Promise → Type 0
IsRightPromise promise = IfSome promise.1 IsRightVote

-- what a proposal may offer is right
pub record IsRightProposal (p : Proposal) : Type 0 where
  pub own : IfSome p.own IsRight
  pub promises : AllByRecursion IsRightPromise p.promises

-- The proposer is that of the node and its records. Its proposals run at different unlearned
-- positions of the window above the applied list.
pub record IsProposer (me : ℕ) (config : Config) (records : List Rec) (taken : ℕ)
    (proposer : ProposerPart)
    : Type 0 where
  pub node : proposer.node ≡ me
  pub nodes : proposer.nodes ≡ config.nodes
  pub started : proposer.started ≡ started_of records
  pub window : AreInWindow (suc taken) proposer.proposals
  pub unlearned : (i : ℕ) → Has i (map (λ p. p.position) proposer.proposals)
      → learned_at records i ≡ None
  pub right : AllByRecursion IsRightProposal proposer.proposals

-- the vote was heard at an unlearned position of the learner's window
pub record IsOpenVote (records : List Rec) (learner : Learning) (vote : HeardVote) : Type 0 where
  pub position : 1 ≤ vote.1
  pub within : vote.1 < learner.first + window
  pub unlearned : learned_at records vote.1 ≡ None

-- The learner's window is above the applied list. It heard these votes, as a set, each at an
-- unlearned position of the window, and up to the window's end it settled what the records learn.
pub record IsLearner (config : Config) (records : List Rec) (taken : ℕ) (learner : Learning)
    (votes : List HeardVote) : Type 0 where
  pub nodes : learner.nodes ≡ config.nodes
  pub positions : learner.max_positions ≡ config.max_positions
  pub first : learner.first ≡ suc taken
  pub heard : SameMembers learner.heard votes
  pub open_votes : (vote : HeardVote) → Has vote votes → IsOpenVote records learner vote
  pub settled : (i : ℕ) → 1 ≤ i → i < learner.first + window
      → is_settled learner i ≡ is_some (learned_at records i)

-- up to the end of its window the learner settled what the log learned
abbrev pub IsSettledAlike : Learning → Contents → Type 0
IsSettledAlike learner log =
    (i : ℕ) → 1 ≤ i → i < learner.first + window → is_settled learner i ≡ is_some (action_at log i)

-- The learner's window moved on to the position after those that the log took; the votes heard
-- within it stay.
pub record Follows (before : Learning) (log : Contents) (after : Learning) : Type 0 where
  pub nodes : after.nodes ≡ before.nodes
  pub positions : after.max_positions ≡ before.max_positions
  pub first : after.first ≡ next_to_take log
  pub heard : SameMembers after.heard
      (filter (λ vote. nat_le (next_to_take log) vote.1) before.heard)
  pub settled : IsSettledAlike after log

-- the log learned what the records say, nothing is ready, and what was taken is applied
pub record IsApplied {S : Type 0} (records : List Rec) (log : Contents) (applied : Applied S)
    : Type 0 where
  pub learned : LearnedAlike records log
  pub ordered : IsTakenInOrder log
  pub none : action_at log (next_to_take log) ≡ None
  pub taken : applied.actions ≡ log.taken

-- what holds of a server's parts between its calls
pub record IsServer {S : Type 0} (me : ℕ) (config : Config) (records : List Rec)
    (proposer : ProposerPart)
    (learner : Learning) (votes : List HeardVote) (log : Contents) (applied : Applied S)
    : Type 0 where
  pub sizes : IsRightConfig config
  pub member : me ≤ config.nodes
  pub right : AllByRecursion IsRightRecord records
  pub leads : IsProposer me config records (length log.taken) proposer
  pub learns : IsLearner config records (length log.taken) learner votes
  pub applies : IsApplied records log applied

-- the record is a promise or a vote
abbrev pub IsAnswer : Rec → Type 0
IsAnswer (Started ballot) = ⊥
IsAnswer (Promised position ballot) = Unit {0}
IsAnswer (Voted position ballot action) = Unit {0}
IsAnswer (Learned position action) = ⊥
IsAnswer (PromisedRange range ballot) = Unit {0}

-- the record of a vote at its position
abbrev pub vote_record : PlacedVote → Rec
vote_record placed = Voted placed.position placed.vote.ballot placed.vote.action

-- every record is at a position of the log, or at none
abbrev pub AllInLog : ℕ → List Rec → Type 0
AllInLog most records = AllByRecursion (λ rec. is_in_log most rec ≡ true) records
