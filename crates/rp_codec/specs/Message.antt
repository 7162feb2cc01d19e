-- What a packet says, and which of it may be said (the rules are ours).
use Rattle.std.specs.Prelude.{◌≡◌, ℕ, ◌+◌, ◌-◌, ◌^◌, ◌<◌, min, List, length, All, IfSome}
use Rattle.rp_base.specs.Number.{IsNode, IsTask, IsPosition}
use Rattle.rp_base.specs.Ballot.{IsBallot}
use Rattle.rp_base.specs.Action.{IsRight, IsCount}
use Rattle.rp_base.specs.Ranges.{IsRange}
use Rattle.rp_base.specs.PlacedVotes.{AreReported}
use Rattle.rp_base.specs.Right.{IsReply}
use Rattle.rp_base.specs.declared.action.Action.{Action}
use Rattle.rp_base.specs.declared.action.Action.TheVariants as actions
use Rattle.rp_base.specs.declared.record.Vote.{Vote}
use Rattle.rp_codec.specs.declared.packet.Party.{Party}
use Rattle.rp_codec.specs.declared.packet.Party.TheVariants.{Node, Task, Audit}
use Rattle.rp_codec.specs.declared.packet.Body.{Body}
use Rattle.rp_codec.specs.declared.packet.Body.TheVariants.{Call, Prepare, Promise, Accept}
use Rattle.rp_codec.specs.declared.packet.Body.TheVariants.{Accepted, Decided, Ask, Nack}
use Rattle.rp_codec.specs.declared.packet.Body.TheVariants.{Reply as Answer, Report, PrepareRange}
use Rattle.rp_codec.specs.declared.packet.Body.TheVariants.{PromiseRange}

pub record Message : Type 0 where
  pub from : Party
  pub to : Party
  pub body : Body

-- ---- what the types keep by themselves

abbrev pub IsParty : Party → Type 0
IsParty (Node n) = IsNode n
IsParty (Task t) = IsTask t
IsParty Audit = Unit {0}

-- each position and each ballot is one
abbrev pub IsBody : Body → Type 0
IsBody (Call action) = Unit {0}
IsBody (Prepare position ballot) = IsPosition position × IsBallot ballot
IsBody (Promise position ballot last) =
    IsPosition position × IsBallot ballot × IfSome last (λ vote. IsBallot vote.ballot)
IsBody (Accept position ballot action) = IsPosition position × IsBallot ballot
IsBody (Accepted position ballot action) = IsPosition position × IsBallot ballot
IsBody (Decided position action) = IsPosition position
IsBody (Ask position) = IsPosition position
IsBody (Nack position ballot bound) = IsPosition position × IsBallot ballot × IsBallot bound
IsBody (Answer number reply) = IsReply reply
IsBody (Report first applied actions) = IsPosition first × (applied < 2 ^ 16)
IsBody (PrepareRange range ballot) = IsRange range × IsBallot ballot
IsBody (PromiseRange range ballot votes) =
    IsRange range × IsBallot ballot × All (λ placed. IsBallot placed.vote.ballot) votes

-- ---- the obligations of who makes a packet

abbrev pub IsNodeParty : Party → Type 0
IsNodeParty (Node n) = Unit {0}
IsNodeParty (Task t) = ⊥
IsNodeParty Audit = ⊥

abbrev pub IsTaskParty : Party → Type 0
IsTaskParty (Node n) = ⊥
IsTaskParty (Task t) = Unit {0}
IsTaskParty Audit = ⊥

abbrev pub IsAudit : Party → Type 0
IsAudit (Node n) = ⊥
IsAudit (Task t) = ⊥
IsAudit Audit = Unit {0}

abbrev pub IsCallBy : ℕ → Action → Type 0
IsCallBy t actions.Noop = ⊥
IsCallBy t (actions.Call task number object operation arg) = task ≡ t
IsCallBy t (actions.Interrupt source occurrence) = ⊥
IsCallBy t (actions.Tick now) = ⊥

-- the action is a call of this party
abbrev pub IsCallOf : Party → Action → Type 0
IsCallOf (Node n) action = ⊥
IsCallOf (Task t) action = IsCallBy t action
IsCallOf Audit action = ⊥

abbrev pub BetweenNodes : Party → Party → Type 0
BetweenNodes from to = IsNodeParty from × IsNodeParty to

-- a vote in a lower ballot than the one promised
abbrev pub IsVoteBelow : ℕ → Vote → Type 0
IsVoteBelow ballot vote = (vote.ballot < ballot) × IsRight vote.action

-- how many actions a report has: those applied from the first position on, and at most 200
abbrev pub report_len : ℕ → ℕ → ℕ
report_len first applied = min 200 (applied + 1 - first)

-- what a report says of the actions that were applied
pub record IsReport (first applied : ℕ) (actions : List Action) : Type 0 where
  pub len : length actions ≡ report_len first applied
  pub right : All IsRight actions

-- who may say what to whom
abbrev pub MayCall : Party → Party → Action → Type 0
MayCall from to action = IsTaskParty from × IsNodeParty to × IsCallOf from action × IsRight action

abbrev pub MaySay : Party → Party → Body → Type 0
MaySay from to (Call action) = MayCall from to action
MaySay from to (Prepare position ballot) = BetweenNodes from to
MaySay from to (Promise position ballot last) =
    BetweenNodes from to × IfSome last (λ vote. IsVoteBelow ballot vote)
MaySay from to (Accept position ballot action) = BetweenNodes from to × IsRight action
MaySay from to (Accepted position ballot action) = BetweenNodes from to × IsRight action
MaySay from to (Decided position action) = BetweenNodes from to × IsRight action
MaySay from to (Ask position) = BetweenNodes from to
MaySay from to (Nack position ballot bound) = BetweenNodes from to × (ballot < bound)
MaySay from to (Answer number reply) = IsNodeParty from × IsTaskParty to × IsCount number
MaySay from to (Report first applied actions) =
    IsNodeParty from × IsAudit to × IsReport first applied actions
MaySay from to (PrepareRange range ballot) = BetweenNodes from to
MaySay from to (PromiseRange range ballot votes) =
    BetweenNodes from to × AreReported range ballot votes

abbrev pub KeepsRules : Message → Type 0
KeepsRules m = MaySay m.from m.to m.body

-- each number is within its range
pub record HasRanges (m : Message) : Type 0 where
  pub from : IsParty m.from
  pub to : IsParty m.to
  pub body : IsBody m.body

pub record IsPacket (m : Message) : Type 0 where
  pub ranges : HasRanges m
  pub rules : KeepsRules m
