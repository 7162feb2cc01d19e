-- The parts of a world: what a node and a task are, what they know at first, and how a node's
-- records grow.
use Rattle.std.specs.Prelude.{ℕ, Bool, true, nat_le, Option, Some, None, List, [], ◌∷◌, ◌++◌}
use Rattle.std.specs.Prelude.{filter}
use Rattle.rp_base.specs.declared.record.Rec.{Rec}
use Rattle.rp_base.specs.declared.record.Rec.TheVariants.{Started, Promised, Voted, Learned}
use Rattle.rp_base.specs.declared.record.Rec.TheVariants.{PromisedRange}
use Rattle.rp_base.specs.Proposals.{Proposal}
use Rattle.rp_base.specs.declared.action.Action.{Action}
use Rattle.rp_base.specs.declared.record.Vote.{Vote}
use Rattle.rp_base.specs.declared.reply.Answer.{Answer}
use Rattle.rp_codec.specs.Message.{Message}
use Rattle.rp_model.specs.declared.effect.Dropped.{Dropped}

-- No value in memory is one of these records: a replica keeps its part in the forms that its crates
-- need, and the world of a cluster is read off its replicas, its stubs and its devices.

-- What a node knows while it runs, and loses when it stops: its proposals, one at most for each
-- position; the set of the votes that it heard at positions that are not learned (who cast it,
-- where, which); the calls, interrupts and ticks to be proposed, in order of arrival; and the
-- greatest ballot in a refusal of a running proposal.
pub record Running : Type 0 where
  pub proposals : List Proposal
  pub heard : List (ℕ × ℕ × Vote)
  pub pending : List Action
  pub refused : Option ℕ

-- a node: what it wrote down in order, how many bytes of a record are torn, and what it knows if it
-- runs
pub record NodePart : Type 0 where
  pub records : List Rec
  pub torn : ℕ
  pub running : Option Running

-- a task: the call that it waits for, and the replies that it got in order; its calls are numbered
-- from 1
pub record TaskPart : Type 0 where
  pub outstanding : Option Action
  pub replies : List Answer

-- what one step of a node does: the record that it writes first, then the packets that it sends in
-- order, what it knows afterwards, and what it did not take
pub record Turn : Type 0 where
  pub written : Option Rec
  pub sent : List Message
  pub running : Running
  pub dropped : Dropped

-- no proposal, no vote heard, nothing pending, and no refusal
abbrev pub fresh_running : Running
fresh_running = record { proposals = []; heard = []; pending = []; refused = None }

-- a node that runs and wrote nothing
abbrev pub fresh_node : NodePart
fresh_node = record { records = []; torn = 0; running = Some fresh_running }

-- a task that called nothing
abbrev pub fresh_task : TaskPart
fresh_task = record { outstanding = None; replies = [] }

-- the records with the one that was written, if one was
abbrev pub with_record : List Rec → Option Rec → List Rec
with_record records None = records
with_record records (Some rec) = records ++ rec ∷ []

-- the record is at a position of the log, or at none; one for a range is where its first position
-- is
abbrev pub is_in_log : ℕ → Rec → Bool
is_in_log most (Started ballot) = true
is_in_log most (Promised position ballot) = nat_le position most
is_in_log most (Voted position ballot action) = nat_le position most
is_in_log most (Learned position action) = nat_le position most
is_in_log most (PromisedRange range ballot) = nat_le range.first most

-- the records that count in a node's part: those above the log are skipped one by one
abbrev pub records_in_log : ℕ → List Rec → List Rec
records_in_log most records = filter (is_in_log most) records
