-- A task of a cluster.
use Rattle.std.specs.Prelude.{◌≡◌, ℕ, List}
use Rattle.rp_base.specs.declared.reply.Answer.{Answer}
use Rattle.rp_tasks.specs.Calls.{Calls}
use Rattle.rp_model.specs.Parts.{TaskPart}
use Rattle.rp_agreement.specs.Answered.{calls_so_far}

-- its number and its part of the world
pub record Caller : Type 0 where
  pub task : ℕ
  pub part : TaskPart

-- the part of a task that has made these calls and taken these replies
abbrev pub caller_of : ℕ → Calls → List Answer → Caller
caller_of task calls replies =
    record { task = task; part = record { outstanding = calls.outstanding; replies = replies } }

-- The stub is the task's own, and has made the calls that have replies and the one that waits.
pub record IsInStep (task : ℕ) (calls : Calls) (replies : List Answer) : Type 0 where
  pub own : calls.task ≡ task
  pub made : calls.made
      ≡ calls_so_far (record { outstanding = calls.outstanding; replies = replies })
