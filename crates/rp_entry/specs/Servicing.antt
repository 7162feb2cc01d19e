-- Servicing of entry queues, as a chain of states (Ada Reference Manual, section 9.5.3).
use Rattle.std.specs.Prelude.{◌≡◌, ℕ, ◌<◌, ◌∷◌, [], List, slice_set}
use Rattle.rp_base.specs.declared.reply.Answer.{Answer}
use Rattle.rp_body.specs.declared.statement.Outcome.{Outcome}
use Rattle.rp_body.specs.Meaning.{body_effect}
use Rattle.rp_entry.specs.declared.operations.Operations.{Operations}
use Rattle.rp_entry.specs.Queue.{State, IsReady, IsServiced}
use Rattle.rp_entry.specs.Replies.{reply_of}

-- One call is served: of the open entries that have a caller, the first one (which of them is ours;
-- in order of arrival at each: section D.4). Its first call is taken off its queue, its body runs
-- for it, and its caller gets the result, an exception too (section 9.5.3).
pub record Serves (operations : Operations) (before : State) (answer : Answer) (after : State)
    : Type 0 where
  pub place : ℕ
  pub ready : IsReady operations.entries.items before place
  pub least : (other : ℕ) → other < place → ¬ IsReady operations.entries.items before other
  pub ended : Outcome
  pub run : body_effect ready.entry.body.items ready.call.arg before.store ≡ (after.store, ended)
  pub left : after.queues ≡ slice_set before.queues place ready.rest
  pub replied : answer ≡ record {
    task = ready.call.task;
    number = ready.call.number;
    reply = reply_of ended;
  }

-- Servicing, from a state to a state, with the answers given on the way: it ends where no call
-- waits at an open barrier, and where a call is served it goes on from the state that this leaves,
-- at whose components the barriers are evaluated again.
pub data Services (operations : Operations) : State → List Answer → State → Type 0 where
  ends : {state : State} → IsServiced operations state → Services operations state [] state
  goes_on : {before between after : State} {answer : Answer} {answers : List Answer}
      → Serves operations before answer between
      → Services operations between answers after
      → Services operations before (answer ∷ answers) after
