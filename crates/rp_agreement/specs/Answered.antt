-- The replies to tasks: each reply that a node sent is an answer that its applied list leads to,
-- and each reply that a task took is an answer that the order leads to.
use Rattle.std.specs.Prelude.{◌≡◌, ◌⊎◌, ◌↔◌, ℕ, suc, ◌≤◌, Some, is_some, unwrap_or, List, [], ◌∷◌}
use Rattle.std.specs.Prelude.{◌++◌, length, map, filter, if◌then◌else◌}
use Rattle.rp_base.specs.Sets.{Has}
use Rattle.rp_base.specs.Records.{applied_of}
use Rattle.rp_base.specs.declared.action.Action.{Action}
use Rattle.rp_base.specs.declared.config.Config.{Config}
use Rattle.rp_base.specs.declared.reply.Answer.{Answer}
use Rattle.rp_base.specs.declared.reply.Reply.{Reply as CallReply}
use Rattle.rp_codec.specs.Message.{Message}
use Rattle.rp_codec.specs.declared.packet.Party.{Party}
use Rattle.rp_codec.specs.declared.packet.Party.TheVariants.{Node, Task, Audit}
use Rattle.rp_codec.specs.declared.packet.Body.{Body}
use Rattle.rp_codec.specs.declared.packet.Body.TheVariants.{Reply}
use Rattle.rp_machine.specs.Calls.{CallName, calls_of, call_of}
use Rattle.rp_machine.specs.Replay.{number_for, one_to, replay_answers}
use Rattle.rp_model.specs.Effect.{Setting}
use Rattle.rp_model.specs.Parts.{fresh_task}
use Rattle.rp_model.specs.World.{World, part_at}
use Rattle.rp_model.specs.Parts.{NodePart}
use Rattle.rp_model.specs.Parts.{TaskPart}
use Rattle.rp_agreement.specs.Asked.{Asks}
use Rattle.rp_agreement.specs.Order.{IsPrefix}
use Rattle.rp_agreement.specs.Computed.{order_of}
use Rattle.rp_agreement.specs.Sound.{IsSound}
use Rattle.rp_agreement.specs.Inputs.{WaitsForOwn}
use Rattle.rp_agreement.specs.Worlds.{node_in}

-- the reply of this number to this party is one of these answers
abbrev pub IsAnswerTo : List Answer → Party → ℕ → CallReply → Type 0
IsAnswerTo given (Node k) number reply = ⊥
IsAnswerTo given (Task t) number reply =
    Has (record { task = t; number = number; reply = reply }) given
IsAnswerTo given Audit number reply = ⊥

-- what the packet to this party replies, if it replies, is one of these answers
abbrev pub SaysAnswer : List Answer → Party → Body → Type 0
SaysAnswer given to (Reply number reply) = IsAnswerTo given to number reply
SaysAnswer given to _ = Unit {0}

-- the answers that the actions lead to
abbrev pub answers_of : {S : Type 0} → Setting S → List Action → List Answer
answers_of s actions = replay_answers s.next s.answers s.begin actions

-- where the nodes run this program of a machine
abbrev pub setting_for : {S P : Type 0} → (S → Action → S) → (S → Action → List Answer) → (P → S)
    → Config → P
    → Setting S
setting_for next answers begin config program =
    record { config = config; next = next; answers = answers; begin = begin program }

-- each reply that a node sent is an answer that its applied list leads to
abbrev pub RepliesAre : {S : Type 0} → Setting S → (ℕ → NodePart) → List Message → Type 0
RepliesAre s node sent = (m : Message) → Has m sent → (a : ℕ) → m.from ≡ Node a
    → SaysAnswer (answers_of s (applied_of (node a).records)) m.to m.body

-- the call of this task and number
abbrev pub named : ℕ → ℕ → CallName
named task number = record { task = task; number = number }

-- A task has its replies to its calls from 1 on, in order; what it waits for is its next call; and
-- its replies are among these answers.
pub record IsAnswered (given : List Answer) (t : ℕ) (part : TaskPart) : Type 0 where
  pub numbered : map call_of part.replies ≡ map (named t) (one_to (length part.replies))
  pub waits : (call : Action) → part.outstanding ≡ Some call
      → calls_of call ≡ named t (suc (length part.replies)) ∷ []
  pub replied : (answer : Answer) → Has answer part.replies → Has answer given

-- how many calls a task made: those that it has replies to, and the one that it waits for
abbrev pub calls_so_far : TaskPart → ℕ
calls_so_far part = if is_some part.outstanding then suc (length part.replies)
    else length part.replies

-- A task made these calls, in order: it asked for each of them and for no others, they are numbered
-- from 1 on, and the one that it waits for is among them.
pub record AreMade (sent : List Message) (t : ℕ) (part : TaskPart) (made : List Action)
    : Type 0 where
  pub asked : (action : Action) → Has action made ↔ Asks sent t action
  pub numbered : map calls_of made ≡ map (λ n. named t n ∷ []) (one_to (calls_so_far part))
  pub waits : (call : Action) → part.outstanding ≡ Some call → Has call made

-- the calls of the task among the actions, in order
abbrev pub calls_by : ℕ → List Action → List Action
calls_by t actions = filter (λ action. is_some (number_for t action)) actions

-- The calls of a task among the actions are those that it made, in order: all of them, or all but
-- the one that it waits for.
pub record AreItsCalls (sent : List Message) (t : ℕ) (part : TaskPart) (actions : List Action)
    : Type 0 where
  pub made : List Action
  pub are_made : AreMade sent t part made
  pub all_but_last : (made ≡ calls_by t actions)
      ⊎ ((call : Action) × (part.outstanding ≡ Some call)
      × (made ≡ calls_by t actions ++ call ∷ []))

-- the call occurs among the actions
abbrev pub Occurs : CallName → List Action → Type 0
Occurs call actions = (action : Action) × Has action actions × Has call (calls_of action)

-- A beginning of the order leads to the answer to the task's nth call, where n is 1 or more, and
-- the next call does not occur in it.
pub record IsReady {S : Type 0} (s : Setting S) (order : List Action) (t n : ℕ) : Type 0 where
  pub before : List Action
  pub begins : IsPrefix before order
  pub absent : ¬ Occurs (named t (suc n)) before
  pub answered : (n ≡ 0) ⊎ Has (named t n) (map call_of (answers_of s before))

-- The invariant with the replies to tasks, over the parts of nodes and tasks and the packets ever
-- sent.
pub record IsKept {S : Type 0} (s : Setting S) (node : ℕ → NodePart) (task : ℕ → TaskPart)
    (sent : List Message)
    : Type 0 where
  pub sound : IsSound s.config.nodes node sent
  pub own : (t : ℕ) → WaitsForOwn t (task t)
  pub replies : RepliesAre s node sent
  pub answered : (t : ℕ) → IsAnswered (answers_of s (order_of s.config.nodes sent)) t (task t)
  pub made : (t : ℕ) → (calls : List Action) × AreMade sent t (task t) calls
  pub ready : (t n : ℕ) → n ≤ length (task t).replies → IsReady s (order_of s.config.nodes sent) t n

-- the part of the task of this number, from 1; a fresh one where there is no such task
abbrev pub task_in : List TaskPart → ℕ → TaskPart
task_in tasks t = unwrap_or (part_at tasks t) fresh_task

-- A world satisfies it.
pub record IsKeptWorld {S : Type 0} (s : Setting S) (w : World) : Type 0 where
  pub size : length w.nodes ≡ s.config.nodes
  pub kept : IsKept s (node_in w.nodes) (task_in w.tasks) w.sent
