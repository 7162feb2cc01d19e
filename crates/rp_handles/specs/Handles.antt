-- What a handle keeps after it is opened, and the answer to a call by it.
use Rattle.std.specs.Prelude.{◌≡◌, ◌==◌, if◌then◌else◌, ℕ, Option, Some, None, Result, List}
use Rattle.std.specs.Prelude.{length}
use Rattle.rp_requests.specs.rp_base.specs.declared.fault.Fault.TheVariants as faults
use Rattle.rp_requests.specs.rp_base.specs.Number.{IsTask}
use Rattle.rp_object.specs.State.{Running}
use Rattle.rp_object.specs.Step.{objects_next, objects_answers}
use Rattle.rp_object.specs.Image.{objects_image}
use Rattle.rp_requests.specs.rp_patience.specs.Advice.{advice_after, patience_after}
use Rattle.rp_requests.specs.rp_patience.specs.declared.advice.Advice.{Advice}
use Rattle.rp_requests.specs.rp_patience.specs.declared.patience.Patience.{Patience}
use Rattle.rp_requests.specs.Advising.{situation_of}
use Rattle.rp_requests.specs.Buffers.{with_front}
use Rattle.rp_requests.specs.declared.buffer.Lengths.{Lengths}
use Rattle.rp_requests.specs.declared.refusal.Refusal.{Refusal}
use Rattle.rp_requests.specs.declared.refusal.Refusal.TheVariants as refusals
use Rattle.rp_requests.specs.Nodes.{RequestAnswers, NodeState}
use Rattle.rp_requests.specs.Requests.{asked_of}
use Rattle.rp_requests.specs.TaskRequests.{task_asked_of}
use Rattle.rp_requests.specs.Tasks.{TaskAnswers}
use Rattle.rp_requests.specs.rp_tasks.specs.Calls.{Calls, no_calls, task_after}
use Rattle.rp_handles.specs.DeckNodes.{OpensNode}
use Rattle.rp_handles.specs.declared.actor.Actor.{Actor}
use Rattle.rp_handles.specs.declared.actor.Actor.TheVariants.{Node, Task}
use Rattle.rp_handles.specs.declared.actor.ActorKind.{ActorKind}
use Rattle.rp_handles.specs.declared.actor.ActorKind.TheVariants as kinds
use Rattle.rp_handles.specs.declared.actor.LastStep.{LastStep}

-- the kind with this number
abbrev pub actor_kind_of : ℕ → Option ActorKind
actor_kind_of number =
    if number == 1 then Some kinds.Node else
    if number == 2 then Some kinds.Task else
    None

-- the byte of the request that brings a packet to an actor of this kind
abbrev pub receives_byte : ActorKind → ℕ
receives_byte kinds.Node = 1
receives_byte kinds.Task = 3

-- A request, and the caller's buffer before and after the answer.
pub record Exchange : Type 0 where
  pub request : List ℕ
  pub before : List ℕ
  pub after : List ℕ

abbrev pub exchange_of : List ℕ → List ℕ → List ℕ → Exchange
exchange_of request before after = record { request = request; before = before; after = after }

-- Nothing changed.
abbrev pub ChangesNothing : {S : Type 0} → Exchange → S → S → Type 0
ChangesNothing exchange old new = (new ≡ old) × (exchange.after ≡ exchange.before)

-- The answer of a node of protected objects.
abbrev pub AnswersAsNode : Exchange → NodeState Running → NodeState Running → Result Lengths Refusal
    → Type 0
AnswersAsNode exchange old new result =
    RequestAnswers objects_next objects_answers objects_image (asked_of exchange.request) old new
    exchange.before exchange.after result

-- The answer of a task.
abbrev pub AnswersAsTask : Exchange → Calls → Calls → Result Lengths Refusal → Type 0
AnswersAsTask exchange old new result =
    TaskAnswers (task_asked_of exchange.request) old new exchange.before exchange.after result

-- The answer of an actor to a request to this kind; none from an actor of the other kind, and then
-- nothing changed.
abbrev pub ActorAnswers : ActorKind → Exchange → Actor → Actor → Option (Result Lengths Refusal)
    → Type 0
ActorAnswers kinds.Node exchange (Node old) (Node new) (Some result) =
    AnswersAsNode exchange old new result
ActorAnswers kinds.Task exchange (Task old) (Task new) (Some result) =
    AnswersAsTask exchange old new result
ActorAnswers kinds.Node exchange (Task old) new None = ChangesNothing exchange (Task old) new
ActorAnswers kinds.Task exchange (Node old) new None = ChangesNothing exchange (Node old) new
ActorAnswers kind exchange old new result = ⊥

-- The answer of the actor that a handle keeps; none if the handle is closed, and it stays closed.
abbrev pub HandleAnswers : ActorKind → Exchange → Option Actor → Option Actor
    → Option (Result Lengths Refusal) → Type 0
HandleAnswers kind exchange (Some old) (Some new) result = ActorAnswers kind exchange old new result
HandleAnswers kind exchange None new None = ChangesNothing exchange None new
HandleAnswers kind exchange old new result = ⊥

-- What a node's last step gave besides its bytes, as many of the ends of its packets as the array
-- has room for at the array's front; nothing of a task.
abbrev pub ActorShows : Actor → List ℕ → List ℕ → Option LastStep → Type 0
ActorShows (Node node) before after (Some step) =
    (after ≡ with_front node.ends before)
    × (step ≡ record { packets = length node.ends; not_taken = node.not_taken })
ActorShows (Task task) before after None = after ≡ before
ActorShows actor before after step = ⊥

-- the same of the actor that a handle keeps; nothing of a closed handle
abbrev pub HandleShows : Option Actor → List ℕ → List ℕ → Option LastStep → Type 0
HandleShows (Some actor) before after step = ActorShows actor before after step
HandleShows None before after None = after ≡ before
HandleShows None before after step = ⊥

-- What a node is advised after quiet turns, and the caller's patience before and after that; nothing
-- is advised to a task.
abbrev pub ActorAdvises : Actor → ℕ → Patience → Patience → Option Advice → Type 0
ActorAdvises (Node node) turns before after (Some advice) =
    let situation = situation_of objects_next objects_answers node in
    (advice ≡ advice_after turns situation before) × (after ≡ patience_after turns situation before)
ActorAdvises (Task task) turns before after None = after ≡ before
ActorAdvises actor turns before after advice = ⊥

-- the same of the actor that a handle keeps; nothing by a closed handle
abbrev pub HandleAdvises : Option Actor → ℕ → Patience → Patience → Option Advice → Type 0
HandleAdvises (Some actor) turns before after advice =
    ActorAdvises actor turns before after advice
HandleAdvises None turns before after None = after ≡ before
HandleAdvises None turns before after advice = ⊥

-- It keeps the node of this number of the deck that the text means, opened over these bytes.
abbrev pub KeepsNode : List ℕ → ℕ → List ℕ → Option Actor → ℕ → ℕ → Type 0
KeepsNode text number bytes (Some (Node node)) records kept =
    OpensNode text number bytes node records kept
KeepsNode text number bytes (Some (Task task)) records kept = ⊥
KeepsNode text number bytes None records kept = ⊥

-- It keeps the task of this number, which has made n calls, none of which is outstanding.
abbrev pub KeepsTaskAfter : ℕ → ℕ → Option Actor → Type 0
KeepsTaskAfter number calls kept = kept ≡ Some (Task (task_after number calls))

-- It keeps the task of this number, which has made no call.
abbrev pub KeepsTask : ℕ → Option Actor → Type 0
KeepsTask number kept = kept ≡ Some (Task (no_calls number))

-- Why no task is opened: no task has this number, or memory ran out.
abbrev pub IsNoTask : ℕ → Refusal → Type 0
IsNoTask number (refusals.Fault faults.OutOfMemory) = Unit {0}
IsNoTask number (refusals.Fault faults.BadConfig) = ¬ IsTask number
IsNoTask number _ = ⊥
