-- A call that a task by handle waits for, or makes next: what some nodes and this task can go on to
-- do, and what becomes of the call.
use Rattle.std.specs.Prelude.{◌≡◌, ◌≢◌, ◌⊎◌, ℕ, Some, None, List, [], ◌∷◌, ◌++◌, length}
use Rattle.rp_base.specs.Sets.{Has}
use Rattle.rp_base.specs.declared.action.Action.{Action}
use Rattle.rp_base.specs.declared.config.Config.{Config}
use Rattle.rp_base.specs.declared.record.Rec.{Rec}
use Rattle.rp_base.specs.declared.reply.Answer.{Answer}
use Rattle.rp_codec.specs.Text.{reply_text}
use Rattle.rp_machine.specs.Places.{IsPlace, IsAnswerOf}
use Rattle.rp_model.specs.World.{part_at}
use Rattle.rp_agreement.specs.Answered.{named}
use Rattle.rp_world.specs.rp_store.specs.Records.{AreRecordsOf}
use Rattle.rp_requests.specs.Nodes.{NodeState}
use Rattle.rp_requests.specs.rp_tasks.specs.Calls.{Calls, no_calls}
use Rattle.rp_installations.specs.Moves.{AnsweredRequest, Moves, OpensFrom, AnswersBy}
use Rattle.rp_installations.specs.Outcomes.{IsOpenAt, applied_by}
use Rattle.rp_installations.specs.Sites.{NodeSite, Installation, unopened_task}

-- each of these nodes has these whole records among the bytes of its device that are synced
pub record AreOnDevices {S : Type 0} (i : Installation S) (quorum : List ℕ)
    (records : ℕ → List Rec) : Type 0 where
  pub each : (y : ℕ) → Has y quorum → (site : NodeSite S) × (torn : List ℕ)
      × (part_at i.nodes y ≡ Some site) × AreRecordsOf site.synced (records y) torn

-- The task is open, and its handle keeps these calls; its requests returned these replies.
pub record IsTaskAt {S : Type 0} (i : Installation S) (t : ℕ) (calls : Calls)
    (replies : List (List ℕ)) : Type 0 where
  pub site_is : part_at i.tasks t
      ≡ Some (record { task = Some calls; replies = replies })

-- The task waits for none, and its handle keeps these calls; or it was never opened, and made none.
pub data IsIdleAt {S : Type 0} (i : Installation S) (t : ℕ) (calls : Calls)
    (replies : List (List ℕ)) : Type 0 where
  Open : IsTaskAt i t calls replies → calls.outstanding ≡ None → IsIdleAt i t calls replies
  Unopened : part_at i.tasks t ≡ Some unopened_task → calls ≡ no_calls t → replies ≡ []
      → IsIdleAt i t calls replies

-- The task has got this answer to its call of this number too, after these replies, and waits for
-- none.
abbrev pub HasTaken : {S : Type 0} → Installation S → ℕ → ℕ → List (List ℕ) → Answer → Type 0
HasTaken i t number replies answer =
    IsTaskAt i t (record { task = t; made = number; outstanding = None })
    (replies ++ reply_text answer.reply ∷ [])

-- Some of the packets that were handed on are lost, and nothing else changed.
pub record HasLost {S : Type 0} (now after : Installation S) : Type 0 where
  pub left : (packet : List ℕ) → Has packet after.handed_on → Has packet now.handed_on
  pub goes : after ≡ record now { handed_on = after.handed_on }

-- Only nodes of the quorum and the task were moved.
pub record IsTheirMove {S : Type 0} (quorum : List ℕ) (t : ℕ) (before after : Installation S)
    : Type 0 where
  pub nodes : (y : ℕ) → (¬ Has y quorum) → part_at after.nodes y ≡ part_at before.nodes y
  pub tasks : (u : ℕ) → u ≢ t → part_at after.tasks u ≡ part_at before.tasks u

-- so by each of these moves
abbrev pub AreTheirMoves : {S : Type 0} → List ℕ → ℕ → Installation S → List (Installation S)
    → Type 0
AreTheirMoves quorum t before [] = Unit {0}
AreTheirMoves quorum t before (middle ∷ rest) =
    IsTheirMove quorum t before middle × AreTheirMoves quorum t middle rest

module _ {S : Type 0} (next : S → Action → S) (answers : S → Action → List Answer)
    (image : S → List ℕ) (config : Config) (begin : S) where
  -- A request to a node is answered by the machine, in a buffer that keeps its length.
  abbrev pub AnswersInPlace : AnsweredRequest → NodeState S → NodeState S → Type 0
  AnswersInPlace exchange old new =
      AnswersBy next answers image exchange old new
      × (length exchange.after ≡ length exchange.before)

  -- Moves that keep the rules, of nodes of the quorum and of this task alone, lead from the one to
  -- the other.
  pub record GoesOnByHandle (quorum : List ℕ) (t : ℕ) (now later : Installation S)
      : Type 0 where
    pub moves : List (Installation S)
    pub all : Moves config.nodes (OpensFrom next answers image config begin) AnswersInPlace now moves
        later
    pub theirs : AreTheirMoves quorum t now moves

  -- The leader is open, and has applied the call of this task and number at a place where it
  -- counts.
  pub record IsCountedAt (leader t number : ℕ) (i : Installation S) : Type 0 where
    pub site : NodeSite S
    pub node : NodeState S
    pub opened : IsOpenAt i leader site node
    pub place : ℕ
    pub counts : IsPlace next answers begin (applied_by node) (named t number) place

  -- It has; and if what it has applied answers the call, the task has got this answer.
  pub record HasCounted (leader t number : ℕ) (replies : List (List ℕ)) (i : Installation S)
      : Type 0 where
    pub at : IsCountedAt leader t number i
    pub replied : (answer : Answer)
        → IsAnswerOf next answers begin (applied_by at.node) (named t number) answer
        → HasTaken i t number replies answer

  -- A task's call of this number can count: by such moves it has counted at the leader, and is
  -- answered if what the leader has applied answers it.
  pub record CanCountByHandle (quorum : List ℕ) (leader t number : ℕ) (replies : List (List ℕ))
      (now : Installation S) : Type 0 where
    pub later : Installation S
    pub goes_on : GoesOnByHandle quorum t now later
    pub counted : HasCounted leader t number replies later

  -- The task has got the answer that these actions give to its call.
  pub record IsRepliedByHandle (t number : ℕ) (replies : List (List ℕ)) (applied : List Action)
      (i : Installation S) : Type 0 where
    pub answer : Answer
    pub given : IsAnswerOf next answers begin applied (named t number) answer
    pub taken : HasTaken i t number replies answer

  -- A task's call of this number can be answered, by such moves: it has counted at the leader, and
  -- the task has got the answer; or what the leader has applied gives none, and the call waits at
  -- its object.
  pub record CanBeAnsweredByHandle (quorum : List ℕ) (leader t number : ℕ)
      (replies : List (List ℕ)) (now : Installation S) : Type 0 where
    pub later : Installation S
    pub goes_on : GoesOnByHandle quorum t now later
    pub at : IsCountedAt leader t number later
    pub ends : IsRepliedByHandle t number replies (applied_by at.node) later
        ⊎ ((answer : Answer)
        → ¬ IsAnswerOf next answers begin (applied_by at.node) (named t number) answer)
