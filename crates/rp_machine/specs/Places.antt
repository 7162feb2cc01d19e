-- The place of a call in a list of actions, and its answer.
use Rattle.std.specs.Prelude.{◌≡◌, ℕ, suc, Bool, true, List, [], ◌∷◌, ◌++◌, length}
use Rattle.rp_base.specs.Sets.{Has}
use Rattle.rp_base.specs.declared.action.Action.{Action}
use Rattle.rp_base.specs.declared.reply.Answer.{Answer}
use Rattle.rp_machine.specs.Calls.{CallName, calls_of, call_of}
use Rattle.rp_machine.specs.Replay.{counts, replay_of, replay_answers}

module _ {S : Type 0} (next : S → Action → S) (answers : S → Action → List Answer) (begin : S) where
  -- the action counts after these
  abbrev pub counts_after : List Action → Action → Bool
  counts_after before action =
      counts (replay_of next answers begin before).kept (replay_of next answers begin before).given
      action

  -- the place of a call in a list of actions: the position, from 1, where it counts
  pub record IsPlace (actions : List Action) (call : CallName) (position : ℕ) : Type 0 where
    pub before : List Action
    pub action : Action
    pub following : List Action
    pub occurs : actions ≡ before ++ action ∷ following
    pub here : position ≡ suc (length before)
    pub is_call : calls_of action ≡ call ∷ []
    pub takes_effect : counts_after before action ≡ true

  -- the one place of a call in a list of actions
  pub record IsOnlyPlace (actions : List Action) (call : CallName) (position : ℕ) : Type 0 where
    pub is_place : IsPlace actions call position
    pub only : (other : ℕ) → IsPlace actions call other → other ≡ position

  -- the answer of a call in a list of actions: the one that its replay gives
  abbrev pub IsAnswerOf : List Action → CallName → Answer → Type 0
  IsAnswerOf actions call answer =
      (call_of answer ≡ call) × Has answer (replay_answers next answers begin actions)

  -- A call has its reply in a list of actions: it takes effect at one place, and there alone, and
  -- the reply is the answer that the list gives to it.
  pub record HasReply (actions : List Action) (call : CallName) (answer : Answer) : Type 0 where
    pub place : ℕ
    pub takes_effect : IsOnlyPlace actions call place
    pub is_answer : IsAnswerOf actions call answer
