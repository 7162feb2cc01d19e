-- The orders in which the actions of a program may be decided, and the states that they lead to.
use Rattle.std.specs.Prelude.{◌≡◌, ℕ, IsTrue, List, [], ◌∷◌, ◌++◌}
use Rattle.rp_machine.specs.rp_base.specs.Action.{IsRight, IsIndex}
use Rattle.rp_machine.specs.rp_base.specs.Number.{IsTask}
use Rattle.rp_machine.specs.rp_base.specs.Sets.{Has}
use Rattle.rp_machine.specs.rp_base.specs.declared.action.Action.{Action}
use Rattle.rp_machine.specs.rp_base.specs.declared.reply.Answer.{Answer}
use Rattle.rp_machine.specs.Asked.{last_number, last_occurrence, waits}
use Rattle.rp_machine.specs.Places.{counts_after}
use Rattle.rp_machine.specs.Replay.{Replayed, replay_of, counted_of, replay_answers, answers_after}
use Rattle.rp_orders.specs.Guards.{is_allowed, may_go_on}
use Rattle.rp_orders.specs.declared.guard.Guard.{Guard}

-- each of these actions is among those that may happen
abbrev pub AreAmong : List Action → List Action → Type 0
AreAmong may actions = (action : Action) → Has action actions → Has action may

-- each of them is right
abbrev pub AreRight : List Action → Type 0
AreRight actions = (action : Action) → Has action actions → IsRight action

-- Two orders have the same effect so far: one state of the program, as many calls of each task, the
-- same last occurrence of each source, and the same tasks whose next call may be made. Whatever is
-- decided next has the same effect after both.
pub record AreAlike {S : Type 0} (guards : List Guard) (one other : Replayed S) : Type 0 where
  pub state : one.state ≡ other.state
  pub calls : (task : ℕ) → IsTask task
      → last_number task one.kept ≡ last_number task other.kept
  pub occurrences : (source : ℕ) → IsIndex source
      → last_occurrence source one.kept ≡ last_occurrence source other.kept
  pub allowed : (task : ℕ) → IsTask task
      → may_go_on guards one.kept one.given task ≡ may_go_on guards other.kept other.given task

module _ {S : Type 0} (next : S → Action → S) (answers : S → Action → List Answer) (begin : S)
    (guards : List Guard) where
  -- the two orders have the same effect
  abbrev pub LeadAlike : List Action → List Action → Type 0
  LeadAlike one other =
      AreAlike guards (replay_of next answers begin one) (replay_of next answers begin other)

  -- one of the orders that were found has the same effect
  abbrev pub IsReached : List (List Action) → List Action → Type 0
  IsReached found order = (other : List Action) × Has other found × LeadAlike order other

  -- the guards let the action be decided after the order
  abbrev pub MayFollow : List Action → Action → Type 0
  MayFollow order action = IsTrue (is_allowed guards (counted_of next answers begin order)
      (replay_answers next answers begin order) action)

  -- each action of the order that counts is one that the guards let be decided after those before
  abbrev pub IsGuarded : List Action → Type 0
  IsGuarded order = (before : List Action) (action : Action) (rest : List Action)
      → order ≡ before ++ action ∷ rest → IsTrue (counts_after next answers begin before action)
      → MayFollow before action

  -- one of the orders that were found, and then one of the actions that may happen, give the answer
  pub record IsGiven (may : List Action) (found : List (List Action)) (answer : Answer)
      : Type 0 where
    pub before : List Action
    pub action : Action
    pub found_before : Has before found
    pub may_happen : Has action may
    pub may_follow : MayFollow before action
    pub gives : Has answer (answers_after next answers (replay_of next answers begin before) action)

  -- none of the actions that may happen changes anything after the order
  abbrev pub IsFinal : List Action → List Action → Type 0
  IsFinal may order = (action : Action) → Has action may → MayFollow order action
      → LeadAlike (order ++ action ∷ []) order

  -- After the order a call of the task waits, and whatever may happen changes nothing: the task
  -- waits for ever.
  pub record IsStuck (may : List Action) (task : ℕ) (order : List Action) : Type 0 where
    pub waits : IsTrue (waits task (counted_of next answers begin order)
        (replay_answers next answers begin order))
    pub quiet : IsFinal may order

  -- The orders that were found are of actions that may happen, by the guards too, the empty one is
  -- there, and each with any action that may happen after it, be it the same again, has the effect
  -- of one of them.
  pub record AreClosed (may : List Action) (found : List (List Action)) : Type 0 where
    pub starts : Has [] found
    pub among : (order : List Action) → Has order found → AreAmong may order
    pub guarded : (order : List Action) → Has order found → IsGuarded order
    pub goes_on : (order : List Action) (action : Action) → Has order found → Has action may
        → MayFollow order action → IsReached found (order ++ action ∷ [])

  -- An order of right actions, as long as it likes and with whatever repeats, of which each that
  -- counts is one that may happen, and that the guards let be decided.
  pub record IsOrderOf (may : List Action) (order : List Action) : Type 0 where
    pub right : AreRight order
    pub among : AreAmong may (counted_of next answers begin order)
    pub guarded : IsGuarded order

  -- some order of what may happen gives the answer
  abbrev pub CanBeGiven : List Action → Answer → Type 0
  CanBeGiven may answer = (order : List Action) × IsOrderOf may order
      × Has answer (replay_answers next answers begin order)
